-- What a run of a grid comes to.
use Rattle.std.proofs.Common.{◌≡◌, ℕ, zero, suc, ◌+◌, Bool, true, false, cond, List, [], ◌∷◌, length, take, Option, Some, None, refl, sym, ap, subst, ◌∙◌, inl, inr, arith}
use Rattle.std.specs.Prelude.{◌⊎◌, Result, Ok, slice_get, unwrap_or, option_and_then}
use Rattle.std.proofs.lemmas.Bool.{cases_Bool}
use Rattle.tis_grid.specs.declared.event.Event.{Event}
use Rattle.tis_grid.specs.declared.running.Ended.{Ended}
use Rattle.tis_grid.specs.declared.running.Ended.TheVariants.{Rest, Limit}
use Rattle.tis_grid.specs.Puzzle.{Puzzle}
use Rattle.tis_grid.specs.State.{Grid, IsGrid, State, start}
use Rattle.tis_grid.specs.Events.{is_enabled, IsEnabled, after_event, step}
use Rattle.tis_grid.specs.Orders.{after}
use Rattle.tis_grid.specs.Choices.{enabled_events}
use Rattle.tis_grid.specs.Drawn.{drawn}
use Rattle.tis_grid.specs.Running.{StopsAt, EndsAs}
use Rattle.tis_grid.proofs.Listed.{rest_lists_none}
use Rattle.tis_report.specs.Reports.{ended_text, replayed_text, not_enabled_text}
use Rattle.tis_cli.specs.declared.status.Status.TheVariants.{Done, Refused}
use Rattle.tis_cli.specs.declared.status.Refusal.TheVariants.{NotEnabled}
use Rattle.tis_cli.specs.Answers.{Completion, AllDone, Limited, Stopped, Makes, completion_status}
use Rattle.tis_cli.specs.Runs.{ended_by, ordered, replayed_at, replayed_from, replayed, over_events}
use Rattle.tis_cli.specs.Ends.{ended_status}

-- ---- an order that is handed in

-- a whole order is replayed to its end
pub replayed_whole : (grid : Grid) (index : ℕ) (events : List Event) (state end : State) → after grid state events ≡ Some end → replayed_from grid index events state ≡ Makes AllDone (replayed_text (index + length events) grid.puzzle end)
replayed_whole grid index [] state end is =
    let same : state ≡ end = cc in
    ap (λ (s : State). Makes AllDone (replayed_text index grid.puzzle s)) same ∙ ap (λ (n : ℕ). Makes AllDone (replayed_text n grid.puzzle end)) (omega arith)
replayed_whole grid index (event ∷ events) state end is = by_step (step grid state event) (λ next. replayed_whole grid (index + 1) events next end) is
  where
    by_step : (next : Option State) → ((s : State) → after grid s events ≡ Some end → replayed_from grid (index + 1) events s ≡ Makes AllDone (replayed_text (index + 1 + length events) grid.puzzle end)) → option_and_then (λ s. after grid s events) next ≡ Some end → replayed_at grid.puzzle state index next (λ s. replayed_from grid (index + 1) events s) ≡ Makes AllDone (replayed_text (index + length (event ∷ events)) grid.puzzle end)
    by_step None behind is = absurd cc
    by_step (Some next) behind is = behind next is ∙ ap (λ (n : ℕ). Makes AllDone (replayed_text n grid.puzzle end)) (omega arith)

-- an order is replayed up to the first event that can't happen
pub replayed_up_to : (grid : Grid) (at index : ℕ) (events : List Event) (state end : State) (event : Event) → after grid state (take index events) ≡ Some end → slice_get events index ≡ Some event → (IsEnabled grid end event → ⊥) → replayed_from grid at events state ≡ Makes (Stopped (at + index)) (not_enabled_text (at + index) grid.puzzle end)
replayed_up_to grid at index [] state end event is found refused = absurd cc
replayed_up_to grid at zero (first ∷ events) state end event is found refused =
    let same : state ≡ end = cc in
    let chosen : first ≡ event = cc in
    by_test (cases_Bool (is_enabled grid state first)) same chosen
  where
    by_test : ((is_enabled grid state first ≡ true) ⊎ (is_enabled grid state first ≡ false)) → state ≡ end → first ≡ event → replayed_at grid.puzzle state at (step grid state first) (λ s. replayed_from grid (at + 1) events s) ≡ Makes (Stopped (at + 0)) (not_enabled_text (at + 0) grid.puzzle end)
    by_test (inl can) same chosen = absurd (refused (subst (λ (e : Event). is_enabled grid end e ≡ true) chosen (subst (λ (s : State). is_enabled grid s first ≡ true) same can)))
    by_test (inr never) same chosen =
        ap (λ (b : Bool). replayed_at grid.puzzle state at (cond b (Some (after_event grid state first)) None) (λ s. replayed_from grid (at + 1) events s)) never
        ∙ ap (λ (s : State). Makes (Stopped at) (not_enabled_text at grid.puzzle s)) same
        ∙ ap (λ (n : ℕ). Makes (Stopped n) (not_enabled_text n grid.puzzle end)) (omega arith)
replayed_up_to grid at (suc index) (first ∷ events) state end event is found refused = by_step (step grid state first) (λ next leads. replayed_up_to grid (at + 1) index events next end event leads found refused) is
  where
    by_step : (next : Option State) → ((s : State) → after grid s (take index events) ≡ Some end → replayed_from grid (at + 1) events s ≡ Makes (Stopped (at + 1 + index)) (not_enabled_text (at + 1 + index) grid.puzzle end)) → option_and_then (λ s. after grid s (take index events)) next ≡ Some end → replayed_at grid.puzzle state at next (λ s. replayed_from grid (at + 1) events s) ≡ Makes (Stopped (at + suc index)) (not_enabled_text (at + suc index) grid.puzzle end)
    by_step None behind is = absurd cc
    by_step (Some next) behind is = behind next is ∙ ap (λ (n : ℕ). Makes (Stopped n) (not_enabled_text n grid.puzzle end)) (omega arith)

nothing_before : (n : ℕ) → 0 + n ≡ n
nothing_before n = omega arith

counted : (given count : ℕ) → count ≡ given → 0 + given ≡ count
counted given count is = omega arith

at_start : (grid : Grid) (order : Result (List Event) ℕ) (events given : List Event) → order ≡ Ok events → given ≡ events → replayed order grid ≡ replayed_from grid 0 given (start grid)
at_start grid order events given order_is given_is = ap (λ (o : Result (List Event) ℕ). over_events o (λ l. replayed_from grid 0 l (start grid))) order_is ∙ ap (λ (l : List Event). replayed_from grid 0 l (start grid)) (sym given_is)

-- the events of a text that were all applied
pub text_replayed : (grid : Grid) (order : Result (List Event) ℕ) (events given : List Event) (state end : State) (count : ℕ) (puzzle : Puzzle) (text : List ℕ) → order ≡ Ok events → given ≡ events → state ≡ start grid → after grid state given ≡ Some end → count ≡ length given → puzzle ≡ grid.puzzle → text ≡ replayed_text count puzzle end → (completion : Completion) × (replayed order grid ≡ Makes completion text) × (Done ≡ completion_status completion)
text_replayed grid order events given state end count puzzle text order_is given_is state_is leads count_is puzzle_is text_is = (
  AllDone,
  at_start grid order events given order_is given_is
      ∙ replayed_whole grid 0 given (start grid) end (subst (λ (s : State). after grid s given ≡ Some end) state_is leads)
      ∙ ap (λ (n : ℕ). Makes AllDone (replayed_text n grid.puzzle end)) (counted (length given) count count_is)
      ∙ ap (λ (p : Puzzle). Makes AllDone (replayed_text count p end)) (sym puzzle_is)
      ∙ ap (λ (t : List ℕ). Makes AllDone t) (sym text_is),
  refl,
)

-- the events of a text up to the first that can't happen
pub text_stopped : (grid : Grid) (order : Result (List Event) ℕ) (events given : List Event) (state end : State) (index : ℕ) (puzzle : Puzzle) (text : List ℕ) → order ≡ Ok events → given ≡ events → state ≡ start grid → StopsAt grid state given index end → puzzle ≡ grid.puzzle → text ≡ not_enabled_text index puzzle end → (completion : Completion) × (replayed order grid ≡ Makes completion text) × (Refused (NotEnabled index) ≡ completion_status completion)
text_stopped grid order events given state end index puzzle text order_is given_is state_is stops puzzle_is text_is = (
  Stopped index,
  at_start grid order events given order_is given_is
      ∙ replayed_up_to grid 0 index given (start grid) end stops.refused.0 (subst (λ (s : State). after grid s (take index given) ≡ Some end) state_is stops.before) stops.refused.1 stops.refused.2
      ∙ ap (λ (n : ℕ). Makes (Stopped n) (not_enabled_text n grid.puzzle end)) (nothing_before index)
      ∙ ap (λ (p : Puzzle). Makes (Stopped index) (not_enabled_text index p end)) (sym puzzle_is)
      ∙ ap (λ (t : List ℕ). Makes (Stopped index) t) (sym text_is),
  refl,
)

-- ---- an order that is drawn

-- the end of a drawn order, as it was told
pub ended_so : (grid : Grid) → IsGrid grid → (seed limit : ℕ) (end : State) (ended : Ended) → after grid (start grid) (drawn grid (start grid) seed limit) ≡ Some end → EndsAs grid end limit (drawn grid (start grid) seed limit) ended → (completion : Completion) × (ordered seed limit grid ≡ Makes completion (ended_text ended grid.puzzle end)) × (ended_status ended ≡ completion_status completion)
ended_so grid is_grid seed limit end ended leads ends = by_end ended ends
  where
    here : ordered seed limit grid ≡ ended_by (length (drawn grid (start grid) seed limit)) grid.puzzle end (enabled_events grid end)
    here = ap (λ (s : Option State). ended_by (length (drawn grid (start grid) seed limit)) grid.puzzle (unwrap_or s (start grid)) (enabled_events grid (unwrap_or s (start grid)))) leads

    by_list : (done : ℕ) (listed : List Event) → (listed ≡ [] → ⊥) → ended_by done grid.puzzle end listed ≡ Makes (Limited done) (ended_text (Limit done) grid.puzzle end)
    by_list done [] some = absurd (some refl)
    by_list done (event ∷ listed) some = refl

    by_end : (e : Ended) → EndsAs grid end limit (drawn grid (start grid) seed limit) e → (completion : Completion) × (ordered seed limit grid ≡ Makes completion (ended_text e grid.puzzle end)) × (ended_status e ≡ completion_status completion)
    by_end (Rest done) ends =
        (AllDone, here ∙ ap (ended_by (length (drawn grid (start grid) seed limit)) grid.puzzle end) ((rest_lists_none grid end is_grid).0 ends.1) ∙ ap (λ (n : ℕ). Makes AllDone (ended_text (Rest n) grid.puzzle end)) (sym ends.0), refl)
    by_end (Limit done) ends =
        (Limited done, here ∙ by_list (length (drawn grid (start grid) seed limit)) (enabled_events grid end) (λ none. ends.2 ((rest_lists_none grid end is_grid).1 none)) ∙ ap (λ (n : ℕ). Makes (Limited n) (ended_text (Limit n) grid.puzzle end)) (sym ends.0), refl)
