-- A cycle is a legal order.
use Rattle.std.proofs.Common.{◌≡◌, ℕ, zero, suc, true, false, cond, List, [], ◌∷◌, ◌++◌, Option, Some, None, refl, sym, ap, ◌∙◌}
use Rattle.std.specs.Prelude.{Bool, ◌&&◌, option_and_then, flat_map}
use Rattle.std.specs.List.{find}
use Rattle.std.proofs.lemmas.Bool.{and_parts}
use Rattle.tis_grid.specs.declared.event.Event.{Event}
use Rattle.tis_grid.specs.State.{Grid, State, node_at}
use Rattle.tis_grid.specs.Events.{is_enabled, after_event}
use Rattle.tis_grid.specs.Orders.{after}
use Rattle.tis_clock.specs.Cycle.{writers, is_ready, is_writing, directions, ways_of_ready, gives_old, first_way, reads_or_steps, ways_to_give, gives_out, state_after, and_then, in_turn, all_tiles, first_half, second_half, cycle_events, after_cycle, cycles_events, after_cycles}
use Rattle.tis_clock.specs.Laws.{CyclesAreLegal, RunsAreLegal}

-- what is found passes the test
pub find_passes : {X : Type 0} (test : X → Bool) (xs : List X) (x : X) → find test xs ≡ Some x → test x ≡ true
find_passes test [] x is = absurd cc
find_passes test (first ∷ xs) x is =
    elim (test first) as (λ b. test first ≡ b → cond b (Some first) (find test xs) ≡ Some x → test x ≡ true) [
      | true ↦ λ passes found. let same : first ≡ x = cc in ap test (sym same) ∙ passes
      | false ↦ λ fails found. find_passes test xs x found
    ] refl is

-- each event that is chosen can happen
abbrev pub ChoosesEnabled : Grid → (State → ℕ → Option Event) → Type 0
ChoosesEnabled grid choose = (now : State) (tile : ℕ) (event : Event) → choose now tile ≡ Some event → is_enabled grid now event ≡ true

-- where a test holds, what is chosen then
pub chosen_where : (test : Bool) (choice : Option Event) (event : Event) → cond test choice None ≡ Some event → choice ≡ Some event
chosen_where true choice event is = is
chosen_where false choice event is = absurd cc

pub readers_choose : (grid : Grid) (before : State) → ChoosesEnabled grid (reads_or_steps grid (writers before))
readers_choose grid before now tile event is =
    let found : first_way grid (writers before) now (ways_of_ready grid tile) ≡ Some event = chosen_where (is_ready (node_at before tile).mode) (first_way grid (writers before) now (ways_of_ready grid tile)) event is in
    (and_parts (gives_old (writers before) event) (is_enabled grid now event) (find_passes (λ e. gives_old (writers before) e && is_enabled grid now e) (ways_of_ready grid tile) event found)).1

pub writers_choose : (grid : Grid) (before : State) → ChoosesEnabled grid (gives_out grid (writers before))
writers_choose grid before now tile event is =
    find_passes (is_enabled grid now) (flat_map (ways_to_give grid tile) directions) event
    (chosen_where (is_writing (node_at before tile).mode) (find (is_enabled grid now) (flat_map (ways_to_give grid tile) directions)) event is)

module _ (grid : Grid) where
  -- an event that can happen leads to the state behind it
  pub step_leads : (state : State) (event : Event) (events : List Event) → is_enabled grid state event ≡ true → after grid state (event ∷ events) ≡ after grid (after_event grid state event) events
  step_leads state event events is = ap (λ (enabled : Bool). option_and_then (λ next. after grid next events) (cond enabled (Some (after_event grid state event)) None)) is

  pub in_turn_leads : (choose : State → ℕ → Option Event) → ChoosesEnabled grid choose → (tiles : List ℕ) (now : State) → after grid now (in_turn grid choose now tiles) ≡ Some (state_after grid now (in_turn grid choose now tiles))
  in_turn_leads choose chooses [] now = refl
  in_turn_leads choose chooses (tile ∷ tiles) now =
      let rest : State → List Event = λ next. in_turn grid choose next tiles in
      elim (choose now tile) as (λ choice. choose now tile ≡ choice → after grid now (and_then grid now choice (λ next. in_turn grid choose next tiles)) ≡ Some (state_after grid now (and_then grid now choice (λ next. in_turn grid choose next tiles)))) [
        | None ↦ λ is. in_turn_leads choose chooses tiles now
        | Some event ↦ λ is. step_leads now event (in_turn grid choose (after_event grid now event) tiles) (chooses now tile event is) ∙ in_turn_leads choose chooses tiles (after_event grid now event)
      ] refl

  -- an order and then another
  pub leads_then : (one other : List Event) (state middle end : State) → after grid state one ≡ Some middle → after grid middle other ≡ Some end → after grid state (one ++ other) ≡ Some end
  leads_then [] other state middle end first second = let same : state ≡ middle = cc in ap (λ (s : State). after grid s other) same ∙ second
  leads_then (event ∷ one) other state middle end first second =
      elim (is_enabled grid state event) as (λ b. option_and_then (λ next. after grid next one) (cond b (Some (after_event grid state event)) None) ≡ Some middle → option_and_then (λ next. after grid next (one ++ other)) (cond b (Some (after_event grid state event)) None) ≡ Some end) [
        | true ↦ λ leads. leads_then one other (after_event grid state event) middle end leads second
        | false ↦ λ leads. absurd cc
      ] first

  pub after_both : (one other : List Event) (state : State) → state_after grid state (one ++ other) ≡ state_after grid (state_after grid state one) other
  after_both [] other state = refl
  after_both (event ∷ one) other state = after_both one other (after_event grid state event)

pub cycles_are_legal : CyclesAreLegal
cycles_are_legal grid state =
    let readers = first_half grid state in
    let middle = state_after grid state readers in
    let others = second_half grid state middle in
    leads_then grid readers others state middle (state_after grid middle others)
    (in_turn_leads grid (reads_or_steps grid (writers state)) (readers_choose grid state) (all_tiles grid) state)
    (in_turn_leads grid (gives_out grid (writers state)) (writers_choose grid state) (all_tiles grid) middle)
    ∙ ap Some (sym (after_both grid readers others state))

pub runs_are_legal : RunsAreLegal
runs_are_legal grid state zero = refl
runs_are_legal grid state (suc more) =
    leads_then grid (cycle_events grid state) (cycles_events grid (after_cycle grid state) more) state (after_cycle grid state) (after_cycles grid (after_cycle grid state) more)
    (cycles_are_legal grid state) (runs_are_legal grid (after_cycle grid state) more)
