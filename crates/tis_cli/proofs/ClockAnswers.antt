-- What a run by the clock comes to.
use Rattle.std.proofs.Common.{◌≡◌, ℕ, zero, suc, ◌+◌, ◌≤◌, List, [], ◌∷◌, refl, sym, ap, subst, ◌∙◌, arith}
use Rattle.tis_grid.specs.declared.event.Event.{Event}
use Rattle.tis_grid.specs.declared.running.Ended.{Ended}
use Rattle.tis_grid.specs.declared.running.Ended.TheVariants.{Rest, Limit}
use Rattle.tis_grid.specs.Puzzle.{Puzzle}
use Rattle.tis_grid.specs.State.{Grid, IsGrid, State, start}
use Rattle.tis_grid.specs.Orders.{IsAtRest}
use Rattle.tis_clock.specs.Cycle.{cycle_events, after_cycle, after_cycles}
use Rattle.tis_clock.specs.Runs.{WorksBefore, EndsAs}
use Rattle.tis_clock.proofs.Resting.{rest_has_no_cycle}
use Rattle.tis_report.specs.Reports.{ended_text}
use Rattle.tis_cli.specs.Answers.{Completion, Answer, AllDone, Limited, Makes, completion_status}
use Rattle.tis_cli.specs.Runs.{ended_by, or_at_rest, clocked_from, clocked}
use Rattle.tis_cli.specs.Ends.{ended_status}

-- where the grid works, what follows is answered
by_works : (done : ℕ) (puzzle : Puzzle) (state : State) (events : List Event) (next : Answer) → (events ≡ [] → ⊥) → or_at_rest done puzzle state events next ≡ next
by_works done puzzle state [] next some = absurd (some refl)
by_works done puzzle state (event ∷ events) next some = refl

by_limit : (done : ℕ) (puzzle : Puzzle) (state : State) (events : List Event) → (events ≡ [] → ⊥) → ended_by done puzzle state events ≡ Makes (Limited done) (ended_text (Limit done) puzzle state)
by_limit done puzzle state [] some = absurd (some refl)
by_limit done puzzle state (event ∷ events) some = refl

module _ (grid : Grid) (is_grid : IsGrid grid) where
  -- a grid that works at the start works behind the first cycle as it works from there
  behind_first : (state : State) (count : ℕ) → WorksBefore grid state (suc count) → WorksBefore grid (after_cycle grid state) count
  behind_first state count works fewer less rest = works (suc fewer) (omega (arith, less)) rest

  works_now : (state : State) (count : ℕ) → WorksBefore grid state (suc count) → cycle_events grid state ≡ [] → ⊥
  works_now state count works none = works 0 (omega arith) ((rest_has_no_cycle grid state is_grid).1 none)

  -- at rest after so many cycles
  rests_behind : (at done more : ℕ) (state : State) → done ≤ more → IsAtRest grid (after_cycles grid state done) → WorksBefore grid state done →
      clocked_from grid at more state ≡ Makes AllDone (ended_text (Rest (at + done)) grid.puzzle (after_cycles grid state done))
  rests_behind at zero zero state within rest works =
      ap (ended_by at grid.puzzle state) ((rest_has_no_cycle grid state is_grid).0 rest) ∙ ap (λ n. Makes AllDone (ended_text (Rest n) grid.puzzle state)) (omega arith)
  rests_behind at zero (suc more) state within rest works =
      ap (λ events. or_at_rest at grid.puzzle state events (clocked_from grid (at + 1) more (after_cycle grid state))) ((rest_has_no_cycle grid state is_grid).0 rest)
      ∙ ap (λ n. Makes AllDone (ended_text (Rest n) grid.puzzle state)) (omega arith)
  rests_behind at (suc done) zero state within rest works = absurd (omega (arith, within))
  rests_behind at (suc done) (suc more) state within rest works =
      by_works at grid.puzzle state (cycle_events grid state) (clocked_from grid (at + 1) more (after_cycle grid state)) (works_now state done works)
      ∙ rests_behind (at + 1) done more (after_cycle grid state) (omega (arith, within)) rest (behind_first state done works)
      ∙ ap (λ n. Makes AllDone (ended_text (Rest n) grid.puzzle (after_cycles grid (after_cycle grid state) done))) (omega arith)

  -- and not at rest after any
  works_behind : (at most : ℕ) (state : State) → WorksBefore grid state (suc most) →
      clocked_from grid at most state ≡ Makes (Limited (at + most)) (ended_text (Limit (at + most)) grid.puzzle (after_cycles grid state most))
  works_behind at zero state works =
      by_limit at grid.puzzle state (cycle_events grid state) (works_now state 0 works) ∙ ap (λ n. Makes (Limited n) (ended_text (Limit n) grid.puzzle state)) (omega arith)
  works_behind at (suc most) state works =
      by_works at grid.puzzle state (cycle_events grid state) (clocked_from grid (at + 1) most (after_cycle grid state)) (works_now state (suc most) works)
      ∙ works_behind (at + 1) most (after_cycle grid state) (behind_first state (suc most) works)
      ∙ ap (λ n. Makes (Limited n) (ended_text (Limit n) grid.puzzle (after_cycles grid (after_cycle grid state) most))) (omega arith)

  from_none : (n : ℕ) → 0 + n ≡ n
  from_none n = omega arith

  -- the end of a run, as it was told
  pub clocked_so : (most : ℕ) (end : State) (ended : Ended) → EndsAs grid (start grid) most ended end → (completion : Completion) × (clocked most grid ≡ Makes completion (ended_text ended grid.puzzle end)) × (ended_status ended ≡ completion_status completion)
  clocked_so most end (Rest done) ends =
      let (within, is, rest, works) = ends in (
        AllDone,
        rests_behind 0 done most (start grid) within (subst (IsAtRest grid) is rest) works
            ∙ ap (λ n. Makes AllDone (ended_text (Rest n) grid.puzzle (after_cycles grid (start grid) done))) (from_none done)
            ∙ ap (λ s. Makes AllDone (ended_text (Rest done) grid.puzzle s)) (sym is),
        refl,
      )
  clocked_so most end (Limit done) ends =
      let (all, is, works) = ends in (
        Limited done,
        works_behind 0 most (start grid) (subst (WorksBefore grid (start grid)) (let one : most + 1 ≡ suc most = omega arith in one) works)
            ∙ ap (λ n. Makes (Limited n) (ended_text (Limit n) grid.puzzle (after_cycles grid (start grid) most))) (from_none most ∙ sym all)
            ∙ ap (λ s. Makes (Limited done) (ended_text (Limit done) grid.puzzle s)) (sym is),
        refl,
      )
