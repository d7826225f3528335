-- Verdicts, cycle by cycle.
use Rattle.std.proofs.Common.{◌≡◌, ℕ, zero, suc, ◌+◌, ◌<◌, ℤ, ◌++◌, true, false, List, [], ◌∷◌, map, get_or, cond, unwrap_or, Option, Some, None, refl, sym, ap, subst, ◌∙◌, arith}
use Rattle.std.specs.Prelude.{Bool, All}
use Rattle.std.specs.List.{list_all}
use Rattle.std.specs.Option.{option_or}
use Rattle.std.proofs.lemmas.Option.{none-some}
use Rattle.tis_grid.specs.declared.event.Event.{Event}
use Rattle.tis_grid.specs.State.{Grid, IsGrid, State, outs, empty_output, start}
use Rattle.tis_grid.specs.Orders.{Fits, IsAtRest}
use Rattle.tis_grid.specs.Choices.{enabled_events}
use Rattle.tis_grid.specs.Puzzle.{Output, Puzzle, has_output}
use Rattle.tis_grid.proofs.Grids.{outputs_pass_all}
use Rattle.tis_grid.proofs.Listed.{rest_lists_none}
use Rattle.tis_clock.specs.Cycle.{cycle_events, after_cycle}
use Rattle.tis_clock.proofs.Legal.{cycles_are_legal}
use Rattle.tis_grade.specs.declared.verdict.Verdict.{Verdict}
use Rattle.tis_grade.specs.declared.verdict.Verdict.TheVariants.{Late}
use Rattle.tis_grade.specs.declared.follow.Follow.{Follow}
use Rattle.tis_grade.specs.Verdict.{output_at, is_none, is_done, are_done, decided, or_later, verdict_from}
use Rattle.tis_grade.specs.Following.{IsFollowed, HoldsAt, IsFollowedIn, AreFollowed, AreBehind}
use Rattle.tis_grade.proofs.Following.{behind_at_more, each_followed}

-- ---- what a state decides

-- where the outputs decide, so does the state
pub decided_already : (fault whole stuck : Option Verdict) (verdict : Verdict) → Some verdict ≡ option_or fault whole → option_or fault (option_or whole stuck) ≡ Some verdict
decided_already None None stuck verdict is = absurd (none-some verdict (sym is))
decided_already None (Some whole) stuck verdict is = sym is
decided_already (Some fault) whole stuck verdict is = sym is

-- where they don't, it depends on whether anything more can happen
pub undecided : (fault whole stuck : Option Verdict) → None ≡ option_or fault whole → option_or fault (option_or whole stuck) ≡ stuck
undecided None None stuck is = refl
undecided None (Some whole) stuck is = absurd (none-some whole is)
undecided (Some fault) whole stuck is = absurd (none-some fault is)

none_where : (events : List Event) → (events ≡ [] → ⊥) → is_none events ≡ false
none_where [] some = absurd (some refl)
none_where (event ∷ events) some = refl

pub rest_listed : (grid : Grid) (state : State) → IsGrid grid → IsAtRest grid state → is_none (enabled_events grid state) ≡ true
rest_listed grid state is_grid rest = ap is_none ((rest_lists_none grid state is_grid).0 rest)

pub works_listed : (grid : Grid) (state : State) → IsGrid grid → (IsAtRest grid state → ⊥) → is_none (enabled_events grid state) ≡ false
works_listed grid state is_grid works = none_where (enabled_events grid state) (λ none. works ((rest_lists_none grid state is_grid).1 none))

-- whether all is as wanted
pub all_judged : (grid : Grid) (state : State) (follows : List (Option Follow)) (outputs : List Output) (result : Bool) → IsGrid grid → outputs ≡ grid.puzzle.outputs → (All (IsFollowedIn state follows) outputs → result ≡ list_all (is_done state) outputs) → AreFollowed grid.puzzle.outputs state follows → result ≡ are_done grid state
all_judged grid state follows outputs result is_grid is judges followed =
    let columns = is_grid.puzzle.tiles.allowed.0 in
    let below : All (λ o. o.position < 4) grid.puzzle.outputs = λ k d within. let inside = is_grid.puzzle.outputs_below k d within in omega (arith, inside, columns) in
    judges (subst (λ (all : List Output). All (IsFollowedIn state follows) all) (sym is) (each_followed grid.puzzle.outputs state follows is_grid.puzzle.outputs_distinct below followed))
    ∙ ap (λ (all : List Output). list_all (is_done state) all) is

-- ---- cycle by cycle

-- the verdict of the first state that decides
pub verdict_here : (grid : Grid) (limit : ℕ) (state : State) (cycles more : ℕ) (verdict : Verdict) → decided grid state cycles ≡ Some verdict → verdict_from grid limit state cycles more ≡ verdict
verdict_here grid limit state cycles zero verdict is = ap (λ (d : Option Verdict). or_later d (Late limit)) is
verdict_here grid limit state cycles (suc more) verdict is = ap (λ (d : Option Verdict). or_later d (verdict_from grid limit (after_cycle grid state) (cycles + 1) more)) is

-- where a state doesn't, that of the states behind it
pub verdict_later : (grid : Grid) (limit : ℕ) (state : State) (cycles more : ℕ) → decided grid state cycles ≡ None → verdict_from grid limit state cycles (suc more) ≡ verdict_from grid limit (after_cycle grid state) (cycles + 1) more
verdict_later grid limit state cycles more is = ap (λ (d : Option Verdict). or_later d (verdict_from grid limit (after_cycle grid state) (cycles + 1) more)) is

-- ---- a cycle

-- each output has what it had, and more
pub outputs_grow : (grid : Grid) (state : State) → IsGrid grid → Fits grid state → (position : ℕ) → position < 4 → (more : List ℤ) × (outs (after_cycle grid state) position ≡ outs state position ++ more)
outputs_grow grid state is_grid fits position below =
    let columns = is_grid.puzzle.tiles.allowed.0 in
    (_, outputs_pass_all grid state (cycle_events grid state) (after_cycle grid state) (record { is_grid = is_grid; fits = fits; leads = cycles_are_legal grid state }) position (omega (arith, below, columns)))

-- so what was followed before it is behind
pub cycle_leaves_behind : (grid : Grid) (state : State) (follows : List (Option Follow)) → IsGrid grid → Fits grid state → AreFollowed grid.puzzle.outputs state follows → AreBehind grid.puzzle.outputs (after_cycle grid state) follows
cycle_leaves_behind grid state follows is_grid fits followed position below =
    let (more, is) = outputs_grow grid state is_grid fits position below in
    behind_at_more _ (outs state position) more (outs (after_cycle grid state) position) (get_or follows position None) is (followed position below)

-- ---- the start

nothing_out : (test : Bool) → unwrap_or {T = List ℤ} (cond test (Some []) None) [] ≡ []
nothing_out true = refl
nothing_out false = refl

none_yet : (puzzle : Puzzle) (positions : List ℕ) (at : ℕ) → unwrap_or (get_or (map (λ (p : ℕ). empty_output puzzle p) positions) at None) [] ≡ []
none_yet puzzle [] at = refl
none_yet puzzle (p ∷ positions) zero = nothing_out (has_output puzzle.outputs p)
none_yet puzzle (p ∷ positions) (suc at) = none_yet puzzle positions at

-- no output has a value at the start
nothing_at : (grid : Grid) (state : State) (position : ℕ) → state ≡ start grid → outs state position ≡ []
nothing_at grid state position is = ap (λ (s : State). outs s position) is ∙ none_yet grid.puzzle _ position

-- so what is kept of each output before any event is behind none
pub start_behind : (grid : Grid) (state : State) (outputs : List Output) (a b c d : Option Follow) → state ≡ start grid → HoldsAt IsFollowed (output_at outputs 0) [] a → HoldsAt IsFollowed (output_at outputs 1) [] b → HoldsAt IsFollowed (output_at outputs 2) [] c → HoldsAt IsFollowed (output_at outputs 3) [] d →
    AreBehind outputs state (a ∷ b ∷ c ∷ d ∷ [])
start_behind grid state outputs a b c d is of_a of_b of_c of_d zero below = behind_at_more (output_at outputs 0) [] [] (outs state 0) a (nothing_at grid state 0 is) of_a
start_behind grid state outputs a b c d is of_a of_b of_c of_d (suc zero) below = behind_at_more (output_at outputs 1) [] [] (outs state 1) b (nothing_at grid state 1 is) of_b
start_behind grid state outputs a b c d is of_a of_b of_c of_d (suc (suc zero)) below = behind_at_more (output_at outputs 2) [] [] (outs state 2) c (nothing_at grid state 2 is) of_c
start_behind grid state outputs a b c d is of_a of_b of_c of_d (suc (suc (suc zero))) below = behind_at_more (output_at outputs 3) [] [] (outs state 3) d (nothing_at grid state 3 is) of_d
start_behind grid state outputs a b c d is of_a of_b of_c of_d (suc (suc (suc (suc more)))) below = absurd (omega (arith, below))
