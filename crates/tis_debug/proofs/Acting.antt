-- Which nodes take part in the events of a cycle.
use Rattle.std.proofs.Common.{◌≡◌, ℕ, true, false, cond, List, [], ◌∷◌, ◌++◌, refl, ap, ◌∙◌, arith}
use Rattle.std.specs.Prelude.{Bool, not, ◌||◌, ◌==◌, All}
use Rattle.std.specs.List.{list_any}
use Rattle.std.proofs.lemmas.List.Elements.{All-cons}
use Rattle.std.proofs.lemmas.Option.{slice_get_within}
use Rattle.tis_base.specs.declared.tiles.TileKind.TheVariants.{Compute}
use Rattle.tis_asm.specs.PortRuns.{Step}
use Rattle.tis_grid.specs.declared.event.Event.{Event}
use Rattle.tis_grid.specs.declared.event.Event.TheVariants.{Local, Meet, In, Out, Push, Pop}
use Rattle.tis_grid.specs.State.{Grid, State}
use Rattle.tis_grid.specs.Events.{after_event, reached}
use Rattle.tis_grid.specs.TileSteps.{step_at, steps_in, steps_of}
use Rattle.tis_grid.proofs.Enabled.{Enables}
use Rattle.tis_grid.proofs.Total.{Runs, leads_runs}
use Rattle.tis_clock.specs.Cycle.{cycle_events, after_cycle}
use Rattle.tis_clock.proofs.Legal.{cycles_are_legal}
use Rattle.tis_debug.specs.Sessions.{is_nil}
use Rattle.tis_debug.specs.Held.{takes_part, StandsOnGrid}

-- a step of a tile is one where it is that tile's
one_step : (tile other : ℕ) (step : Step) → not (is_nil (step_at tile other step)) ≡ (other == tile)
one_step tile other step =
    elim (other == tile) as (λ b. not (is_nil (cond b (step ∷ []) [])) ≡ b) [ true ↦ refl | false ↦ refl ]

-- there are some of two lists where there are some of one
of_both : {X : Type 0} (xs ys : List X) → not (is_nil (xs ++ ys)) ≡ (not (is_nil xs) || not (is_nil ys))
of_both [] ys = refl
of_both (x ∷ xs) ys = refl

-- where two tests are equal to two others, so is their disjunction
either_is : (a b c d : Bool) → a ≡ b → c ≡ d → (a || c) ≡ (b || d)
either_is a b c d first second = ap (λ (x : Bool). x || c) first ∙ ap (λ (x : Bool). b || x) second

-- an event is a step of a tile where the tile takes part in it
part_is : (grid : Grid) (state : State) (event : Event) (tile : ℕ) → not (is_nil (steps_in grid state event tile)) ≡ takes_part grid event tile
part_is grid state (Local at) tile = one_step tile at.number _
part_is grid state (Meet at dir) tile =
    of_both (step_at tile at.number _) (step_at tile (reached grid at.number dir) _)
    ∙ either_is _ (at.number == tile) _ (reached grid at.number dir == tile) (one_step tile at.number _) (one_step tile (reached grid at.number dir) _)
part_is grid state (In position) tile = one_step tile position _
part_is grid state (Out position) tile = one_step tile _ _
part_is grid state (Push at dir) tile = one_step tile at.number _
part_is grid state (Pop at dir) tile = one_step tile at.number _

-- so events have a step of it where it takes part in one of them
pub acts_are : (grid : Grid) (tile : ℕ) (events : List Event) (state : State) → not (is_nil (steps_of grid state events tile)) ≡ list_any (λ event. takes_part grid event tile) events
acts_are grid tile [] state = refl
acts_are grid tile (event ∷ events) state =
    of_both (steps_in grid state event tile) (steps_of grid (after_event grid state event) events tile)
    ∙ either_is _ (takes_part grid event tile) _ (list_any (λ e. takes_part grid e tile) events) (part_is grid state event tile) (acts_are grid tile events (after_event grid state event))

-- the tile that an event names stands on the grid, where it can happen
stands_on : (grid : Grid) (state : State) (event : Event) → Enables grid state event → StandsOnGrid grid event
stands_on grid state (Local at) is = tt
stands_on grid state (Meet at dir) is = slice_get_within grid.puzzle.tiles.kinds at.number Compute is.2.compute
stands_on grid state (In position) is = tt
stands_on grid state (Out position) is = tt
stands_on grid state (Push at dir) is = tt
stands_on grid state (Pop at dir) is = tt

-- so do those of all events of a cycle stand on the grid
stands : (grid : Grid) (state : State) (events : List Event) → Runs grid state events → All (StandsOnGrid grid) events
stands grid state [] runs = λ k d less. absurd (omega (arith, less))
stands grid state (event ∷ events) runs = All-cons (StandsOnGrid grid) event events (stands_on grid state event runs.0) (stands grid (after_event grid state event) events runs.1)

pub cycle_stands : (grid : Grid) (state : State) → All (StandsOnGrid grid) (cycle_events grid state)
cycle_stands grid state = stands grid state (cycle_events grid state) (leads_runs grid state (cycle_events grid state) (after_cycle grid state) (cycles_are_legal grid state)).0
