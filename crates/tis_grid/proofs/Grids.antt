-- The laws of every grid.
use Rattle.std.proofs.Common.{◌≡◌, ℕ, ◌<◌, ◌≤◌, List, [], ◌∷◌, ◌++◌, length, Some, sum_by, sym, ap, subst, ◌∙◌}
use Rattle.std.specs.List.{range_with_len}
use Rattle.tis_base.specs.Tiles.{IsCompute, opposite}
use Rattle.tis_base.specs.declared.tiles.Dir.{Dir}
use Rattle.tis_base.specs.declared.tiles.Dir.TheVariants.{Up, Down}
use Rattle.tis_asm.specs.PortRuns.{IsPortRun, after_steps, taken_from, given_to}
use Rattle.tis_grid.specs.declared.event.Event.{Event}
use Rattle.tis_grid.specs.State.{Grid, IsGrid, State, node_at, outs}
use Rattle.tis_grid.specs.Events.{program_of, next_tile, bottom_of, after_event}
use Rattle.tis_grid.specs.Orders.{Fits}
use Rattle.tis_grid.specs.TileSteps.{steps_in, steps_of, values_left}
use Rattle.tis_grid.specs.Laws.{StartFits, IsOrder, OrdersKeepFitting, OrdersAreRuns, LinksPassAll, InputsPassAll, OutputsPassAll, StepsCountEvents}
use Rattle.tis_grid.proofs.Total.{ran, Runs, leads_runs}
use Rattle.tis_grid.proofs.Runs.{Does, does_nothing, does_then}
use Rattle.tis_grid.proofs.Steps.{event_does}
use Rattle.tis_grid.proofs.Fitting.{start_fitting, event_fitting}
use Rattle.tis_grid.proofs.Links.{order_passes}
use Rattle.tis_grid.proofs.Edges.{order_takes, order_gives}
use Rattle.tis_grid.proofs.Counting.{order_counts}

pub start_fits : StartFits
start_fits grid is_grid = start_fitting grid is_grid

-- the events of an order, one after the other, keep the state one of the grid
order_fits : (grid : Grid) (state : State) (events : List Event) → IsGrid grid → Fits grid state → Runs grid state events → Fits grid (ran grid state events)
order_fits grid state [] is_grid fits runs = fits
order_fits grid state (event ∷ events) is_grid fits runs = order_fits grid (after_event grid state event) events is_grid (event_fitting grid state event is_grid fits runs.0) runs.1

-- the events of an order, one after the other, are steps of each tile
order_does : (grid : Grid) (state : State) (events : List Event) (tile : ℕ) → IsGrid grid → Fits grid state → Runs grid state events → Does (program_of grid tile) (node_at state tile) (steps_of grid state events tile) (node_at (ran grid state events) tile)
order_does grid state [] tile is_grid fits legal = does_nothing (program_of grid tile) (node_at state tile)
order_does grid state (event ∷ events) tile is_grid fits legal =
    let then = after_event grid state event in
    does_then (program_of grid tile) (node_at state tile) (steps_in grid state event tile) (steps_of grid then events tile) (node_at then tile) (node_at (ran grid then events) tile)
    (event_does grid state is_grid fits tile event legal.0)
    (order_does grid then events tile is_grid (event_fitting grid state event is_grid fits legal.0) legal.1)

module _ (grid : Grid) (state : State) (events : List Event) (end : State) (is : IsOrder grid state events end) where
  leads : Runs grid state events × (ran grid state events ≡ end)
  leads = leads_runs grid state events end is.leads

  pub order_keeps_fitting : Fits grid end
  order_keeps_fitting = subst (λ (s : State). Fits grid s) leads.1 (order_fits grid state events is.is_grid is.fits leads.0)

  pub order_is_runs : (tile : ℕ) → IsPortRun (program_of grid tile) (node_at state tile) (steps_of grid state events tile) × (after_steps (program_of grid tile) (node_at state tile) (steps_of grid state events tile) ≡ node_at end tile)
  order_is_runs tile = let does = order_does grid state events tile is.is_grid is.fits leads.0 in (does.run, does.leads ∙ ap (λ (s : State). node_at s tile) leads.1)

  pub links_pass : (tile : ℕ) (dir : Dir) (reader : ℕ) → next_tile grid tile dir ≡ Some reader → IsCompute grid.puzzle.tiles tile → IsCompute grid.puzzle.tiles reader → given_to dir (steps_of grid state events tile) ≡ taken_from (opposite dir) (steps_of grid state events reader)
  links_pass tile dir reader next here there = order_passes grid is.is_grid tile dir reader next here there state events is.fits leads.0

  pub inputs_pass : (position : ℕ) → position < grid.puzzle.tiles.shape.columns → values_left grid state position ≡ taken_from Up (steps_of grid state events position) ++ values_left grid end position
  inputs_pass position within = order_takes grid is.is_grid position within state events is.fits leads.0 ∙ ap (λ (s : State). taken_from Up (steps_of grid state events position) ++ values_left grid s position) leads.1

  pub outputs_pass : (position : ℕ) → position < grid.puzzle.tiles.shape.columns → outs end position ≡ outs state position ++ given_to Down (steps_of grid state events (bottom_of grid position))
  outputs_pass position within = ap (λ (s : State). outs s position) (sym leads.1) ∙ order_gives grid is.is_grid position within state events is.fits leads.0

  pub steps_count : length events ≤ sum_by (λ tile. length (steps_of grid state events tile)) (range_with_len 0 (length grid.puzzle.tiles.kinds))
  steps_count = order_counts grid state events leads.0

pub orders_keep_fitting : OrdersKeepFitting
orders_keep_fitting = order_keeps_fitting

pub orders_are_runs : OrdersAreRuns
orders_are_runs = order_is_runs

pub links_pass_all : LinksPassAll
links_pass_all = links_pass

pub inputs_pass_all : InputsPassAll
inputs_pass_all = inputs_pass

pub outputs_pass_all : OutputsPassAll
outputs_pass_all = outputs_pass

pub steps_count_events : StepsCountEvents
steps_count_events = steps_count
