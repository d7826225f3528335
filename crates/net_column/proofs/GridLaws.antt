-- The laws of every grid, as one premise.
use Rattle.tis_grid.proofs.Grids.{start_fits, orders_keep_fitting, orders_are_runs, links_pass_all, inputs_pass_all, outputs_pass_all, steps_count_events}
use Rattle.tis_grid.specs.Laws.{StartFits, OrdersKeepFitting, OrdersAreRuns, LinksPassAll, InputsPassAll, OutputsPassAll, StepsCountEvents}

-- the laws of every grid
pub record GridLaws : Type 0 where
  pub start_fits : StartFits
  pub orders_keep_fitting : OrdersKeepFitting
  pub orders_are_runs : OrdersAreRuns
  pub links_pass_all : LinksPassAll
  pub inputs_pass_all : InputsPassAll
  pub outputs_pass_all : OutputsPassAll
  pub steps_count_events : StepsCountEvents

-- they hold
pub every_grid : GridLaws
every_grid = record {
  start_fits = start_fits;
  orders_keep_fitting = orders_keep_fitting;
  orders_are_runs = orders_are_runs;
  links_pass_all = links_pass_all;
  inputs_pass_all = inputs_pass_all;
  outputs_pass_all = outputs_pass_all;
  steps_count_events = steps_count_events;
}
