use Rattle.net_column.proofs.Fuel.{fuel_bounds_steps, steps_within_limits}
use Rattle.net_column.proofs.laws.steps_are_bounded.Goals as goal

pub returns : goal.returns
returns c = record { fuel = fuel_bounds_steps; limits = steps_within_limits }
