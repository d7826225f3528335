-- Laws of networks and of their processes.
use Rattle.std.specs.Prelude.{◌≡◌, ℕ, ◌<◌, ◌≤◌, List, Ok}
use Rattle.net_tree.specs.Tree.{Block, Net}
use Rattle.net_syntax.specs.Reading.{net_of}
use Rattle.net_rules.specs.CheckedNet.{IsSmallNet}
use Rattle.net_rules.specs.Numbers.{NumberedNet}
use Rattle.net_rules.specs.Process.{Streams, process_run}
use Rattle.net_rules.specs.Kahn.{Inputs, steps, step_limits}

-- an execution from the start begins fewer steps than it has fuel
abbrev pub FuelBoundsSteps : Type 0
FuelBoundsSteps = (body : Block ℕ) (streams : Streams) (fuel : ℕ) → 0 < fuel → (process_run body streams fuel).state.steps < fuel

-- the processes of a network take no more steps than they may
abbrev pub StepsWithinLimits : Type 0
StepsWithinLimits = (net : NumberedNet) (inputs : Inputs) → steps net inputs ≤ step_limits net inputs

-- the network of a text has few enough names, processes and statements to be checked
abbrev pub ReadNetworksAreSmall : Type 0
ReadNetworksAreSmall = (text : List ℕ) (net : Net) → net_of text ≡ Ok net → IsSmallNet net
