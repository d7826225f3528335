-- Laws of accepted networks.
use Rattle.std.specs.Prelude.{◌≡◌, ℕ, ◌<◌, All, Contains}
use Rattle.tis_base.specs.Saturation.{IsValue}
use Rattle.net_tree.specs.Tree.{Block, ProcessText, Net}
use Rattle.net_rules.specs.Numbers.{numbered}
use Rattle.net_rules.specs.Rules.{IsAccepted}
use Rattle.net_rules.specs.Process.{Streams, Execution, WaitsOn, process_run}
use Rattle.net_rules.specs.Kahn.{step_limit}
use Rattle.net_rules.specs.Sure.{HasValues}

-- an execution ends where a read waits for a value
abbrev pub Waits : Execution → Type 0
Waits execution = (name : ℕ) × (execution.outcome ≡ WaitsOn name)

-- the numbers in the statements of a network are values of the machine, as those of a text are
abbrev pub NetHasValues : Net → Type 0
NetHasValues net = All (λ (process : ProcessText). HasValues process.body) net.processes

-- a process of an accepted network, whose numbers are values of the machine, never runs out of fuel: over any streams of values, with more fuel than its limit of steps, it comes to wait
abbrev pub ProcessesWait : Type 0
ProcessesWait = (net : Net) (streams : Streams) (body : Block ℕ) (fuel : ℕ) → IsAccepted net → NetHasValues net → ((name : ℕ) → All IsValue (streams name)) → Contains (numbered net).processes body →
    step_limit (numbered net) streams body < fuel → Waits (process_run body streams fuel)
