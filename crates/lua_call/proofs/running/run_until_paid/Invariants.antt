use Rattle.std.proofs.Common.{◌≡◌}
use Rattle.lua_machine.specs.Machine.{Next}
use Rattle.lua_machine.specs.Tree.{items_of}
use Rattle.lua_machine.specs.Turn.{unpaid_turns}
use Rattle.lua_frames.specs.Machines.{machine_of}
use Rattle.lua_frames.specs.Parts.{function_in}
use Rattle.lua_call.specs.Running.{Leads}
use Rattle.lua_call.proofs.running.run_until_paid.Given as goal

abbrev pub invariant-unpaid : goal.invariant-unpaid
invariant-unpaid l = record {
  leads : Leads (items_of l.functions) (function_in l.main) (Next (machine_of l.fn.start l.initial.machine)) (Next (machine_of l.control l.machine));
  unpaid : l.machine.units ≡ l.before;
}

abbrev pub decreases-unpaid : goal.decreases-unpaid
decreases-unpaid l = unpaid_turns (machine_of l.control l.machine)
