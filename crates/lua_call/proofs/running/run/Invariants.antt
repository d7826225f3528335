use Rattle.std.proofs.Common.{◌-◌}
use Rattle.lua_machine.specs.Machine.{Next}
use Rattle.lua_machine.specs.Tree.{items_of}
use Rattle.lua_frames.specs.Machines.{machine_of}
use Rattle.lua_frames.specs.Parts.{function_in}
use Rattle.lua_call.specs.Running.{Leads}
use Rattle.lua_call.proofs.running.run.Given as goal

abbrev pub invariant-turns : goal.invariant-turns
invariant-turns l = Leads (items_of l.functions) (function_in l.main) (Next (machine_of l.fn.start l.initial.machine)) (Next (machine_of l.control l.machine))

abbrev pub decreases-turns : goal.decreases-turns
decreases-turns l = 500000 - l.machine.units
