use Rattle.std.proofs.Common.{◌∙◌, ap, sym, subst, map, Option}
use Rattle.std.specs.Option.{option_map}
use Rattle.lua_machine.specs.Library.{MathFunction}
use Rattle.lua_machine.specs.Tree.{nodes, node_of}
use Rattle.lua_machine.specs.Turn.{math_begun}
use Rattle.lua_frames.specs.Machines.{state_in, waiting}
use Rattle.lua_operations.specs.Functions.{math_in}
use Rattle.lua_frames.specs.Turns.{Comes}
use Rattle.lua_frames.proofs.machine.Machine.math_call.Goals as goal

pub returns-in-Some : goal.returns-in-Some
returns-in-Some c =
    subst (λ (m : Option MathFunction). Comes c.math.result c.math.new.self (math_begun m (nodes (map node_of c.args.args.now)) c.args.line (waiting c.args.self.now) c.args.self.now.calls (state_in c.args.self.now) c.args.cost))
    (sym (ap (option_map math_in) c.in-Some.is) ∙ c.math_function.ensures) c.math.ensures
