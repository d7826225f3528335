use Rattle.std.proofs.Common.{subst}
use Rattle.lua_machine.specs.Library.{math_result}
use Rattle.lua_operations.specs.Functions.{math_in}
use Rattle.lua_state.specs.declared.held.HeldState.{HeldState}
use Rattle.lua_state.specs.Held.{state_of, store_of}
use Rattle.lua_state.specs.Store.{Answers, with_done, parts, without}
use Rattle.lua_state.proofs.state.LuaState.math.Goals as goal

pub returns : goal.returns
returns c =
    subst (λ (h : HeldState). Answers c.math.result (store_of c.math.new.self) (with_done (math_result (math_in c.args.function) c.args.line (parts c.args.count (store_of h)) (state_of h)) (without c.args.count (store_of h)))) c.self.view_is c.math.ensures.made
