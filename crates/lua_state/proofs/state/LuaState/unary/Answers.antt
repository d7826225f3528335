use Rattle.std.proofs.Common.{subst}
use Rattle.lua_machine.specs.Yields.{unary_result}
use Rattle.lua_state.specs.declared.held.HeldState.{HeldState}
use Rattle.lua_state.specs.Held.{state_of, store_of}
use Rattle.lua_state.specs.Store.{Answers, with_done, parts, without}
use Rattle.lua_state.proofs.state.LuaState.unary.Goals as goal

pub returns : goal.returns
returns c =
    subst (λ (h : HeldState). Answers c.unary.result (store_of c.unary.new.self) (with_done (unary_result c.args.op c.args.line (parts c.args.count (store_of h)) (state_of h)) (without c.args.count (store_of h)))) c.self.view_is c.unary.ensures.made
