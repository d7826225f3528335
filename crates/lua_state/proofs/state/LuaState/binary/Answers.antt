use Rattle.std.proofs.Common.{subst}
use Rattle.lua_machine.specs.Yields.{binary_result}
use Rattle.lua_state.specs.declared.held.HeldState.{HeldState}
use Rattle.lua_state.specs.Held.{state_of, store_of}
use Rattle.lua_state.specs.Store.{Answers, with_done, parts, without}
use Rattle.lua_state.proofs.state.LuaState.binary.Goals as goal

pub returns : goal.returns
returns c =
    subst (λ (h : HeldState). Answers c.binary.result (store_of c.binary.new.self) (with_done (binary_result c.args.op c.args.line (parts c.args.count (store_of h)) (state_of h)) (without c.args.count (store_of h)))) c.self.view_is c.binary.ensures.made
