use Rattle.std.proofs.Common.{subst}
use Rattle.lua_machine.specs.Yields.{indexed}
use Rattle.lua_state.specs.declared.held.HeldState.{HeldState}
use Rattle.lua_state.specs.Held.{state_of, store_of}
use Rattle.lua_state.specs.Store.{Answers, with_done, parts, without}
use Rattle.lua_state.proofs.state.LuaState.index.Goals as goal

pub returns : goal.returns
returns c =
    subst (λ (h : HeldState). Answers c.index.result (store_of c.index.new.self) (with_done (indexed c.args.line (parts c.args.count (store_of h)) (state_of h)) (without c.args.count (store_of h)))) c.self.view_is c.index.ensures.made
