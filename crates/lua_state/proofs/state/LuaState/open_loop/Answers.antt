use Rattle.std.proofs.Common.{subst}
use Rattle.lua_machine.specs.Yields.{bounds_of}
use Rattle.lua_state.specs.declared.held.HeldState.{HeldState}
use Rattle.lua_state.specs.Held.{store_of}
use Rattle.lua_state.specs.Loops.{with_opened}
use Rattle.lua_state.specs.Store.{Answers, parts, without}
use Rattle.lua_state.proofs.state.LuaState.open_loop.Goals as goal

pub returns : goal.returns
returns c =
    subst (λ (h : HeldState). Answers c.open_loop.result (store_of c.open_loop.new.self) (with_opened (bounds_of c.args.line (parts c.args.count (store_of h))) (without c.args.count (store_of h)))) c.self.view_is c.open_loop.ensures.opened
