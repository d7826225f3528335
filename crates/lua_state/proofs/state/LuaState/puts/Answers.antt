use Rattle.std.proofs.Common.{subst}
use Rattle.lua_machine.specs.Yields.{put}
use Rattle.lua_state.specs.declared.held.HeldState.{HeldState}
use Rattle.lua_state.specs.Held.{state_of, store_of}
use Rattle.lua_state.specs.Store.{Answers, ended, with_ended, parts, without}
use Rattle.lua_state.proofs.state.LuaState.puts.Goals as goal

pub returns : goal.returns
returns c =
    subst (λ (h : HeldState). Answers c.puts.result (store_of c.puts.new.self) (with_ended (ended (put c.args.line (parts c.args.count (store_of h)) (state_of h))) (without c.args.count (store_of h)))) c.self.view_is c.puts.ensures.put
