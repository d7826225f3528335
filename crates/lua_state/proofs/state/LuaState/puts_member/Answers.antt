use Rattle.std.proofs.Common.{subst}
use Rattle.lua_machine.specs.Yields.{put_member}
use Rattle.lua_state.specs.declared.held.HeldState.{HeldState}
use Rattle.lua_state.specs.Held.{state_of, store_of}
use Rattle.lua_state.specs.Store.{Answers, ended, with_ended, parts, without}
use Rattle.lua_state.proofs.state.LuaState.puts_member.Goals as goal

pub returns : goal.returns
returns c =
    subst (λ (h : HeldState). Answers c.puts_member.result (store_of c.puts_member.new.self) (with_ended (ended (put_member c.args.line c.args.name.now (parts c.args.count (store_of h)) (state_of h))) (without c.args.count (store_of h)))) c.self.view_is c.puts_member.ensures.put
