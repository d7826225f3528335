use Rattle.std.proofs.Common.{◌≡◌, subst, pos, OnOk}
use Rattle.lua_machine.specs.Value.{Number}
use Rattle.lua_state.specs.declared.held.HeldState.{HeldState}
use Rattle.lua_state.specs.Held.{store_of}
use Rattle.lua_state.specs.Store.{newest, popped, storing}
use Rattle.lua_state.proofs.state.LuaState.store_next.Goals as goal

pub returns : goal.returns
returns c =
    subst (λ (h : HeldState). OnOk c.store_next.result (store_of c.store_next.new.self ≡ storing c.args.at (Number (pos c.args.next)) (newest (store_of h).values) (popped (store_of h)))) c.self.view_is c.store_next.ensures.stored
