use Rattle.std.proofs.Common.{subst, Result}
use Rattle.lua_machine.specs.Value.{Fault}
use Rattle.lua_state.specs.declared.held.HeldState.{HeldState}
use Rattle.lua_state.specs.Held.{store_of}
use Rattle.lua_state.specs.Store.{Store, Answers, with_entry, parts, without}
use Rattle.lua_state.proofs.Opening.{entry_put}
use Rattle.lua_state.proofs.state.LuaState.store_keyed.Goals as goal

pub returns : goal.returns
returns c =
    let old = c.self.inside.held in
    let now = store_of c.store_keyed.new.self in
    subst (λ (h : HeldState). Answers c.store_keyed.result now (with_entry c.args.at c.args.line (parts c.args.count (store_of h)) (without c.args.count (store_of h)))) c.self.view_is
    (subst (λ (wanted : Result Store Fault). Answers c.store_keyed.result now wanted) (entry_put c.args.at c.args.line (parts c.args.count (store_of old)) (without c.args.count (store_of old))) c.store_keyed.ensures.put)
