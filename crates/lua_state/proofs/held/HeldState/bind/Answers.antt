use Rattle.std.proofs.Common.{◌≡◌, ◌∙◌, ap, get_or, List, ℕ}
use Rattle.lua_machine.specs.Value.{LuaValue, Nil}
use Rattle.lua_machine.specs.State.{declared}
use Rattle.lua_store.specs.Values.{meant}
use Rattle.lua_state.specs.Held.{state_of, store_of}
use Rattle.lua_state.specs.Store.{Store, in_state, parts}
use Rattle.lua_state.proofs.Made.{at_parts, parts_are_held}
use Rattle.lua_state.proofs.held.HeldState.bind.Goals as goal

pub declare_at-requires-clause-held : goal.declare_at-requires-clause-held
declare_at-requires-clause-held c =
    let now = c.hold.new.self in
    c.part-value.ensures.held now.texts (parts_are_held now c.args.count c.top.result.now c.in_ok-at.ensures.sound.values c.top.ensures)

pub returns-clause-bound : goal.returns-clause-bound
returns-clause-bound c =
    let now = c.hold.new.self in
    let name = c.args.name.now in
    let value : meant now.texts c.part-value.result ≡ get_or (parts c.args.count (store_of now)) c.args.index Nil =
    at_parts (λ vs. meant now.texts c.part-value.result ≡ get_or vs c.args.index Nil) now c.args.count c.top.result.now c.top.ensures (c.part-value.ensures.value now.texts) in
    c.in_ok-declare_at.ensures.declared ∙ ap (λ (n : List ℕ). in_state (declared n (meant now.texts c.part-value.result) (state_of now)) (store_of now)) c.in_ok-at.ensures.place.1
    ∙ ap (λ (v : LuaValue). in_state (declared name v (state_of now)) (store_of now)) value
    ∙ ap (λ (s : Store). in_state (declared name (get_or (parts c.args.count s) c.args.index Nil) s.state) s) c.in_ok-at.ensures.same
