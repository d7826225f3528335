use Rattle.std.proofs.Common.{refl, get_or, [], List}
use Rattle.lua_machine.specs.Value.{LuaValue}
use Rattle.lua_machine.specs.State.{State, Done}
use Rattle.lua_machine.specs.Yields.{indexed, with_member}
use Rattle.lua_state.specs.Held.{state_of, store_of}
use Rattle.lua_state.specs.Store.{parts}
use Rattle.lua_state.proofs.Made.{is_held, of_parts, parts_are_held, indexed_state}
use Rattle.lua_state.proofs.held.HeldState.select_at.Goals as goal

pub finish-requires-clause-held : goal.finish-requires-clause-held
finish-requires-clause-held c =
    let h = c.args.self.now in
    is_held h.texts c.select_of_parts-value.result _ (c.select_of_parts-value.ensures h.texts (state_of h) c.requires.sound.apart c.requires.sound.tables (parts_are_held h c.args.count c.top-values.result.now c.requires.sound.values c.top-values.ensures) c.requires.inside refl)

pub returns-clause-made : goal.returns-clause-made
returns-clause-made c =
    let h = c.args.self.now in
    let make : List LuaValue → State → Done LuaValue = λ values state. indexed c.args.line (with_member (get_or h.texts c.args.name []) values) state in
    c.finish.ensures.made (make (parts c.args.count (store_of h)) (state_of h))
    (of_parts h c.args.count make c.select_of_parts-value.result c.top-values.result.now c.top-values.ensures
    (c.select_of_parts-value.ensures h.texts (state_of h) c.requires.sound.apart c.requires.sound.tables (parts_are_held h c.args.count c.top-values.result.now c.requires.sound.values c.top-values.ensures) c.requires.inside refl))
    (indexed_state c.args.line (with_member (get_or h.texts c.args.name []) (parts c.args.count (store_of h))) (state_of h))
