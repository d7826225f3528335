use Rattle.std.proofs.Common.{refl}
use Rattle.lua_machine.specs.Yields.{indexed}
use Rattle.lua_state.specs.Held.{state_of, store_of}
use Rattle.lua_state.specs.Store.{parts}
use Rattle.lua_state.proofs.Made.{is_held, of_parts, parts_are_held, indexed_state}
use Rattle.lua_state.proofs.held.HeldState.index.Goals as goal

pub finish-requires-clause-held : goal.finish-requires-clause-held
finish-requires-clause-held c =
    let h = c.args.self.now in
    is_held h.texts c.index_of_parts-value.result _ (c.index_of_parts-value.ensures h.texts (state_of h) c.requires.apart c.requires.tables (parts_are_held h c.args.count c.top-values.result.now c.requires.values c.top-values.ensures) refl)

pub returns-clause-made : goal.returns-clause-made
returns-clause-made c =
    let h = c.args.self.now in
    c.finish.ensures.made (indexed c.args.line (parts c.args.count (store_of h)) (state_of h))
    (of_parts h c.args.count (indexed c.args.line) c.index_of_parts-value.result c.top-values.result.now c.top-values.ensures (c.index_of_parts-value.ensures h.texts (state_of h) c.requires.apart c.requires.tables (parts_are_held h c.args.count c.top-values.result.now c.requires.values c.top-values.ensures) refl))
    (indexed_state c.args.line (parts c.args.count (store_of h)) (state_of h))
