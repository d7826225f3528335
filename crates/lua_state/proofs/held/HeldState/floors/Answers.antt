use Rattle.lua_machine.specs.Yields.{floor_result}
use Rattle.lua_state.specs.Held.{state_of, store_of}
use Rattle.lua_state.specs.Store.{parts}
use Rattle.lua_state.proofs.Made.{is_held, of_parts, floor_state}
use Rattle.lua_state.proofs.held.HeldState.floors.Goals as goal

pub finish-requires-clause-held : goal.finish-requires-clause-held
finish-requires-clause-held c = is_held c.args.self.now.texts c.floor_of_parts-value.result _ (c.floor_of_parts-value.ensures c.args.self.now.texts (state_of c.args.self.now))

pub returns-clause-made : goal.returns-clause-made
returns-clause-made c =
    let h = c.args.self.now in
    c.finish.ensures.made (floor_result c.args.line (parts c.args.count (store_of h)) (state_of h))
    (of_parts h c.args.count (floor_result c.args.line) c.floor_of_parts-value.result c.top.result.now c.top.ensures (c.floor_of_parts-value.ensures h.texts (state_of h)))
    (floor_state c.args.line (parts c.args.count (store_of h)) (state_of h))
