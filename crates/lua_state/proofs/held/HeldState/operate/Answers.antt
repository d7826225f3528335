use Rattle.lua_machine.specs.Yields.{binary_result}
use Rattle.lua_state.specs.Held.{state_of, store_of}
use Rattle.lua_state.specs.Store.{parts}
use Rattle.lua_state.proofs.Made.{is_held, of_parts, binary_state}
use Rattle.lua_state.proofs.held.HeldState.operate.Goals as goal

pub finish-requires-clause-held : goal.finish-requires-clause-held
finish-requires-clause-held c =
    let h = c.args.self.now in
    is_held h.texts c.binary_of_parts-value.result _ (c.binary_of_parts-value.ensures c.requires.other (state_of h))

pub returns-clause-made : goal.returns-clause-made
returns-clause-made c =
    let h = c.args.self.now in
    c.finish.ensures.made (binary_result c.args.op c.args.line (parts c.args.count (store_of h)) (state_of h))
    (of_parts h c.args.count (binary_result c.args.op c.args.line) c.binary_of_parts-value.result c.top-values.result.now c.top-values.ensures (c.binary_of_parts-value.ensures c.requires.other (state_of h)))
    (binary_state c.args.op c.args.line (parts c.args.count (store_of h)) (state_of h))
