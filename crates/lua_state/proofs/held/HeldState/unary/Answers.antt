use Rattle.std.proofs.Common.{refl}
use Rattle.lua_machine.specs.Yields.{unary_result}
use Rattle.lua_state.specs.Held.{state_of, store_of}
use Rattle.lua_state.specs.Store.{parts}
use Rattle.lua_state.proofs.Made.{is_held, of_parts, unary_state}
use Rattle.lua_state.proofs.held.HeldState.unary.Goals as goal

pub finish-requires-clause-held : goal.finish-requires-clause-held
finish-requires-clause-held c = is_held c.args.self.now.texts c.unary_of_parts-value.result _ (c.unary_of_parts-value.ensures (state_of c.args.self.now) refl)

pub returns-clause-made : goal.returns-clause-made
returns-clause-made c =
    let h = c.args.self.now in
    c.finish.ensures.made (unary_result c.args.op c.args.line (parts c.args.count (store_of h)) (state_of h))
    (of_parts h c.args.count (unary_result c.args.op c.args.line) c.unary_of_parts-value.result c.top-values.result.now c.top-values.ensures (c.unary_of_parts-value.ensures (state_of h) refl))
    (unary_state c.args.op c.args.line (parts c.args.count (store_of h)) (state_of h))
