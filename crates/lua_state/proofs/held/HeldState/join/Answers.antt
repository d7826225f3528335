use Rattle.std.proofs.Common.{◌≡◌, ◌∙◌, ap, List, ℕ, Ok}
use Rattle.lua_machine.specs.Value.{Text}
use Rattle.lua_machine.specs.Operators.{Answer}
use Rattle.lua_tree.specs.declared.tree.BinaryOp.TheVariants.{Join}
use Rattle.lua_machine.specs.Yields.{binary_result}
use Rattle.lua_state.specs.Held.{state_of, store_of}
use Rattle.lua_state.specs.Store.{Refuses, parts, pushed, without}
use Rattle.lua_state.proofs.Made.{at_parts, binary_state, made, not_made}
use Rattle.lua_state.proofs.held.HeldState.join.Goals as goal

pub returns-in_ok-replace_by_text-in-Ok-clause-made : goal.returns-in_ok-replace_by_text-in-Ok-clause-made
returns-in_ok-replace_by_text-in-Ok-clause-made c =
    let h = c.args.self.now in
    let bytes = c.in-Ok.bytes.items in
    let wanted : Answer = Ok (Text bytes) in
    made (binary_result Join c.args.line (parts c.args.count (store_of h)) (state_of h)) (without c.args.count (store_of h)) (store_of c.replace_by_text.new.self) (Text bytes)
    (at_parts (λ vs. (binary_result Join c.args.line vs (state_of h)).outcome ≡ wanted) h c.args.count c.top-values.result.now c.top-values.ensures (c.in-Ok.ensures (state_of h)))
    (binary_state Join c.args.line (parts c.args.count (store_of h)) (state_of h))
    (c.in_ok-replace_by_text-in-Ok.ensures.put ∙ ap (λ (b : List ℕ). pushed (Text b) (without c.args.count (store_of h))) c.as_slice.ensures.value)

pub returns-in-Err-clause-made : goal.returns-in-Err-clause-made
returns-in-Err-clause-made c =
    let h = c.args.self.now in
    not_made c.in-Err.why (binary_result Join c.args.line (parts c.args.count (store_of h)) (state_of h)) (without c.args.count (store_of h))
    (at_parts (λ vs. Refuses c.in-Err.why (binary_result Join c.args.line vs (state_of h)).outcome) h c.args.count c.top-values.result.now c.top-values.ensures (c.in-Err.ensures (state_of h)))
