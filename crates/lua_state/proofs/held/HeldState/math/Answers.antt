use Rattle.std.proofs.Common.{◌≡◌, Ok}
use Rattle.lua_machine.specs.Library.{math_result}
use Rattle.lua_machine.specs.State.{State}
use Rattle.lua_operations.specs.Functions.{math_in}
use Rattle.lua_operations.specs.Results.{Refuses}
use Rattle.lua_state.specs.Held.{state_of, store_of}
use Rattle.lua_state.specs.Store.{parts, with_done, without}
use Rattle.lua_state.proofs.Made.{at_parts, made_with, not_made}
use Rattle.lua_state.proofs.Sound.{with_generator}
use Rattle.lua_state.proofs.held.HeldState.math.Goals as goal

pub replace-requires-clause-sound : goal.replace-requires-clause-sound
replace-requires-clause-sound c = with_generator c.args.self.now c.math_of_parts.new.generator c.requires

pub replace-requires-clause-held : goal.replace-requires-clause-held
replace-requires-clause-held c = (c.in-Ok.ensures c.args.self.now.texts (state_of c.args.self.now)).1

pub returns-in_ok-replace-in-Ok-clause-made : goal.returns-in_ok-replace-in-Ok-clause-made
returns-in_ok-replace-in-Ok-clause-made c =
    let h = c.args.self.now in
    let now : State = record (state_of h) { generator = c.math_of_parts.new.generator } in
    at_parts (λ vs. with_done (math_result (math_in c.args.function) c.args.line vs (state_of h)) (without c.args.count (store_of h)) ≡ Ok (store_of c.replace.new.self)) h c.args.count c.top-values.result.now c.top-values.ensures
    (made_with h.texts c.in-Ok.value now _ (without c.args.count (store_of h)) (store_of c.replace.new.self) (c.in-Ok.ensures h.texts (state_of h)) c.in_ok-replace-in-Ok.ensures.put)

pub returns-in-Err-clause-made : goal.returns-in-Err-clause-made
returns-in-Err-clause-made c =
    let h = c.args.self.now in
    not_made c.in-Err.why (math_result (math_in c.args.function) c.args.line (parts c.args.count (store_of h)) (state_of h)) (without c.args.count (store_of h))
    (at_parts (λ vs. Refuses c.in-Err.why (math_result (math_in c.args.function) c.args.line vs (state_of h)).outcome) h c.args.count c.top-values.result.now c.top-values.ensures (c.in-Err.ensures h.texts (state_of h)))

pub returns-in-Err-clause-sound : goal.returns-in-Err-clause-sound
returns-in-Err-clause-sound c = with_generator c.args.self.now c.math_of_parts.new.generator c.requires
