use Rattle.std.proofs.Common.{[], ◌∷◌, ℤ, sym, subst}
use Rattle.lua_machine.specs.Library.{Random, drawn, math_result}
use Rattle.lua_machine.specs.State.{State}
use Rattle.lua_store.specs.declared.value.SmallValue.{SmallValue}
use Rattle.lua_store.specs.Values.{meant}
use Rattle.lua_operations.specs.Results.{Makes}
use Rattle.lua_operations.proofs.math.draw_up_to.Goals as goal

pub returns-in-Number : goal.returns-in-Number
returns-in-Number c = λ texts state.
    let old : State = record state { generator = c.args.generator.now } in
    let new : State = record state { generator = c.draw.new.generator } in
    subst (λ (v : SmallValue). Makes texts c.draw.result new (math_result Random c.args.line (meant texts v ∷ []) old)) (sym c.in-Number.is)
    (subst (λ (n : ℤ). Makes texts c.draw.result new (drawn c.args.line n c.in-Number.last old)) c.small.ensures (c.draw.ensures texts state))
