use Rattle.std.proofs.Common.{◌≡◌, ◌∙◌, ◌-◌, ◌<◌, ap, arith, get_or, set, subst, sym, length, List}
use Rattle.std.proofs.lemmas.List.{map-set}
use Rattle.lua_state.specs.declared.bindings.Binding.{Binding}
use Rattle.lua_state.specs.declared.variables.Variable.{Variable}
use Rattle.lua_state.specs.Bindings.{ArePlaced, variables_in}
use Rattle.lua_state.proofs.Placing.{as_many, revalued, variable_at}
use Rattle.lua_state.proofs.bindings.Bindings.set.Goals as goal

pub invariant_of-self : goal.invariant_of-self
invariant_of-self c =
    let stack = c.self.inside.stack in
    let all = c.args.self.now in
    let many : length stack ≡ length all = as_many stack all c.self.view_is in
    let at = length stack - c.args.place in
    let inside : at < length stack = omega (arith, c.requires.some, c.requires.inside, many) in
    let one : Variable = record { name = c.args.name; value = c.args.value.now } in
    let binding : Binding = record { variable = one; shadowed = c.at.result.now.shadowed } in
    let same : c.at.result.now ≡ _ = c.at.ensures binding in
    let was = variable_at stack all c.self.view_is at c.at.result.now c.at.ensures inside one in
    let name = sym (c.requires.named one) ∙ ap (λ (v : Variable). v.name) (ap (λ n. get_or all (n - c.args.place) one) (sym many) ∙ was) ∙ ap (λ (b : Binding). b.variable.name) same in
    subst (λ bs. ArePlaced bs c.self.inside.innermost.items) (sym c.set.ensures)
    (revalued stack c.self.inside.innermost.items c.self.invariant at binding inside name (ap (λ (b : Binding). b.shadowed) same))

pub returns : goal.returns
returns c =
    let stack = c.self.inside.stack in
    let all = c.args.self.now in
    let many : length stack ≡ length all = as_many stack all c.self.view_is in
    let one : Variable = record { name = c.args.name; value = c.args.value.now } in
    let binding : Binding = record { variable = one; shadowed = c.at.result.now.shadowed } in
    ap variables_in c.set.ensures ∙ map-set (λ (b : Binding). b.variable) stack (length stack - c.args.place) binding
    ∙ ap (λ n. set (variables_in stack) (n - c.args.place) one) many ∙ ap (λ (vs : List Variable). set vs (length all - c.args.place) one) c.self.view_is
