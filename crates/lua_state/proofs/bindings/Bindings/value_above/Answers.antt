use Rattle.std.proofs.Common.{◌≡◌, ◌∙◌, ◌-◌, ◌<◌, ap, arith, sym, length, get_or, Some}
use Rattle.lua_state.specs.declared.variables.Variable.{Variable}
use Rattle.lua_state.proofs.Placing.{as_many, found_above, not_above, place_inside, variable_at}
use Rattle.lua_state.proofs.bindings.Bindings.value_above.Goals as goal

pub at-requires-clause-inside : goal.at-requires-clause-inside
at-requires-clause-inside c = omega (arith, c.place-place.ensures, place_inside c.args.name c.args.self.now, as_many c.self.inside.stack c.args.self.now c.self.view_is)

pub returns-then-place-count : goal.returns-then-place-count
returns-then-place-count c =
    let all = c.args.self.now in
    let stack = c.self.inside.stack in
    let many : length stack ≡ length all = as_many stack all c.self.view_is in
    let p = c.place-place.result in
    let inside : length stack - p < length stack = omega (arith, c.if-place-count.true, c.place-place.ensures, place_inside c.args.name all, many) in
    let variable = variable_at stack all c.self.view_is (length stack - p) c.at.result.now c.at.ensures inside c.at.result.now.variable in
    sym ((found_above c.args.name c.args.count all p c.place-place.ensures c.if-place-count.true).valued c.at.result.now.variable
    ∙ ap (λ n. Some (get_or all (n - p) c.at.result.now.variable).value) (sym many) ∙ ap (λ (v : Variable). Some v.value) variable)

pub returns-else-place-count : goal.returns-else-place-count
returns-else-place-count c = sym (not_above c.args.name c.args.count c.args.self.now c.place-place.result c.place-place.ensures c.if-place-count.false)
