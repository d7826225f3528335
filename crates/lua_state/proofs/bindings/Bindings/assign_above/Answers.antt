use Rattle.std.proofs.Common.{◌∙◌, ap, arith, sym}
use Rattle.std.specs.Option.{is_some}
use Rattle.lua_state.specs.declared.variables.Variable.{Variable}
use Rattle.lua_state.proofs.Placing.{found_above, none_assigned, not_above, place_inside}
use Rattle.lua_state.proofs.bindings.Bindings.assign_above.Goals as goal

pub set-requires-clause-inside : goal.set-requires-clause-inside
set-requires-clause-inside c = omega (arith, c.place-place.ensures, place_inside c.args.name c.args.self.now)

pub set-requires-clause-named : goal.set-requires-clause-named
set-requires-clause-named c = (found_above c.args.name c.args.count c.args.self.now c.place-place.result c.place-place.ensures c.if-place-count.true).named

pub returns-then-place-count-clause-found : goal.returns-then-place-count-clause-found
returns-then-place-count-clause-found c =
    let other : Variable = record { name = c.args.name; value = c.args.value.now } in
    sym (ap is_some ((found_above c.args.name c.args.count c.args.self.now c.place-place.result c.place-place.ensures c.if-place-count.true).valued other))

pub returns-then-place-count-clause-assigned : goal.returns-then-place-count-clause-assigned
returns-then-place-count-clause-assigned c =
    c.set.ensures ∙ (found_above c.args.name c.args.count c.args.self.now c.place-place.result c.place-place.ensures c.if-place-count.true).assigned c.args.value.now

pub returns-else-place-count-clause-found : goal.returns-else-place-count-clause-found
returns-else-place-count-clause-found c = sym (ap is_some (not_above c.args.name c.args.count c.args.self.now c.place-place.result c.place-place.ensures c.if-place-count.false))

pub returns-else-place-count-clause-assigned : goal.returns-else-place-count-clause-assigned
returns-else-place-count-clause-assigned c = none_assigned c.args.name c.args.count c.args.self.now c.args.value.now (not_above c.args.name c.args.count c.args.self.now c.place-place.result c.place-place.ensures c.if-place-count.false)
