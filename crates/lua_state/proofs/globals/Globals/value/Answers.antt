use Rattle.std.proofs.Common.{◌∙◌, ◌-◌, ◌<◌, ap, arith, get_or, length, sym, List, Some, ℕ}
use Rattle.lua_state.specs.declared.variables.Variable.{Variable}
use Rattle.lua_state.specs.Variables.{value_under}
use Rattle.lua_state.proofs.Gathering.{is_inside, is_value, none_there}
use Rattle.lua_state.proofs.globals.Globals.value.Goals as goal

pub index-requires : goal.index-requires
index-requires c =
    let vs = c.self.inside.variables.items in
    let is = c.entry-place.ensures ∙ ap (λ (t : List ℕ). get_or t c.args.name 0) c.as_slice.ensures.value in
    let inside : c.entry-place.result - 1 < length vs = is_inside vs c.self.inside.places.items c.self.invariant c.args.name c.entry-place.result is c.if-place-gt0.true in
    omega (arith, inside, c.self.inside.variables.ok)

pub returns-then-place-gt0 : goal.returns-then-place-gt0
returns-then-place-gt0 c =
    let vs = c.self.inside.variables.items in
    let is = c.entry-place.ensures ∙ ap (λ (t : List ℕ). get_or t c.args.name 0) c.as_slice.ensures.value in
    ap (λ (v : Variable). Some v.value) c.index.ensures
    ∙ is_value vs c.self.inside.places.items c.self.invariant c.args.name c.entry-place.result is c.if-place-gt0.true c.index.result.now
    ∙ ap (λ (all : List Variable). value_under c.args.name all) c.self.view_is

pub returns-else-place-gt0 : goal.returns-else-place-gt0
returns-else-place-gt0 c =
    let is = c.entry-place.ensures ∙ ap (λ (t : List ℕ). get_or t c.args.name 0) c.as_slice.ensures.value in
    sym (none_there c.self.inside.variables.items c.self.inside.places.items c.self.invariant c.args.name c.entry-place.result is c.if-place-gt0.false)
    ∙ ap (λ (all : List Variable). value_under c.args.name all) c.self.view_is
