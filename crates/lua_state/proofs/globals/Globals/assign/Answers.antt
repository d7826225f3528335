use Rattle.std.proofs.Common.{◌≡◌, ◌∙◌, ◌-◌, ◌<◌, [], ◌∷◌, ◌++◌, ap, arith, get_or, length, set, subst, sym, suc, List, ℕ}
use Rattle.std.proofs.lemmas.List.{length-append}
use Rattle.lua_state.specs.declared.variables.Variable.{Variable}
use Rattle.lua_state.specs.Globals.{IsTableOf}
use Rattle.lua_state.specs.Variables.{with_global}
use Rattle.lua_state.proofs.Gathering.{added, added_table, is_inside, replaced_there, same_table}
use Rattle.lua_state.proofs.globals.Globals.assign.Goals as goal

pub index_mut-requires : goal.index_mut-requires
index_mut-requires c =
    let vs = c.self.inside.variables.items in
    let is = c.entry-place.ensures ∙ ap (λ (t : List ℕ). get_or t c.args.name 0) c.as_slice.ensures.value in
    let inside : c.entry-place.result - 1 < length vs = is_inside vs c.self.inside.places.items c.self.invariant c.args.name c.entry-place.result is c.if-place-gt0.true in
    omega (arith, inside, c.self.inside.variables.ok)

pub invariant_of-self : goal.invariant_of-self
invariant_of-self c =
    let is = c.entry-place.ensures ∙ ap (λ (t : List ℕ). get_or t c.args.name 0) c.as_slice.ensures.value in
    same_table c.self.inside.variables.items c.self.inside.places.items c.self.invariant c.args.name c.entry-place.result is c.if-place-gt0.true c.args.value

pub returns-then-place-gt0-clause-assigned : goal.returns-then-place-gt0-clause-assigned
returns-then-place-gt0-clause-assigned c =
    let is = c.entry-place.ensures ∙ ap (λ (t : List ℕ). get_or t c.args.name 0) c.as_slice.ensures.value in
    replaced_there c.self.inside.variables.items c.self.inside.places.items c.self.invariant c.args.name c.entry-place.result is c.if-place-gt0.true c.args.value
    ∙ ap (λ (all : List Variable). with_global c.args.name c.args.value all) c.self.view_is

pub invariant_of-self-2 : goal.invariant_of-self-2
invariant_of-self-2 c =
    let vs = c.self.inside.variables.items in
    let is = c.entry-place.ensures ∙ ap (λ (t : List ℕ). get_or t c.args.name 0) c.as_slice.ensures.value in
    let one : Variable = record { name = c.args.name; value = c.args.value } in
    let items : c.push.new.self.items ≡ vs ++ one ∷ [] = c.in_ok-push.ensures.items in
    let count : suc (length vs) ≡ c.len.result = omega (arith, c.len.ensures, c.push.new.self.ok, ap length items, length-append vs (one ∷ [])) in
    subst (λ (all : List Variable). IsTableOf all (set c.reach.new.table.items c.args.name c.len.result)) (sym items)
    (subst (λ n. IsTableOf (vs ++ one ∷ []) (set c.reach.new.table.items c.args.name n)) count
    (added_table vs c.self.inside.places.items c.self.invariant c.args.name c.entry-place.result is c.args.value c.if-place-gt0.false c.reach.new.table.items c.in_ok-reach.ensures.same c.in_ok-reach.ensures.inside))

pub returns-clause-assigned : goal.returns-clause-assigned
returns-clause-assigned c =
    let vs = c.self.inside.variables.items in
    let is = c.entry-place.ensures ∙ ap (λ (t : List ℕ). get_or t c.args.name 0) c.as_slice.ensures.value in
    c.in_ok-push.ensures.items
    ∙ added vs c.self.inside.places.items c.self.invariant c.args.name c.entry-place.result is c.args.value c.if-place-gt0.false
    ∙ ap (λ (all : List Variable). with_global c.args.name c.args.value all) c.self.view_is
