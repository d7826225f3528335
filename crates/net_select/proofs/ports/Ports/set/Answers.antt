use Rattle.std.proofs.Common.{◌≡◌, ℕ, ◌∷◌, [], List, length, inl, inr, refl, sym, ap, subst, ◌∙◌, arith, true≢false}
use Rattle.std.specs.Prelude.{IsSome, None}
use Rattle.std.proofs.lemmas.List.{length-set, length-append}
use Rattle.tis_base.specs.declared.tiles.Dir.{Dir}
use Rattle.net_select.specs.declared.ports.PortAt.{PortAt}
use Rattle.net_select.specs.HeldPorts.{port_of, one_if_new}
use Rattle.net_select.proofs.Directions.{at, stands_at, stands_nowhere, on_true}
use Rattle.net_select.proofs.ports.Ports.set.Goals as goal

-- a number that stands nowhere has no direction
no_port : IsSome {T = Dir} None → ⊥
no_port some = true≢false (sym some)

pub replace-requires-clause-within : goal.replace-requires-clause-within
replace-requires-clause-within c = (stands_at c.args.number c.args.self.now c.in-Some.place (sym c.in-Some.ensures.place)).within

pub returns-in-Some-clause-taken : goal.returns-in-Some-clause-taken
returns-in-Some-clause-taken c =
    let there = stands_at c.args.number c.args.self.now c.in-Some.place (sym c.in-Some.ensures.place) in
    (λ is. inl (subst IsSome (sym (there.is (at c.args.number c.args.dir))) refl), λ either. refl)

pub returns-in-Some-clause-ports : goal.returns-in-Some-clause-ports
returns-in-Some-clause-ports c =
    let there = stands_at c.args.number c.args.self.now c.in-Some.place (sym c.in-Some.ensures.place) in
    λ (other : ℕ). ap (λ (l : List PortAt). port_of l other) c.replace.ensures ∙ there.set c.args.dir other

pub returns-in-Some-clause-count : goal.returns-in-Some-clause-count
returns-in-Some-clause-count c =
    let there = stands_at c.args.number c.args.self.now c.in-Some.place (sym c.in-Some.ensures.place) in
    let had : one_if_new (port_of c.args.self.now c.args.number) ≡ 0 = ap one_if_new (there.is (at c.args.number c.args.dir)) in
    let same = ap (λ (l : List PortAt). length l) c.replace.ensures ∙ length-set c.args.self.now c.in-Some.place (at c.args.number c.args.dir) in
    omega (arith, had, same)

pub returns-in-None-clause-taken : goal.returns-in-None-clause-taken
returns-in-None-clause-taken c =
    let nowhere = stands_nowhere c.args.number c.args.self.now (sym c.in-None.ensures.place) in (
      λ is. inr (c.add.ensures.room.0 is),
      λ either. elim either [ inl some ↦ absurd (no_port (subst IsSome nowhere.none some)) | inr few ↦ c.add.ensures.room.1 few ],
    )

pub returns-in-None-clause-ports : goal.returns-in-None-clause-ports
returns-in-None-clause-ports c =
    let nowhere = stands_nowhere c.args.number c.args.self.now (sym c.in-None.ensures.place) in
    on_true c.add.result c.add.ensures.added (λ is. λ (other : ℕ). ap (λ (l : List PortAt). port_of l other) is ∙ nowhere.set c.args.dir other)

pub returns-in-None-clause-count : goal.returns-in-None-clause-count
returns-in-None-clause-count c =
    let nowhere = stands_nowhere c.args.number c.args.self.now (sym c.in-None.ensures.place) in
    let new : one_if_new (port_of c.args.self.now c.args.number) ≡ 1 = ap one_if_new nowhere.none in
    on_true c.add.result c.add.ensures.added (λ is.
    let same = ap (λ (l : List PortAt). length l) is ∙ length-append c.args.self.now (at c.args.number c.args.dir ∷ []) in
    omega (arith, new, same))
