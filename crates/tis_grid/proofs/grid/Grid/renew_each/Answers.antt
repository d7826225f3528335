-- The lowest bit is looked at and cleared.
use Rattle.std.proofs.Common.{ℕ, ◌/◌, ◌∙◌, inl, inr, subst, sym, arith, rules, w64}
use Rattle.std.proofs.lemmas.Bool.{cases_eq}
use Rattle.std.proofs.lemmas.Nat.Bits.{bit_at-trailing_zeros}
use Rattle.std.specs.Int.{trailing_zeros}
use Rattle.tis_grid.specs.HeldChoices.{IsRight}
use Rattle.tis_grid.proofs.Marked.{cleared, cleared_within}
use Rattle.tis_grid.proofs.Starting.{twelve_tiles}
use Rattle.tis_grid.proofs.grid.Grid.renew_each.Goals as goal

pub look_again-requires-clause-within : goal.look_again-requires-clause-within
look_again-requires-clause-within c =
    let lowest = bit_at-trailing_zeros w64 c.places.left (omega arith) (search rules) in
    let few = c.places.invariant.within (trailing_zeros w64 c.places.left) lowest.1 in
    omega (arith, few)

pub look_again-requires-clause-there : goal.look_again-requires-clause-there
look_again-requires-clause-there c =
    let lowest = bit_at-trailing_zeros w64 c.places.left (omega arith) (search rules) in
    let few = c.places.invariant.within (trailing_zeros w64 c.places.left) lowest.1 in
    omega (arith, few, twelve_tiles c.args.self.now c.puzzle.ensures.grid)

pub places-smaller : goal.places-smaller
places-smaller c =
    let lowest = bit_at-trailing_zeros w64 c.places.left (omega arith) (search rules) in
    (cleared c.places.left _ lowest.0 lowest.1).0

pub places-preserved : goal.places-preserved
places-preserved c =
    let lowest = bit_at-trailing_zeros w64 c.places.left (omega arith) (search rules) in
    let others = (cleared c.places.left _ lowest.0 lowest.1).1 in
    record {
      len = c.look_again.ensures.len;
      within = λ place set. c.places.invariant.within place (cleared_within c.places.left _ place set);
      here = λ place few set gone.
          elim (cases_eq place (trailing_zeros w64 c.places.left)) [
            | inl same ↦ subst (λ (p : ℕ). IsRight c.args.self.now c.args.state.now.state c.look_again.new.choices.lists (p / 4)) (sym same) c.look_again.ensures.here
            | inr apart ↦ c.look_again.ensures.others (place / 4) (c.places.invariant.here place few set (λ still. gone (others place (omega arith) apart ∙ still)))
          ];
      others = λ other was. c.look_again.ensures.others other (c.places.invariant.others other was);
    }
