-- Each tile is looked at.
use Rattle.std.proofs.Common.{◌≡◌, ℕ, ◌+◌, ◌*◌, ◌<◌, ◌≤◌, Bool, false, List, length, inl, inr, sym, ap, ◌∙◌, arith, length-set}
use Rattle.std.specs.Prelude.{◌&&◌, nat_lt}
use Rattle.std.proofs.lemmas.Bool.{cases_eq, cases_lt}
use Rattle.std.proofs.lemmas.Grind.{get_or-set_at}
use Rattle.std.proofs.lemmas.List.{get_or-set_other, get_or_past}
use Rattle.tis_base.specs.Tiles.{is_compute}
use Rattle.tis_base.specs.declared.tiles.TileKind.{TileKind}
use Rattle.tis_base.specs.declared.tiles.TileKind.TheVariants.{Damaged}
use Rattle.tis_asm.specs.Programs.{program_at}
use Rattle.tis_grid.specs.TileSets.{has}
use Rattle.tis_grid.specs.Events.{works_on}
use Rattle.tis_grid.proofs.grid.working_tiles.Goals as goal

before : (k number : ℕ) → k < number + 1 → (k ≡ number → ⊥) → k < number
before k number below other = omega arith

pub put-requires : goal.put-requires
put-requires c = let as_many = c.loop-number.invariant.0 in let here = c.loop-number-test.true in omega (arith, as_many, here)

pub loop-number-preserved : goal.loop-number-preserved
loop-number-preserved c =
    let number = c.loop-number.number in
    let as_many = c.loop-number.invariant.0 in
    let here = c.loop-number-test.true in (
      ap (λ (l : List Bool). length l) c.put.ensures ∙ length-set c.loop-number.working number c.works_at.result ∙ as_many,
      λ k below. ap (λ (l : List Bool). has l k) c.put.ensures ∙ elim (cases_eq k number) [
        | inl same ↦ get_or-set_at c.loop-number.working number k c.works_at.result false same (omega (arith, as_many, here)) ∙ c.works_at.ensures ∙ sym (ap (λ (t : ℕ). works_on c.args.tiles.now.kinds c.args.programs.now.programs t) same)
        | inr other ↦ get_or-set_other c.loop-number.working number k c.works_at.result false other ∙ c.loop-number.invariant.1 k (before k number below other)
      ],
    )

pub returns : goal.returns
returns c = λ tile.
    let kinds = c.args.tiles.now.kinds in
    let tiles = c.shape.ensures.tiles in
    let full : length kinds ≡ 12 = tiles.filled ∙ (λ i. tiles.allowed.0 i * tiles.allowed.1 i) in
    let as_many = c.loop-number.invariant.0 in
    let end = c.loop-number-test.false in
    elim (cases_lt tile 12) [
      | inl below ↦ c.loop-number.invariant.1 tile (omega (arith, below, end))
      | inr past ↦ get_or_past c.loop-number.working tile false (omega (arith, past, as_many)) ∙ sym (ap (λ (kind : TileKind). is_compute kind && nat_lt 0 (length (program_at c.args.programs.now.programs tile))) (get_or_past kinds tile Damaged (omega (arith, past, full))))
    ]
