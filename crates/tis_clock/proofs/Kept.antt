-- Which tiles are writing, kept in an array.
use Rattle.std.proofs.Common.{◌≡◌, ℕ, zero, suc, ◌+◌, ◌<◌, ◌≤◌, true, false, Bool, List, [], ◌∷◌, length, replicate, inl, inr, refl, sym, ap, subst, ◌∙◌, arith}
use Rattle.std.specs.Prelude.{slice_set}
use Rattle.std.specs.List.{list_any}
use Rattle.std.proofs.lemmas.Bool.{cases_eq, cases_lt}
use Rattle.std.proofs.lemmas.List.{get_or-set_other, get_or-set_same}
use Rattle.std.proofs.lemmas.List.{get_or_past}
use Rattle.tis_asm.specs.Node.{Node, fresh}
use Rattle.tis_grid.specs.State.{State}
use Rattle.tis_clock.specs.Cycle.{is_writing, writers}
use Rattle.tis_clock.specs.Turns.{kept_at, Keeps}

-- one tile more
pub kept_more : (kept : List Bool) (state : State) (number : ℕ) (writes : Bool) → number < length kept → writes ≡ writers state number →
    ((tile : ℕ) → tile < number → kept_at kept tile ≡ writers state tile) → (tile : ℕ) → tile < number + 1 → kept_at (slice_set kept number writes) tile ≡ writers state tile
kept_more kept state number writes within is done tile below =
    elim (cases_eq tile number) [
      | inl same ↦ subst (λ t. kept_at (slice_set kept number writes) t ≡ writers state t) (sym same) (get_or-set_same kept number writes false within ∙ is)
      | inr other ↦ get_or-set_other kept number tile writes false other ∙ done tile (omega (arith, below, other))
    ]

pub others_kept : (kept : List Bool) (number : ℕ) (writes : Bool) → ((tile : ℕ) → number ≤ tile → kept_at kept tile ≡ false) → (tile : ℕ) → number + 1 ≤ tile → kept_at (slice_set kept number writes) tile ≡ false
others_kept kept number writes others tile above = get_or-set_other kept number tile writes false (λ same. omega (arith, above, same)) ∙ others tile (omega (arith, above))

-- past the last tile none writes
pub none_past : (state : State) (tile : ℕ) → length state.nodes ≤ tile → writers state tile ≡ false
none_past state tile past = ap (λ (n : Node). is_writing n.mode) (get_or_past state.nodes tile fresh past)

pub all_kept : (kept : List Bool) (state : State) (number : ℕ) → length state.nodes ≤ number → ((tile : ℕ) → tile < number → kept_at kept tile ≡ writers state tile) → ((tile : ℕ) → number ≤ tile → kept_at kept tile ≡ false) → Keeps kept state
all_kept kept state number past done others tile =
    elim (cases_lt tile number) [
      | inl below ↦ done tile below
      | inr above ↦ others tile above ∙ sym (none_past state tile (omega (arith, past, above)))
    ]

-- none is kept before the first
pub none_kept : (count tile : ℕ) → kept_at (replicate count false) tile ≡ false
none_kept zero tile = refl
none_kept (suc count) zero = refl
none_kept (suc count) (suc tile) = none_kept count tile

-- where none of them is true, none is kept
pub none_of : (kept : List Bool) → list_any (λ writes. writes) kept ≡ false → (tile : ℕ) → kept_at kept tile ≡ false
none_of [] none tile = refl
none_of (true ∷ kept) none tile = absurd cc
none_of (false ∷ kept) none zero = refl
none_of (false ∷ kept) none (suc tile) = none_of kept none tile
