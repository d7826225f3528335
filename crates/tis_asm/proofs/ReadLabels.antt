-- The labels of a table are those that are seen.
use Rattle.std.proofs.Common.{◌≡◌, ℕ, List, [], ◌∷◌, ◌++◌, cond, refl, ap}
use Rattle.std.specs.Prelude.{Option, Some}
use Rattle.std.specs.Borrow.{Bor}
use Rattle.std.specs.Map.{lookup}
use Rattle.std.specs.Str.{bytes_eq}
use Rattle.tis_asm.specs.ReadingView.{labels_view}

-- a look-up by a label finds what is seen of it
pub looked_up : (entries : List (Bor (List ℕ) × ℕ)) (label : List ℕ) → lookup (λ (k : Bor (List ℕ)). bytes_eq label k.now) entries ≡ lookup (bytes_eq label) (labels_view entries)
looked_up [] label = refl
looked_up (e ∷ entries) label = ap (λ (rest : Option ℕ). cond (bytes_eq label e.0.now) (Some e.1) rest) (looked_up entries label)

-- a label that goes last is seen last
pub added_last : (entries : List (Bor (List ℕ) × ℕ)) (label : Bor (List ℕ)) (n : ℕ) → labels_view (entries ++ (label, n) ∷ []) ≡ labels_view entries ++ (label.now, n) ∷ []
added_last [] label n = refl
added_last (e ∷ entries) label n = ap (λ l. (e.0.now, e.1) ∷ l) (added_last entries label n)
