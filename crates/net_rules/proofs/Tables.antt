-- A map from names to numbers is its table.
use Rattle.std.proofs.Common.{◌≡◌, ℕ, cond, List, [], ◌∷◌, map, Some, refl, sym, ap, ◌∙◌, Bor}
use Rattle.std.specs.Map.{lookup}
use Rattle.std.specs.Str.{bytes_eq}
use Rattle.std.specs.Cmp.Lexicographic.{nat_list_eq_equiv}
use Rattle.net_rules.specs.Tables.{Table, value_of}

-- the table of the entries of a map
abbrev pub seen : List (Bor (List ℕ) × ℕ) → Table
seen entries = map (λ e. (e.0.now, e.1)) entries

pub looked_up : (entries : List (Bor (List ℕ) × ℕ)) (name : List ℕ) → lookup (λ k. bytes_eq name k.now) entries ≡ value_of (seen entries) name
looked_up [] name = refl
looked_up (e ∷ es) name = ap (cond (bytes_eq name e.0.now) (Some e.1)) (looked_up es name)

-- a key without a place, for a name that is only compared
abbrev pub key_of : List ℕ → Bor (List ℕ)
key_of name = record { ref_ptr = (0, 0); now = name }

pub exchanged : (one other : List ℕ) → bytes_eq one other ≡ bytes_eq other one
exchanged = nat_list_eq_equiv.symm

-- what is known of each key is known of each name
pub updated : (old new : List (Bor (List ℕ) × ℕ)) (name : List ℕ) (number : ℕ) → ((k : Bor (List ℕ)) → lookup (λ q. bytes_eq k.now q.now) new ≡ cond (bytes_eq name k.now) (Some number) (lookup (λ q. bytes_eq k.now q.now) old)) →
    (other : List ℕ) → value_of (seen new) other ≡ cond (bytes_eq other name) (Some number) (value_of (seen old) other)
updated old new name number is other =
    sym (looked_up new other) ∙ is (key_of other) ∙ ap (λ b. cond b (Some number) (lookup (λ q. bytes_eq other q.now) old)) (exchanged name other) ∙ ap (cond (bytes_eq other name) (Some number)) (looked_up old other)
