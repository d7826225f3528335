-- Lists that begin alike.
use Rattle.std.proofs.Common.{◌≡◌, ◌≤◌, List, [], ◌++◌, length, length-append, sym, ap, ◌∙◌, append-nil, append_assoc, arith}
use Rattle.tis_base.specs.Prefix.{IsPrefixOf}

-- a list is a prefix of itself
pub prefix_refl : {X : Type 0} (xs ys : List X) → xs ≡ ys → IsPrefixOf xs ys
prefix_refl xs ys same = ([], append-nil xs ∙ same)

-- a prefix of a prefix
pub prefix_trans : {X : Type 0} (xs ys zs : List X) → IsPrefixOf xs ys → IsPrefixOf ys zs → IsPrefixOf xs zs
prefix_trans {X = X} xs ys zs a b = (a.0 ++ b.0, sym (append_assoc xs a.0 b.0) ∙ ap (λ (prefix : List X). prefix ++ b.0) a.1 ∙ b.1)

-- a prefix is no longer than the whole
pub prefix_length : {X : Type 0} (xs ys : List X) → IsPrefixOf xs ys → length xs ≤ length ys
prefix_length {X = X} xs ys a = omega (arith, length-append xs a.0, ap length a.1)
