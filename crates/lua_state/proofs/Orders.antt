-- Lists that are read from their end.
use Rattle.std.proofs.Common.{◌≡◌, ℕ, suc, ◌-◌, ◌<◌, List, [], ◌∷◌, ◌++◌, length, get_or, set, take, drop, reverse, sym, ap, ◌∙◌, arith, append_assoc}
use Rattle.std.specs.Prelude.{min}
use Rattle.std.proofs.lemmas.List.{reverse-append, length-reverse, take-append-drop, length-drop, reverse-reverse, drop_min, set_at, set_split}
use Rattle.std.proofs.Math.Seq.{drop-cons, drop-append_seam}

-- what is behind a place in a list comes first in the reversed one
pub reverse_seam : {T : Type 0} (before : List T) (x : T) (behind : List T) → reverse (before ++ x ∷ behind) ≡ reverse behind ++ x ∷ reverse before
reverse_seam before x behind = reverse-append before (x ∷ behind) ∙ ap (λ all. all ++ reverse before) (reverse-append (x ∷ []) behind) ∙ append_assoc (reverse behind) (x ∷ []) (reverse before)

-- a list is what stands before a place, what is there, and what stands behind it
pub parted : {T : Type 0} (all : List T) (at : ℕ) (other : T) → at < length all → all ≡ take at all ++ get_or all at other ∷ drop (suc at) all
parted all at other h = sym (take-append-drop at all) ∙ ap (λ behind. take at all ++ behind) (drop-cons all at other h)

-- an item that is put at a place
pub reversed_set : {T : Type 0} (all : List T) (at : ℕ) (x : T) → at < length all → reverse (set all at x) ≡ set (reverse all) (length all - suc at) x
reversed_set all at x inside =
    let y = get_or all at x in
    let behind = drop (suc at) all in
    let many : length (reverse behind) ≡ length all - suc at = length-reverse behind ∙ length-drop (suc at) all in
    ap reverse (set_split all at x inside) ∙ reverse_seam (take at all) x behind
    ∙ sym (ap (λ xs. set xs (length all - suc at) x) (ap reverse (parted all at x inside) ∙ reverse_seam (take at all) y behind) ∙ set_at (reverse behind) y (reverse (take at all)) x (length all - suc at) many)

-- the first so many items are the last ones of the reversed list
pub reverse_taken : {T : Type 0} (all : List T) (count : ℕ) → reverse (take count all) ≡ drop (length (reverse all) - count) (reverse all)
reverse_taken all count =
    let behind = reverse (drop count all) in
    let split : reverse all ≡ behind ++ reverse (take count all) = ap reverse (sym (take-append-drop count all)) ∙ reverse-append (take count all) (drop count all) in
    let many : length (reverse all) - count ≡ length behind = omega (arith, length-reverse all, length-reverse (drop count all), length-drop count all) in
    sym (ap (λ n. drop n (reverse all)) many ∙ ap (λ xs. drop (length behind) xs) split ∙ drop-append_seam behind (reverse (take count all)))

-- the last so many items are the first ones of the reversed list
pub dropped_reversed : {T : Type 0} (all : List T) (count : ℕ) → drop (length all - count) all ≡ reverse (take count (reverse all))
dropped_reversed all count =
    sym (reverse_taken (reverse all) count ∙ ap (λ xs. drop (length xs - count) xs) (reverse-reverse all))

pub reversed_left : {T : Type 0} (all : List T) (count : ℕ) → reverse (take (length all - count) all) ≡ drop count (reverse all)
reversed_left all count =
    let many : length (reverse all) - (length all - count) ≡ min count (length (reverse all)) = omega (arith, length-reverse all) in
    reverse_taken all (length all - count) ∙ ap (λ n. drop n (reverse all)) many ∙ drop_min count (reverse all)

-- the same of a stack, whose items stand behind one another
module _ {T : Type 0} (all now : List T) (is : reverse all ≡ now) (count : ℕ) where
  many : length now - count ≡ length all - count
  many = ap (λ n. n - count) (sym (ap length is) ∙ length-reverse all)

  pub top_of_stack : drop (length now - count) all ≡ reverse (take count now)
  top_of_stack = ap (λ n. drop n all) many ∙ dropped_reversed all count ∙ ap (λ xs. reverse (take count xs)) is

  pub left_of_stack : reverse (take (length now - count) all) ≡ drop count now
  left_of_stack = ap (λ n. reverse (take n all)) many ∙ reversed_left all count ∙ ap (drop count) is
