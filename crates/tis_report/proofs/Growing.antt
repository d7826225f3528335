-- A text grows by what each of one more number gives.
use Rattle.std.proofs.Common.{◌≡◌, ℕ, ℤ, zero, suc, ◌+◌, List, [], ◌∷◌, ◌++◌, map, take, Some, refl, sym, ap, ◌∙◌, arith, add-one, append_assoc, append-nil}
use Rattle.std.specs.Prelude.{flat_map, slice_get}
use Rattle.std.specs.List.{range_with_len}
use Rattle.tis_devices.specs.Picture.{Picture, after_value, picture}
use Rattle.tis_devices.proofs.Pictures.{pictures_grow}
use Rattle.std.proofs.lemmas.Grind.{flat_map-append}
use Rattle.std.proofs.lemmas.List.{take_more}
use Rattle.std.proofs.lemmas.Option.{slice_get_within, get_or_from_slice_get}

range_push : (a n : ℕ) → range_with_len a (suc n) ≡ range_with_len a n ++ (a + n) ∷ []
range_push a zero = ap (λ (x : ℕ). x ∷ []) (omega arith)
range_push a (suc n) = ap (λ (xs : List ℕ). a ∷ xs) (range_push (a + 1) n) ∙ ap (λ (x : ℕ). a ∷ (range_with_len (a + 1) n ++ x ∷ [])) (omega arith)

-- one number more from 0 on
range_more : (n : ℕ) → range_with_len 0 (n + 1) ≡ range_with_len 0 n ++ n ∷ []
range_more n = ap (range_with_len 0) (add-one n) ∙ range_push 0 n ∙ ap (λ (x : ℕ). range_with_len 0 n ++ x ∷ []) (omega arith)

-- one piece more behind a text
pub piece_more : {X : Type 0} (f : X → List ℕ) (before old new : List ℕ) (xs ys : List X) (x : X) → ys ≡ xs ++ x ∷ [] → new ≡ old ++ f x → old ≡ before ++ flat_map f xs → new ≡ before ++ flat_map f ys
piece_more f before old new xs ys x ys_is new_is old_is =
    new_is
    ∙ ap (λ (t : List ℕ). t ++ f x) old_is
    ∙ append_assoc before (flat_map f xs) (f x)
    ∙ ap (λ (t : List ℕ). before ++ t) (ap (λ (t : List ℕ). flat_map f xs ++ t) (sym (append-nil (f x))) ∙ sym (flat_map-append f xs (x ∷ [])) ∙ ap (flat_map f) (sym ys_is))

pub number_more : (f : ℕ → List ℕ) (before old new : List ℕ) (n : ℕ) → new ≡ old ++ f n → old ≡ before ++ flat_map f (range_with_len 0 n) → new ≡ before ++ flat_map f (range_with_len 0 (n + 1))
number_more f before old new n = piece_more f before old new (range_with_len 0 n) (range_with_len 0 (n + 1)) n (range_more n)

one_taken : {X : Type 0} (xs : List X) (i : ℕ) (x : X) → slice_get xs i ≡ Some x → take (i + 1) xs ≡ take i xs ++ x ∷ []
one_taken xs i x found = take_more xs i x (slice_get_within xs i x found) ∙ ap (λ y. take i xs ++ y ∷ []) (get_or_from_slice_get xs i x x found)

pub taken_more : {X : Type 0} (f : X → List ℕ) (before old new : List ℕ) (xs : List X) (i : ℕ) (x : X) → slice_get xs i ≡ Some x → new ≡ old ++ f x → old ≡ before ++ flat_map f (take i xs) → new ≡ before ++ flat_map f (take (i + 1) xs)
taken_more f before old new xs i x found = piece_more f before old new (take i xs) (take (i + 1) xs) x (one_taken xs i x found)

map_more : {X Y : Type 0} (f : X → Y) (xs : List X) (x : X) → map f (xs ++ x ∷ []) ≡ map f xs ++ f x ∷ []
map_more f [] x = refl
map_more f (y ∷ xs) x = ap (λ l. f y ∷ l) (map_more f xs x)

-- one byte more
pub byte_more : (f : ℕ → ℕ) (before old new : List ℕ) (n byte : ℕ) → byte ≡ f n → new ≡ old ++ byte ∷ [] → old ≡ before ++ map f (range_with_len 0 n) → new ≡ before ++ map f (range_with_len 0 (n + 1))
byte_more f before old new n byte byte_is new_is old_is =
    new_is
    ∙ ap (λ (t : List ℕ). t ++ byte ∷ []) old_is
    ∙ append_assoc before (map f (range_with_len 0 n)) (byte ∷ [])
    ∙ ap (λ (t : List ℕ). before ++ t) (ap (λ (b : ℕ). map f (range_with_len 0 n) ++ b ∷ []) byte_is ∙ sym (map_more f (range_with_len 0 n) n) ∙ ap (map f) (sym (range_more n)))

-- one value more is drawn
pub drawn_more : (values : List ℤ) (i : ℕ) (value : ℤ) (old new : Picture) → slice_get values i ≡ Some value → new ≡ after_value old value → old ≡ picture (take i values) → new ≡ picture (take (i + 1) values)
drawn_more values i value old new found new_is old_is =
    new_is ∙ ap (λ (p : Picture). after_value p value) old_is ∙ sym (ap picture (one_taken values i value found) ∙ pictures_grow (take i values) (value ∷ []))

-- a head, an LF and the rows behind a text
pub image_made : (before head one two three rows : List ℕ) → one ≡ before ++ head → two ≡ one ++ 10 ∷ [] → three ≡ two ++ rows → three ≡ before ++ (head ++ 10 ∷ rows)
image_made before head one two three rows one_is two_is three_is =
    three_is
    ∙ ap (λ (t : List ℕ). t ++ rows) (two_is ∙ ap (λ (t : List ℕ). t ++ 10 ∷ []) one_is)
    ∙ append_assoc (before ++ head) (10 ∷ []) rows
    ∙ append_assoc before head (10 ∷ rows)
