-- Texts that are held, by what holds their bytes.
use Rattle.std.proofs.Common.{◌≡◌, ℕ, ◌+◌, ◌<◌, Bool, true, false, cond, not, List, [], ◌∷◌, ◌++◌, map, length, get_or, refl, sym, ap, ◌∙◌, arith, None, Some, true≢false}
use Rattle.std.specs.Prelude.{nat_lt, ◌||◌}
use Rattle.std.specs.List.{position, prefix_len, list_any, IsDistinct}
use Rattle.std.specs.Str.{bytes_eq}
use Rattle.std.proofs.lemmas.Bool.Decides.{Decides-ltb, nat_tests}
use Rattle.std.proofs.lemmas.List.{get_or-map, length-map, map-append}
use Rattle.std.proofs.lemmas.List.Folds.{list_any_at}
use Rattle.std.proofs.lemmas.List.Quantifiers.{position-Some}
use Rattle.std.proofs.lemmas.Map.Keys.{apart_from_distinct}
use Rattle.std.proofs.lemmas.Slice.Eq.{bytes_eq-Decides}
use Rattle.lua_store.specs.Values.{AreApart, with_text}

module _ {X : Type 0} (bytes_of : X → List ℕ) where
  passing : (test : List ℕ → Bool) (held : List X) → prefix_len (λ x. not (test (bytes_of x))) held ≡ prefix_len (λ text. not (test text)) (map bytes_of held)
  passing test [] = refl
  passing test (x ∷ held) = ap (λ n. cond (not (test (bytes_of x))) (1 + n) 0) (passing test held)

  placed : (test : List ℕ → Bool) (held : List X) → position (λ x. test (bytes_of x)) held ≡ position test (map bytes_of held)
  placed test held = λ j. cond (nat_lt (passing test held j) (sym (length-map held bytes_of) j)) (Some (passing test held j)) None

  pub any_held : (test : List ℕ → Bool) (held : List X) → list_any (λ x. test (bytes_of x)) held ≡ list_any test (map bytes_of held)
  any_held test [] = refl
  any_held test (x ∷ held) = ap (λ b. test (bytes_of x) || b) (any_held test held)

  -- a text that is found is at its place
  pub text_found : (bytes : List ℕ) (held : List X) (at : ℕ) → position (λ x. bytes_eq bytes (bytes_of x)) held ≡ Some at → (at < length (map bytes_of held)) × (get_or (map bytes_of held) at [] ≡ bytes)
  text_found bytes held at e =
      let found = position-Some (bytes_eq bytes) (map bytes_of held) at [] (sym (placed (bytes_eq bytes) held) ∙ e) in
      (found.0, sym ((bytes_eq-Decides _ _).0 found.1))

  -- and so is one that stands at a place
  pub text_stands : (bytes : List ℕ) (held : List X) (at : ℕ) (x : X) → at < length held → get_or held at x ≡ x → bytes_of x ≡ bytes → (at < length (map bytes_of held)) × (get_or (map bytes_of held) at [] ≡ bytes)
  text_stands bytes held at x inside is same = (omega (arith, inside, length-map held bytes_of), get_or-map bytes_of held at x [] inside ∙ ap bytes_of is ∙ same)

  -- it is one of those that are held
  pub text_known : (bytes : List ℕ) (held : List X) → list_any (λ x. bytes_eq bytes (bytes_of x)) held ≡ true → map bytes_of held ≡ with_text (map bytes_of held) bytes
  text_known bytes held e = sym (ap (λ b. cond b (map bytes_of held) (map bytes_of held ++ bytes ∷ [])) (sym (any_held (bytes_eq bytes) held) ∙ e))

  -- one more
  pub text_more : (x : X) (held : List X) → map bytes_of (cond (list_any (λ y. bytes_eq (bytes_of x) (bytes_of y)) held) held (held ++ x ∷ [])) ≡ with_text (map bytes_of held) (bytes_of x)
  text_more x held = by (list_any (λ y. bytes_eq (bytes_of x) (bytes_of y)) held) ∙ ap (λ b. cond b (map bytes_of held) (map bytes_of held ++ bytes_of x ∷ [])) (any_held (bytes_eq (bytes_of x)) held)
    where
      by : (b : Bool) → map bytes_of (cond b held (held ++ x ∷ [])) ≡ cond b (map bytes_of held) (map bytes_of held ++ bytes_of x ∷ [])
      by true = refl
      by false = map-append bytes_of held (x ∷ [])

  -- distinct texts are apart
  one_behind : (held : List X) → IsDistinct (λ x y. bytes_eq (bytes_of x) (bytes_of y)) held → (a b : ℕ) → a < b → b < length (map bytes_of held) → get_or (map bytes_of held) a [] ≡ get_or (map bytes_of held) b [] → ⊥
  one_behind [] distinct a b h k e = omega (arith, k)
  one_behind (x ∷ held) distinct a b h k e =
      let length_is = length-map (x ∷ held) bytes_of in
      let inside : b < length (x ∷ held) = omega (arith, length_is, k) in
      let apart = apart_from_distinct (λ y z. bytes_eq (bytes_of y) (bytes_of z)) (x ∷ held) a b x distinct h inside in
      let same = sym (get_or-map bytes_of (x ∷ held) a x [] (omega (arith, h, inside))) ∙ e ∙ get_or-map bytes_of (x ∷ held) b x [] inside in
      true≢false (sym ((bytes_eq-Decides _ _).1 same) ∙ apart)

  pub distinct_apart : (held : List X) → IsDistinct (λ x y. bytes_eq (bytes_of x) (bytes_of y)) held → AreApart (map bytes_of held)
  distinct_apart held distinct a b h k e = by (nat_lt a b) (nat_lt b a) refl refl
    where
      by : (x y : Bool) → nat_lt a b ≡ x → nat_lt b a ≡ y → a ≡ b
      by true y p q = absurd (one_behind held distinct a b ((Decides-ltb a b).0 p) k e)
      by false true p q = absurd (one_behind held distinct b a ((Decides-ltb b a).0 q) h (sym e))
      by false false p q = grind (arith, nat_tests, p, q)

-- a text that stands at a place is held already
pub text_there : (bytes : List ℕ) (texts : List (List ℕ)) (at : ℕ) → at < length texts → get_or texts at [] ≡ bytes → texts ≡ with_text texts bytes
text_there bytes texts at inside is =
    sym (ap (λ b. cond b texts (texts ++ bytes ∷ [])) (list_any_at (bytes_eq bytes) texts at [] inside ((bytes_eq-Decides _ _).1 (sym is))))
