-- Held keys and what they stand for.
use Rattle.std.proofs.Common.{◌≡◌, ℕ, zero, suc, ◌+◌, ◌<◌, Bool, true, false, cond, not, List, [], ◌∷◌, length, get_or, refl, sym, ap, ◌∙◌, arith, Option, None, Some, true≢false, nat_eq, pos}
use Rattle.std.specs.Prelude.{max}
use Rattle.std.specs.Option.{is_some, option_map, unwrap_or}
use Rattle.std.specs.List.{position, position_or_len}
use Rattle.std.specs.Map.{lookup}
use Rattle.std.specs.Str.{bytes_eq}
use Rattle.std.specs.Cmp.Lexicographic.{nat_list_eq_equiv}
use Rattle.std.proofs.lemmas.Bool.Decides.{Decides-eqb, Decides-like, Decides-ltb, same_from_decides}
use Rattle.std.proofs.lemmas.Slice.Eq.{bytes_eq-Decides}
use Rattle.std.proofs.lemmas.List.Quantifiers.{position-Some}
use Rattle.lua_machine.specs.Value as lua
use Rattle.lua_machine.specs.Value.{LuaValue, is_nil, is_same}
use Rattle.lua_machine.specs.Tables.{Row, at_key, place_of, run_from, with_key}
use Rattle.lua_store.specs.declared.value.SmallValue.{SmallValue}
use Rattle.lua_store.specs.declared.value.SmallValue.TheVariants as small
use Rattle.lua_store.specs.declared.value.Key.{Key}
use Rattle.lua_store.specs.declared.value.Key.TheVariants as key
use Rattle.lua_store.specs.Values.{Texts, AreApart, IsHeldKey, meant, meant_key, held_key, same_key}
use Rattle.lua_store.specs.Rows.{Cells, held_in, at_held, at_found, row_of}
use Rattle.lua_store.specs.contracts.value.KeyPartialEq.TheImpl.{eq-value}

-- ---- places of texts

reached : {X : Type 0} (p : X → Bool) (xs : List X) (k : ℕ) (d : X) → k < length xs → p (get_or xs k d) ≡ true → position_or_len p xs < length xs
reached p [] k d h e = absurd (omega (arith, h))
reached p (x ∷ xs) zero d h e = by (p x) e
  where
    by : (b : Bool) → b ≡ true → cond (not b) (1 + position_or_len p xs) 0 < suc (length xs)
    by true f = omega arith
    by false f = absurd (true≢false (sym f))
reached p (x ∷ xs) (suc k) d h e = by (p x) (reached p xs k d (omega (arith, h)) e)
  where
    by : (b : Bool) → position_or_len p xs < length xs → cond (not b) (1 + position_or_len p xs) 0 < suc (length xs)
    by true more = omega arith
    by false more = omega (arith, more)

none_passes : {X : Type 0} (p : X → Bool) (xs : List X) (k : ℕ) (d : X) → position p xs ≡ None → k < length xs → p (get_or xs k d) ≡ false
none_passes p xs k d none h = by (p (get_or xs k d)) refl
  where
    by : (b : Bool) → p (get_or xs k d) ≡ b → b ≡ false
    by false e = refl
    by true e =
        let found : position p xs ≡ Some (position_or_len p xs) = ap (λ b. cond b (Some (position_or_len p xs)) None) ((Decides-ltb _ _).1 (reached p xs k d h e)) in
        absurd (true≢false (sym (ap is_some found) ∙ ap is_some none))

-- two texts are the same exactly where their places are
place_same : (texts : Texts) → AreApart texts → (a b : ℕ) → a < length texts → b < length texts → bytes_eq (get_or texts a []) (get_or texts b []) ≡ nat_eq a b
place_same texts apart a b h k =
    same_from_decides _ _
    (Decides-like _ (apart a b h k) (ap (λ at. get_or texts at [])) (bytes_eq-Decides (get_or texts a []) (get_or texts b [])))
    (Decides-eqb a b)

-- ---- held keys

-- the held key of what a key stands for is the key
pub found_again : (texts : Texts) → AreApart texts → (k : Key) → IsHeldKey texts k → held_key texts (meant_key texts k) ≡ Some k
found_again texts apart (key.Truth b) h = refl
found_again texts apart (key.Number n) h = refl
found_again texts apart (key.Text at) h = by (position (bytes_eq (get_or texts at [])) texts) refl
  where
    by : (r : Option ℕ) → position (bytes_eq (get_or texts at [])) texts ≡ r → option_map key.Text r ≡ Some (key.Text at)
    by None e = absurd (true≢false (sym ((bytes_eq-Decides (get_or texts at []) (get_or texts at [])).1 refl) ∙ none_passes (bytes_eq (get_or texts at [])) texts at [] e h))
    by (Some i) e =
        let found = position-Some (bytes_eq (get_or texts at [])) texts i [] e in
        ap (λ n. Some (key.Text n)) (sym (apart at i h found.0 ((bytes_eq-Decides _ _).0 found.1)))

-- a key stands for a value exactly where it is the value's held key
abbrev matches : Key → Option Key → Bool
matches k None = false
matches k (Some q) = same_key k q

same_truths : (a b : Bool) → is_same (lua.Truth a) (lua.Truth b) ≡ same_key (key.Truth a) (key.Truth b)
same_truths true true = refl
same_truths true false = refl
same_truths false true = refl
same_truths false false = refl

same_texts : (texts : Texts) → AreApart texts → (at : ℕ) → at < length texts → (bytes : List ℕ) (r : Option ℕ) → position (bytes_eq bytes) texts ≡ r → bytes_eq (get_or texts at []) bytes ≡ matches (key.Text at) (option_map key.Text r)
same_texts texts apart at h bytes None e = nat_list_eq_equiv.symm (get_or texts at []) bytes ∙ none_passes (bytes_eq bytes) texts at [] e h
same_texts texts apart at h bytes (Some i) e =
    let found = position-Some (bytes_eq bytes) texts i [] e in
    ap (bytes_eq (get_or texts at [])) ((bytes_eq-Decides bytes (get_or texts i [])).0 found.1) ∙ place_same texts apart at i h found.0

pub same_held : (texts : Texts) → AreApart texts → (k : Key) → IsHeldKey texts k → (other : LuaValue) → is_same (meant_key texts k) other ≡ matches k (held_key texts other)
same_held texts apart (key.Truth a) h lua.Nil = refl
same_held texts apart (key.Truth a) h (lua.Truth b) = same_truths a b
same_held texts apart (key.Truth a) h (lua.Number n) = refl
same_held texts apart (key.Truth a) h (lua.Text bytes) = by (position (bytes_eq bytes) texts)
  where
    by : (r : Option ℕ) → false ≡ matches (key.Truth a) (option_map key.Text r)
    by None = refl
    by (Some i) = refl
same_held texts apart (key.Truth a) h (lua.Table at) = refl
same_held texts apart (key.Number a) h lua.Nil = refl
same_held texts apart (key.Number a) h (lua.Truth b) = refl
same_held texts apart (key.Number a) h (lua.Number n) = refl
same_held texts apart (key.Number a) h (lua.Text bytes) = by (position (bytes_eq bytes) texts)
  where
    by : (r : Option ℕ) → false ≡ matches (key.Number a) (option_map key.Text r)
    by None = refl
    by (Some i) = refl
same_held texts apart (key.Number a) h (lua.Table at) = refl
same_held texts apart (key.Text a) h lua.Nil = refl
same_held texts apart (key.Text a) h (lua.Truth b) = refl
same_held texts apart (key.Text a) h (lua.Number n) = refl
same_held texts apart (key.Text a) h (lua.Text bytes) = same_texts texts apart a h bytes (position (bytes_eq bytes) texts) refl
same_held texts apart (key.Text a) h (lua.Table at) = refl

-- ---- rows

-- the value at what a key stands for is the value that the key has
pub value_found : (texts : Texts) → AreApart texts → (k : Key) → IsHeldKey texts k → (cells : Cells) → meant texts (at_held cells k) ≡ at_found texts cells (held_key texts (meant_key texts k))
value_found texts apart k h cells = sym (ap (at_found texts cells) (found_again texts apart k h))

-- a value that is put at a key is at what the key stands for, and the others are as they were
pub put_at : (texts : Texts) → AreApart texts → (k : Key) → IsHeldKey texts k → (value : SmallValue) (old new : Cells) → ((q : Key) → held_in new.entries q ≡ cond (same_key k q) value (held_in old.entries q)) →
    new.last ≡ max old.last (place_of (meant_key texts k)) → row_of texts new ≡ with_key (row_of texts old) (meant_key texts k) (meant texts value)
put_at texts apart k h value old new each last = λ j. record { at = λ other. here other j; last = last j }
  where
    pushed : (b : Bool) (one other : SmallValue) → meant texts (cond b one other) ≡ cond b (meant texts one) (meant texts other)
    pushed true one other = refl
    pushed false one other = refl

    by : (r : Option Key) → at_found texts new r ≡ cond (matches k r) (meant texts value) (at_found texts old r)
    by None = refl
    by (Some q) = ap (meant texts) (each q) ∙ pushed (same_key k q) value (held_in old.entries q)

    here : (other : LuaValue) → at_found texts new (held_key texts other) ≡ cond (is_same (meant_key texts k) other) (meant texts value) (at_found texts old (held_key texts other))
    here other = by (held_key texts other) ∙ ap (λ b. cond b (meant texts value) (at_found texts old (held_key texts other))) (sym (same_held texts apart k h other))

-- ---- look-ups by the equality that is derived

own_same : (a b : Key) → eq-value.it a b ≡ same_key a b
own_same (key.Truth true) (key.Truth true) = refl
own_same (key.Truth true) (key.Truth false) = refl
own_same (key.Truth false) (key.Truth true) = refl
own_same (key.Truth false) (key.Truth false) = refl
own_same (key.Truth a) (key.Number b) = refl
own_same (key.Truth a) (key.Text b) = refl
own_same (key.Number a) (key.Truth b) = refl
own_same (key.Number a) (key.Number b) = search
own_same (key.Number a) (key.Text b) = refl
own_same (key.Text a) (key.Truth b) = refl
own_same (key.Text a) (key.Number b) = refl
own_same (key.Text a) (key.Text b) = search

pub looked_up : (k : Key) (entries : List (Key × SmallValue)) → lookup (eq-value.it k) entries ≡ lookup (same_key k) entries
looked_up k entries = ap (λ test. lookup test entries) (λ j q. own_same k q j)

-- the value that a map gives, where the map is changed at a key
pub put_in : (k : Key) (value : Option SmallValue) (old new : List (Key × SmallValue)) → ((q : Key) → lookup (eq-value.it q) new ≡ cond (eq-value.it k q) value (lookup (eq-value.it q) old)) →
    (q : Key) → held_in new q ≡ cond (same_key k q) (unwrap_or value small.Nil) (held_in old q)
put_in k value old new each q =
    ap (λ found. unwrap_or found small.Nil) (sym (looked_up q new) ∙ each q ∙ ap (λ b. cond b value (lookup (eq-value.it q) old)) (own_same k q) ∙ ap (cond (same_key k q) value) (looked_up q old))
    ∙ pushed (same_key k q) (lookup (same_key q) old)
  where
    pushed : (b : Bool) (found : Option SmallValue) → unwrap_or (cond b value found) small.Nil ≡ cond b (unwrap_or value small.Nil) (unwrap_or found small.Nil)
    pushed true found = refl
    pushed false found = refl

-- ---- borders

-- a key that isn't there ends the run
pub run_ends : (most : ℕ) (table : Row) (first : ℕ) → is_nil (at_key table (lua.Number (pos first))) ≡ true → run_from most table first ≡ 0
run_ends zero table first e = refl
run_ends (suc most) table first e = ap (λ b. cond b 0 (suc (run_from most table (first + 1)))) e

-- a key that is there makes it longer
pub run_goes_on : (most rest : ℕ) (table : Row) (first : ℕ) → most ≡ suc rest → is_nil (at_key table (lua.Number (pos first))) ≡ false → run_from most table first ≡ suc (run_from rest table (first + 1))
run_goes_on most rest table first h e = ap (λ n. run_from n table first) h ∙ ap (λ b. cond b 0 (suc (run_from rest table (first + 1)))) e
