-- Strings, read from a place on.
use Rattle.std.proofs.Common.{◌≡◌, ◌≢◌, ℕ, zero, suc, ◌+◌, ◌<◌, ◌≤◌, true, false, List, [], ◌∷◌, ◌++◌, length, get_or, drop, refl, ap, ◌∙◌, sym, arith, append_assoc, add_assoc, add-one, drop-cons}
use Rattle.std.proofs.lemmas.Bool.{ne_eqb}
use Rattle.std.proofs.lemmas.List.{append-nil, get_or-drop}
use Rattle.std.proofs.Common.{eq-eqb}
use Rattle.std.proofs.lemmas.Grind.{common_steps}
use Rattle.std.specs.Prelude.{◌==◌, Option, Some, None}
use Rattle.lua_tokens.specs.Tokens.{quoted, escape, onto, onto_escaped}

-- what was read so far, before what is found
abbrev pub before : List ℕ → ℕ → Option (List ℕ × ℕ) → Option (List ℕ × ℕ)
before text count None = None
before text count (Some found) = Some (text ++ found.0, count + found.1)

closed : (quote b : ℕ) (z : List ℕ) → (b == quote) ≡ true → quoted quote (b ∷ z) ≡ Some ([], 1)
unfolding quoted
closed quote b [] is = rw is
closed quote b (c ∷ z) is = rw is

opened : (quote b : ℕ) (z : List ℕ) → (b == quote) ≡ false → (b == 10) ≡ true → quoted quote (b ∷ z) ≡ None
unfolding quoted
opened quote b [] other is = rw other
opened quote b (c ∷ z) other is = rw (other, is)

plain : (quote b : ℕ) (z : List ℕ) → (b == quote) ≡ false → (b == 10) ≡ false → (b == 92) ≡ false → quoted quote (b ∷ z) ≡ onto b 1 (quoted quote z)
unfolding quoted
plain quote b [] other line slash = rw other
plain quote b (c ∷ z) other line slash = rw (other, line, slash)

escaped : (quote b : ℕ) (z : List ℕ) → (b == quote) ≡ false → (b == 10) ≡ false → (b == 92) ≡ true → quoted quote (b ∷ z) ≡ onto_escaped (escape (get_or z 0 0)) (quoted quote (drop 1 z))
unfolding quoted
escaped quote b [] other line slash = rw other
escaped quote b (c ∷ z) other line slash = rw (other, line, slash)

before-onto : (text : List ℕ) (count b more : ℕ) (found : Option (List ℕ × ℕ)) → before text count (onto b more found) ≡ before (text ++ b ∷ []) (count + more) found
before-onto text count b more None = refl
before-onto text count b more (Some found) = rw (append_assoc text (b ∷ []) found.0, add_assoc count more found.1)

pub before-nothing : (found : Option (List ℕ × ℕ)) → before [] 0 found ≡ found
before-nothing None = refl
before-nothing (Some found) = let e : 0 + found.1 ≡ found.1 = omega arith in rw e

-- what the loop knows at a place
abbrev pub Reading : ℕ → List ℕ → List ℕ → ℕ → Type 0
Reading quote z text at = before text at (quoted quote (drop at z)) ≡ quoted quote z

pub at_end : (quote : ℕ) (z text : List ℕ) (at : ℕ) → length z ≤ at → Reading quote z text at → None ≡ quoted quote z
unfolding quoted
at_end quote z text at past reading =
    let none : drop at z ≡ [] = grind (arith, common_steps) in
    sym (ap (λ rest. before text at (quoted quote rest)) none) ∙ reading

pub at_closed : (quote : ℕ) (z text : List ℕ) (at : ℕ) → at < length z → get_or z at 0 ≡ quote → Reading quote z text at → Some (text, at + 1) ≡ quoted quote z
at_closed quote z text at within is reading =
    let here = ap (λ rest. before text at (quoted quote rest)) (drop-cons z at 0 within) in
    let found = ap (before text at) (closed quote (get_or z at 0) (drop (suc at) z) (eq-eqb _ _ is)) in
    let shape : Some (text, at + 1) ≡ before text at (Some ([], 1)) = rw (append-nil text) in
    shape ∙ sym found ∙ sym here ∙ reading

pub at_open : (quote : ℕ) (z text : List ℕ) (at : ℕ) → at < length z → get_or z at 0 ≢ quote → get_or z at 0 ≡ 10 → Reading quote z text at → None ≡ quoted quote z
at_open quote z text at within other is reading =
    let here = ap (λ rest. before text at (quoted quote rest)) (drop-cons z at 0 within) in
    let found = ap (before text at) (opened quote (get_or z at 0) (drop (suc at) z) (ne_eqb _ _ other) (eq-eqb _ _ is)) in
    sym found ∙ sym here ∙ reading

pub at_plain : (quote : ℕ) (z text : List ℕ) (at : ℕ) → at < length z → get_or z at 0 ≢ quote → get_or z at 0 ≢ 10 → get_or z at 0 ≢ 92 → Reading quote z text at → Reading quote z (text ++ get_or z at 0 ∷ []) (at + 1)
at_plain quote z text at within other line slash reading =
    let here = ap (λ rest. before text at (quoted quote rest)) (drop-cons z at 0 within) in
    let found = ap (before text at) (plain quote (get_or z at 0) (drop (suc at) z) (ne_eqb _ _ other) (ne_eqb _ _ line) (ne_eqb _ _ slash)) in
    let next : drop (at + 1) z ≡ drop (suc at) z = rw add-one in
    ap (λ rest. before (text ++ get_or z at 0 ∷ []) (at + 1) (quoted quote rest)) next
    ∙ sym (before-onto text at (get_or z at 0) 1 (quoted quote (drop (suc at) z))) ∙ sym found ∙ sym here ∙ reading

pub next_byte : (z : List ℕ) (at : ℕ) → get_or (drop (suc at) z) 0 0 ≡ get_or z (at + 1) 0
next_byte z at = let e : suc at + 0 ≡ at + 1 = omega arith in get_or-drop (suc at) z 0 0 ∙ ap (λ i. get_or z i 0) e

one_on : (z : List ℕ) (at : ℕ) → drop 1 (drop at z) ≡ drop (suc at) z
one_on [] zero = refl
one_on (b ∷ z) zero = refl
one_on [] (suc at) = refl
one_on (b ∷ z) (suc at) = one_on z at

two_on : (z : List ℕ) (at : ℕ) → drop 1 (drop (suc at) z) ≡ drop (at + 2) z
two_on z at = let e : suc (suc at) ≡ at + 2 = omega arith in one_on z (suc at) ∙ ap (λ i. drop i z) e

-- behind a backslash
at_escape : (quote : ℕ) (z text : List ℕ) (at : ℕ) → at < length z → get_or z at 0 ≢ quote → get_or z at 0 ≡ 92 → Reading quote z text at →
    before text at (onto_escaped (escape (get_or z (at + 1) 0)) (quoted quote (drop (at + 2) z))) ≡ quoted quote z
at_escape quote z text at within other slash reading =
    let line : get_or z at 0 ≢ 10 = λ e. absurd (omega arith) in
    let here = ap (λ rest. before text at (quoted quote rest)) (drop-cons z at 0 within) in
    let found = ap (before text at) (escaped quote (get_or z at 0) (drop (suc at) z) (ne_eqb _ _ other) (ne_eqb _ _ line) (eq-eqb _ _ slash)) in
    let next = next_byte z at in
    let after = two_on z at in
    let moved = ap (λ b. before text at (onto_escaped (escape b) (quoted quote (drop 1 (drop (suc at) z))))) next in
    let moved2 = ap (λ rest. before text at (onto_escaped (escape (get_or z (at + 1) 0)) (quoted quote rest))) after in
    sym moved2 ∙ sym moved ∙ sym found ∙ sym here ∙ reading

pub at_no_escape : (quote : ℕ) (z text : List ℕ) (at : ℕ) → at < length z → get_or z at 0 ≢ quote → get_or z at 0 ≡ 92 → None ≡ escape (get_or z (at + 1) 0) → Reading quote z text at → None ≡ quoted quote z
at_no_escape quote z text at within other slash none reading =
    ap (λ meant. before text at (onto_escaped meant (quoted quote (drop (at + 2) z)))) none ∙ at_escape quote z text at within other slash reading

pub at_meant : (quote : ℕ) (z text : List ℕ) (at meant : ℕ) → at < length z → get_or z at 0 ≢ quote → get_or z at 0 ≡ 92 → Some meant ≡ escape (get_or z (at + 1) 0) → Reading quote z text at → Reading quote z (text ++ meant ∷ []) (at + 2)
at_meant quote z text at meant within other slash some reading =
    sym (before-onto text at meant 2 (quoted quote (drop (at + 2) z)))
    ∙ ap (λ found. before text at (onto_escaped found (quoted quote (drop (at + 2) z)))) some ∙ at_escape quote z text at within other slash reading
