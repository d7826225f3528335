-- The end of a comment, looked for from a place on.
use Rattle.std.proofs.Common.{◌≡◌, ℕ, suc, ◌+◌, ◌<◌, ◌≤◌, true, false, List, [], ◌∷◌, drop, length, get_or, refl, ap, ◌∙◌, sym, arith, add-one, drop-cons}
use Rattle.std.specs.Prelude.{◌==◌, ◌&&◌, Option, Some, None}
use Rattle.std.proofs.lemmas.Grind.{common_steps}
use Rattle.lua_tokens.specs.Tokens.{closing, one_more}
use Rattle.lua_tokens.proofs.StringReading.{next_byte}

-- a count from a place on, as one from the front
abbrev pub later : ℕ → Option ℕ → Option ℕ
later at None = None
later at (Some n) = Some (at + n)

pub later-one_more : (at : ℕ) (found : Option ℕ) → later at (one_more found) ≡ later (at + 1) found
later-one_more at None = refl
later-one_more at (Some n) = let e : at + (n + 1) ≡ at + 1 + n = omega arith in ap Some e

pub later-zero : (found : Option ℕ) → later 0 found ≡ found
later-zero None = refl
later-zero (Some n) = let e : 0 + n ≡ n = omega arith in ap Some e

pub closing_here : (z : List ℕ) (at : ℕ) → at < length z → get_or z at 0 ≡ 93 → get_or z (at + 1) 0 ≡ 93 → later at (closing (drop at z)) ≡ closing z → Some (at + 2) ≡ closing z
closing_here z at within first second known =
    let here = ap (λ rest. later at (closing rest)) (drop-cons z at 0 within) in
    let next : get_or (drop (suc at) z) 0 0 ≡ 93 = next_byte z at ∙ second in
    let both : ((get_or z at 0 == 93) && (get_or (drop (suc at) z) 0 0 == 93)) ≡ true = rw (first, next) in
    let found : Some (at + 2) ≡ later at (closing (get_or z at 0 ∷ drop (suc at) z)) = rw both in
    found ∙ sym here ∙ known

pub closing_on : (z : List ℕ) (at : ℕ) → at < length z → ((get_or z at 0 == 93) && (get_or z (at + 1) 0 == 93)) ≡ false → later at (closing (drop at z)) ≡ closing z → later (at + 1) (closing (drop (at + 1) z)) ≡ closing z
closing_on z at within other known =
    let here = ap (λ rest. later at (closing rest)) (drop-cons z at 0 within) in
    let other2 : ((get_or z at 0 == 93) && (get_or (drop (suc at) z) 0 0 == 93)) ≡ false = rw (next_byte z at) other in
    let on : later at (closing (get_or z at 0 ∷ drop (suc at) z)) ≡ later at (one_more (closing (drop (suc at) z))) = rw other2 in
    let next : drop (at + 1) z ≡ drop (suc at) z = rw add-one in
    ap (λ rest. later (at + 1) (closing rest)) next ∙ sym (later-one_more at (closing (drop (suc at) z))) ∙ sym on ∙ sym here ∙ known

pub closing_never : (z : List ℕ) (at : ℕ) → length z ≤ at → later at (closing (drop at z)) ≡ closing z → None ≡ closing z
closing_never z at past known =
    let none : drop at z ≡ [] = grind (arith, common_steps) in
    sym (ap (λ rest. later at (closing rest)) none) ∙ known
