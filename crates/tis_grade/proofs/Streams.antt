-- Values of a stream that come as wanted, or otherwise.
use Rattle.std.proofs.Common.{◌≡◌, ℕ, zero, suc, ◌+◌, ◌≤◌, ℤ, true, false, cond, List, [], ◌∷◌, ◌++◌, length, take, drop, Option, Some, None, refl, sym, ap, ap₂, ◌∙◌, arith, length-append}
use Rattle.std.specs.Prelude.{Bool, slice_get}
use Rattle.std.specs.Ordering.{int_eq}
use Rattle.std.proofs.lemmas.Bool.{true≢false, cond-true, false_from_ne_true, and_from, and_right}
use Rattle.std.proofs.lemmas.Bool.Decides.{Decides-int_eq}
use Rattle.std.proofs.lemmas.List.{take-append-drop, length-take-le, nil_from_length}
use Rattle.std.proofs.lemmas.Option.{none-some, same_Some}
use Rattle.tis_base.specs.Prefix.{IsPrefixOf}
use Rattle.tis_grade.specs.declared.verdict.Verdict.{Verdict}
use Rattle.tis_grade.specs.declared.verdict.Verdict.TheVariants.{Wrong}
use Rattle.tis_grade.specs.Verdict.{first_wrong, are_same}

pub same_value : (value : ℤ) → int_eq value value ≡ true
same_value value = (Decides-int_eq value value).1 refl

pub one_value : (want got : ℤ) → want ≡ got → int_eq want got ≡ true
one_value want got is = (Decides-int_eq want got).1 is

pub other_value : (want got : ℤ) → (want ≡ got → ⊥) → int_eq want got ≡ false
other_value want got apart = false_from_ne_true (int_eq want got) (λ is. apart ((Decides-int_eq want got).0 is))

-- values that are as wanted are passed over
passed : (position base : ℕ) (same wanted taken : List ℤ) → first_wrong position base (same ++ wanted) (same ++ taken) ≡ first_wrong position (base + length same) wanted taken
passed position base [] wanted taken = ap (λ (at : ℕ). first_wrong position at wanted taken) (let is : base ≡ base + 0 = omega arith in is)
passed position base (value ∷ same) wanted taken =
    cond-true (int_eq value value) (first_wrong position (base + 1) (same ++ wanted) (same ++ taken)) (Some (Wrong position base value value)) (same_value value)
    ∙ passed position (base + 1) same wanted taken
    ∙ ap (λ (at : ℕ). first_wrong position at wanted taken) (let is : base + 1 + length same ≡ base + suc (length same) = omega arith in is)

-- where the first values are as wanted, those behind decide
rest_decides : (position index : ℕ) (wanted taken rest : List ℤ) → index ≤ length taken → take index taken ++ rest ≡ wanted → first_wrong position 0 wanted taken ≡ first_wrong position index rest (drop index taken)
rest_decides position index wanted taken rest within is =
    ap (λ (w : List ℤ). first_wrong position 0 w taken) (sym is)
    ∙ ap (λ (t : List ℤ). first_wrong position 0 (take index taken ++ rest) t) (sym (take-append-drop index taken))
    ∙ passed position 0 (take index taken) rest (drop index taken)
    ∙ ap (λ (at : ℕ). first_wrong position at rest (drop index taken)) (let is : 0 + length (take index taken) ≡ index = omega (arith, length-take-le index taken within) in is)

-- one more value as wanted
pub one_more : (index : ℕ) (wanted taken : List ℤ) (value : ℤ) → slice_get wanted index ≡ Some value → slice_get taken index ≡ Some value → IsPrefixOf (take index taken) wanted → IsPrefixOf (take (suc index) taken) wanted
one_more index [] taken value want got before = absurd (none-some value want)
one_more index (w ∷ wanted) [] value want got before = absurd (none-some value got)
one_more zero (w ∷ wanted) (t ∷ taken) value want got before = (wanted, ap (λ (v : ℤ). v ∷ wanted) (same_Some t value got ∙ sym (same_Some w value want)))
one_more (suc index) (w ∷ wanted) (t ∷ taken) value want got before =
    let (rest, is) = before in
    let first : t ≡ w = cc in
    let others : take index taken ++ rest ≡ wanted = cc in
    let (more, then) = one_more index wanted taken value want got (rest, others) in
    (more, ap₂ (λ (v : ℤ) (vs : List ℤ). v ∷ vs) first then)

-- the first value that is another
wrong_from : (position base index : ℕ) (wanted taken : List ℤ) (want got : ℤ) → slice_get wanted index ≡ Some want → slice_get taken index ≡ Some got → (want ≡ got → ⊥) → IsPrefixOf (take index taken) wanted →
    first_wrong position base wanted taken ≡ Some (Wrong position (base + index) want got)
wrong_from position base index [] taken want got wants gets apart before = absurd (none-some want wants)
wrong_from position base index (w ∷ wanted) [] want got wants gets apart before = absurd (none-some got gets)
wrong_from position base zero (w ∷ wanted) (t ∷ taken) want got wants gets apart before =
    let w_is = same_Some w want wants in
    let t_is = same_Some t got gets in
    ap (λ (b : Bool). cond b (first_wrong position (base + 1) wanted taken) (Some (Wrong position base w t))) (other_value w t (λ is. apart (sym w_is ∙ is ∙ t_is)))
    ∙ ap₂ (λ (v : ℤ) (u : ℤ). Some (Wrong position base v u)) w_is t_is
    ∙ ap (λ (at : ℕ). Some (Wrong position at want got)) (let is : base ≡ base + 0 = omega arith in is)
wrong_from position base (suc index) (w ∷ wanted) (t ∷ taken) want got wants gets apart before =
    let (rest, is) = before in
    let first : w ≡ t = cc in
    let others : take index taken ++ rest ≡ wanted = cc in
    cond-true (int_eq w t) (first_wrong position (base + 1) wanted taken) (Some (Wrong position base w t)) (one_value w t first)
    ∙ wrong_from position (base + 1) index wanted taken want got wants gets apart (rest, others)
    ∙ ap (λ (at : ℕ). Some (Wrong position at want got)) (let is : base + 1 + index ≡ base + suc index = omega arith in is)

pub wrong_there : (position index : ℕ) (wanted taken : List ℤ) (want got : ℤ) → slice_get wanted index ≡ Some want → slice_get taken index ≡ Some got → (want ≡ got → ⊥) → IsPrefixOf (take index taken) wanted → first_wrong position 0 wanted taken ≡ Some (Wrong position index want got)
wrong_there position index wanted taken want got wants gets apart before =
    wrong_from position 0 index wanted taken want got wants gets apart before
    ∙ ap (λ (at : ℕ). Some (Wrong position at want got)) (let is : 0 + index ≡ index = omega arith in is)

-- where no further value is wanted, none is another than wanted
pub none_left : (position index : ℕ) (wanted taken : List ℤ) → index ≤ length taken → length wanted ≤ index → IsPrefixOf (take index taken) wanted → first_wrong position 0 wanted taken ≡ None
none_left position index wanted taken within past before =
    let (rest, is) = before in
    let whole : length (take index taken ++ rest) ≡ length wanted = ap (λ (vs : List ℤ). length vs) is in
    let none : length rest ≡ 0 = omega (arith, whole, past, length-append (take index taken) rest, length-take-le index taken within) in
    rest_decides position index wanted taken rest within is
    ∙ ap (λ (r : List ℤ). first_wrong position index r (drop index taken)) (nil_from_length rest none)

-- where all values are as wanted, none is another
pub none_wrong : (position base : ℕ) (wanted taken : List ℤ) → IsPrefixOf taken wanted → first_wrong position base wanted taken ≡ None
none_wrong position base [] taken before = refl
none_wrong position base (w ∷ wanted) [] before = refl
none_wrong position base (w ∷ wanted) (t ∷ taken) before =
    let (rest, is) = before in
    let first : w ≡ t = cc in
    let others : taken ++ rest ≡ wanted = cc in
    cond-true (int_eq w t) (first_wrong position (base + 1) wanted taken) (Some (Wrong position base w t)) (one_value w t first)
    ∙ none_wrong position (base + 1) wanted taken (rest, others)

-- and back, where there are no more than wanted
pub as_wanted : (position base : ℕ) (wanted taken : List ℤ) → first_wrong position base wanted taken ≡ None → length taken ≤ length wanted → IsPrefixOf taken wanted
as_wanted position base wanted [] none few = (wanted, refl)
as_wanted position base [] (t ∷ taken) none few = absurd (omega arith)
as_wanted position base (w ∷ wanted) (t ∷ taken) none few =
    elim (int_eq w t) as (λ b. int_eq w t ≡ b → cond b (first_wrong position (base + 1) wanted taken) (Some (Wrong position base w t)) ≡ None → IsPrefixOf (t ∷ taken) (w ∷ wanted)) [
      | true ↦ λ same no.
          let (rest, is) = as_wanted position (base + 1) wanted taken no (omega arith) in
          let first : w ≡ t = (Decides-int_eq w t).0 same in
          (rest, ap₂ (λ (v : ℤ) (vs : List ℤ). v ∷ vs) (sym first) is)
      | false ↦ λ other no. absurd (none-some _ (sym no))
    ] refl none

-- ---- whether all came

pub all_came : (wanted taken : List ℤ) → IsPrefixOf taken wanted → length taken ≡ length wanted → are_same wanted taken ≡ true
all_came [] [] before same = refl
all_came [] (t ∷ taken) before same = absurd (omega arith)
all_came (w ∷ wanted) [] before same = absurd (omega arith)
all_came (w ∷ wanted) (t ∷ taken) before same =
    let (rest, is) = before in
    let first : w ≡ t = cc in
    let others : taken ++ rest ≡ wanted = cc in
    let after : length taken ≡ length wanted = omega arith in
    let here : int_eq w t ≡ true = one_value w t first in
    let there : are_same wanted taken ≡ true = all_came wanted taken (rest, others) after in
    and_from (int_eq w t) (are_same wanted taken) here there

pub lengths_differ : (wanted taken : List ℤ) → (length taken ≡ length wanted → ⊥) → are_same wanted taken ≡ false
lengths_differ [] [] apart = absurd (apart refl)
lengths_differ [] (t ∷ taken) apart = refl
lengths_differ (w ∷ wanted) [] apart = refl
lengths_differ (w ∷ wanted) (t ∷ taken) apart = and_right (int_eq w t) (are_same wanted taken) (lengths_differ wanted taken (λ is. apart (ap suc is)))

-- ---- one value beside the one wanted

-- what a comparison gives
abbrev pub compared : ℕ → ℕ → ℤ → ℤ → Option Verdict
compared position index want got = cond (int_eq want got) None (Some (Wrong position index want got))

pub compared_wrong : (position index : ℕ) (want got : ℤ) (wrong : Verdict) → Some wrong ≡ compared position index want got → (want ≡ got → ⊥) × (wrong ≡ Wrong position index want got)
compared_wrong position index want got wrong is =
    elim (int_eq want got) as (λ b. int_eq want got ≡ b → Some wrong ≡ cond b None (Some (Wrong position index want got)) → (want ≡ got → ⊥) × (wrong ≡ Wrong position index want got)) [
      | true ↦ λ same no. absurd (none-some wrong (sym no))
      | false ↦ λ other yes. ((λ same. true≢false (sym (one_value want got same) ∙ other)), same_Some wrong (Wrong position index want got) yes)
    ] refl is

pub compared_right : (position index : ℕ) (want got : ℤ) → None ≡ compared position index want got → want ≡ got
compared_right position index want got is =
    elim (int_eq want got) as (λ b. int_eq want got ≡ b → None ≡ cond b None (Some (Wrong position index want got)) → want ≡ got) [
      | true ↦ λ same no. (Decides-int_eq want got).0 same
      | false ↦ λ other yes. absurd (none-some (Wrong position index want got) yes)
    ] refl is
