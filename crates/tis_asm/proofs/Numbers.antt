-- The word of a number: what bytes it has, and the number that it is read as.
use Rattle.std.proofs.Common.{◌≡◌, ℕ, suc, ◌+◌, ◌-◌, ◌*◌, ◌/◌, ◌%◌, ◌^◌, ◌<◌, ◌≤◌, ℤ, pos, negsuc, Bool, true, false, nat_le, List, [], ◌∷◌, ◌++◌, length, Some, refl, ap, ◌∙◌, arith}
use Rattle.std.specs.Prelude.{not, ◌&&◌, ◌==◌, neg_ℤ, option_map, decimal}
use Rattle.std.specs.List.{list_all}
use Rattle.std.specs.Fmt.{signed_decimal}
use Rattle.std.proofs.lemmas.Bool.{false≢true, and_parts, and_from, ne_eqb}
use Rattle.std.proofs.lemmas.Bool.Decides.{nat_tests}
use Rattle.std.proofs.lemmas.Fmt.{decimal_by_steps, length-decimal-le}
use Rattle.std.proofs.lemmas.Int.{ints}
use Rattle.tis_base.specs.Saturation.{sat, IsValue}
use Rattle.tis_base.proofs.Saturating.{sat_value}
use Rattle.tis_base.proofs.WrittenLines.{is_plain_byte, list_all-join}
use Rattle.tis_asm.specs.declared.instr.Source.TheVariants as from
use Rattle.tis_asm.specs.Assembling.{is_gap, is_filled, is_label_byte, is_digit, digits_number, number_of_word, source_of_word}

-- ---- bytes

-- the digits are digits
is_digit-digit : (digit : ℕ) → digit < 10 → is_digit (48 + digit) ≡ true
is_digit-digit digit small = grind (arith, nat_tests)

-- a digit is from 48 to 57
digit_bounds : (byte : ℕ) → is_digit byte ≡ true → (48 ≤ byte) × (byte ≤ 57)
digit_bounds byte is = grind (arith, nat_tests)

-- a byte of a line that stands for itself: neither LF nor CR, no comment begins there, and it is no small letter
abbrev pub is_clean : ℕ → Bool
is_clean byte = is_plain_byte byte && (not (byte == 35) && not (nat_le 97 byte && nat_le byte 122))

-- nor `:`
abbrev pub is_code : ℕ → Bool
is_code byte = is_clean byte && not (byte == 58)

-- nor a gap
abbrev pub is_word_byte : ℕ → Bool
is_word_byte byte = is_code byte && not (is_gap byte)

-- a digit is a byte of a word
pub digit_is_word_byte : (byte : ℕ) → is_digit byte ≡ true → is_word_byte byte ≡ true
digit_is_word_byte byte is =
    let bounds = digit_bounds byte is in
    let capital : nat_le 97 byte ≡ false = grind (arith, nat_tests) in
    rw (ne_eqb byte 10 (λ e. omega arith), ne_eqb byte 13 (λ e. omega arith), ne_eqb byte 35 (λ e. omega arith), capital, ne_eqb byte 58 (λ e. omega arith), ne_eqb byte 32 (λ e. omega arith), ne_eqb byte 9 (λ e. omega arith), ne_eqb byte 44 (λ e. omega arith)) refl

-- and of a label
pub digit_is_label_byte : (byte : ℕ) → is_digit byte ≡ true → is_label_byte byte ≡ true
digit_is_label_byte byte is =
    let bounds = digit_bounds byte is in
    let low : nat_le 33 byte ≡ true = grind (arith, nat_tests) in
    let high : nat_le byte 126 ≡ true = grind (arith, nat_tests) in
    rw (low, high, ne_eqb byte 44 (λ e. omega arith), ne_eqb byte 58 (λ e. omega arith), ne_eqb byte 35 (λ e. omega arith), ne_eqb byte 33 (λ e. omega arith)) refl

-- what is true of each digit is true of digits
all_digits : (test : ℕ → Bool) → ((byte : ℕ) → is_digit byte ≡ true → test byte ≡ true) → (word : List ℕ) → list_all is_digit word ≡ true → list_all test word ≡ true
all_digits test each [] all = refl
all_digits test each (byte ∷ bytes) all =
    let parts = and_parts (is_digit byte) (list_all is_digit bytes) all in
    and_from (test byte) (list_all test bytes) (each byte parts.0) (all_digits test each bytes parts.1)

-- ---- the digits of a number

-- one more digit at the end
digits_number-push : (before number digit : ℕ) (digits : List ℕ) → digit < 10 → list_all is_digit digits ≡ true → digits_number before digits ≡ Some number → digits_number before (digits ++ (48 + digit) ∷ []) ≡ Some (10 * number + digit)
digits_number-push before number digit [] small all is =
    let same : before ≡ number = cc in
    rw (is_digit-digit digit small) (ap (λ (n : ℕ). Some n) (omega arith))
digits_number-push before number digit (byte ∷ digits) small all is =
    let parts = and_parts (is_digit byte) (list_all is_digit digits) all in
    let read : digits_number (10 * before + (byte - 48)) digits ≡ Some number = rw parts.0 at is in
    rw parts.0 (digits_number-push (10 * before + (byte - 48)) number digit digits small parts.1 read)

-- digits, one or more, that are read as this number
pub record IsNumeral (number : ℕ) (word : List ℕ) : Type 0 where
  pub filled : is_filled word ≡ true
  pub digits : list_all is_digit word ≡ true
  pub read : digits_number 0 word ≡ Some number

-- one more digit behind a word is a word
filled_push : (word : List ℕ) (byte : ℕ) → is_filled (word ++ byte ∷ []) ≡ true
filled_push [] byte = refl
filled_push (first ∷ word) byte = refl

-- the decimal digits of a number are read as the number
pub decimal_is_numeral : (number : ℕ) → number < 2 ^ 64 → IsNumeral number (decimal number)
decimal_is_numeral =
    decimal_by_steps IsNumeral
    (λ number small. record { filled = refl; digits = and_from (is_digit (48 + number)) true (is_digit-digit number small) refl; read = digits_number-push 0 0 number [] small refl refl ∙ ap (λ (n : ℕ). Some n) (omega arith) })
    (λ number word large is. record {
      filled = filled_push word (48 + number % 10);
      digits = list_all-join is_digit word ((48 + number % 10) ∷ []) is.digits (and_from (is_digit (48 + number % 10)) true (is_digit-digit (number % 10) (omega arith)) refl);
      read = digits_number-push 0 (number / 10) (number % 10) word (omega arith) is.digits is.read ∙ ap (λ (n : ℕ). Some n) (omega arith);
    })

-- digits without a sign are read as a number
number_of_word-digits : (number : ℕ) (word : List ℕ) → IsNumeral number word → number_of_word word ≡ Some (sat (pos number))
number_of_word-digits number [] is = absurd (false≢true is.filled)
number_of_word-digits number (byte ∷ digits) is =
    let parts = and_parts (is_digit byte) (list_all is_digit digits) is.digits in
    let bounds = digit_bounds byte parts.0 in
    rw (ne_eqb byte 45 (λ e. omega arith), ne_eqb byte 43 (λ e. omega arith)) (ap (option_map (λ n. sat (pos n))) is.read)

-- so are digits behind `-`
number_of_word-minus : (number : ℕ) (word : List ℕ) → IsNumeral number word → number_of_word (45 ∷ word) ≡ Some (sat (neg_ℤ (pos number)))
number_of_word-minus number [] is = absurd (false≢true is.filled)
number_of_word-minus number (byte ∷ digits) is = ap (option_map (λ n. sat (neg_ℤ (pos n)))) is.read

-- digits name no register and no port
source_of_word-digits : (number : ℕ) (word : List ℕ) → IsNumeral number word → source_of_word word ≡ option_map (λ n. from.Number n) (number_of_word word)
source_of_word-digits number [] is = absurd (false≢true is.filled)
source_of_word-digits number (byte ∷ digits) is =
    let parts = and_parts (is_digit byte) (list_all is_digit digits) is.digits in
    let bounds = digit_bounds byte parts.0 in
    rw (ne_eqb byte 65 (λ e. omega arith), ne_eqb byte 78 (λ e. omega arith), ne_eqb byte 76 (λ e. omega arith), ne_eqb byte 82 (λ e. omega arith), ne_eqb byte 85 (λ e. omega arith), ne_eqb byte 68 (λ e. omega arith)) refl

-- ---- the word of a value

-- the value that a word of digits names as a source
pub source_of_word-value : (number : ℤ) → IsValue number → source_of_word (signed_decimal number) ≡ Some (from.Number number)
source_of_word-value (pos n) is =
    let numeral = decimal_is_numeral n (omega (arith, ints)) in
    source_of_word-digits n (decimal n) numeral ∙ ap (option_map (λ n. from.Number n)) (number_of_word-digits n (decimal n) numeral) ∙ ap (λ (n : ℤ). Some (from.Number n)) (sat_value (pos n) is)
source_of_word-value (negsuc n) is =
    let numeral = decimal_is_numeral (suc n) (omega (arith, ints)) in
    ap (option_map (λ n. from.Number n)) (number_of_word-minus (suc n) (decimal (suc n)) numeral) ∙ ap (λ (n : ℤ). Some (from.Number n)) (sat_value (negsuc n) is)

-- a word of a value is filled
pub value_is_filled : (number : ℤ) → IsValue number → is_filled (signed_decimal number) ≡ true
value_is_filled (pos n) is = (decimal_is_numeral n (omega (arith, ints))).filled
value_is_filled (negsuc n) is = refl

-- what is true of `-` and of each digit is true of the word of a value
value_passes : (test : ℕ → Bool) → test 45 ≡ true → ((byte : ℕ) → is_digit byte ≡ true → test byte ≡ true) → (number : ℤ) → IsValue number → list_all test (signed_decimal number) ≡ true
value_passes test minus each (pos n) is = all_digits test each (decimal n) (decimal_is_numeral n (omega (arith, ints))).digits
value_passes test minus each (negsuc n) is =
    and_from (test 45) (list_all test (decimal (suc n))) minus (all_digits test each (decimal (suc n)) (decimal_is_numeral (suc n) (omega (arith, ints))).digits)

-- its bytes are those of a word
pub value_is_word : (number : ℤ) → IsValue number → list_all is_word_byte (signed_decimal number) ≡ true
value_is_word = value_passes is_word_byte refl digit_is_word_byte

-- the decimal digits of a number are bytes of a word
pub decimal_is_word : (number : ℕ) → number < 2 ^ 64 → list_all is_word_byte (decimal number) ≡ true
decimal_is_word number small = all_digits is_word_byte digit_is_word_byte (decimal number) (decimal_is_numeral number small).digits

-- and of a label
pub decimal_is_label : (number : ℕ) → number < 2 ^ 64 → list_all is_label_byte (decimal number) ≡ true
decimal_is_label number small = all_digits is_label_byte digit_is_label_byte (decimal number) (decimal_is_numeral number small).digits

-- a value has at most four bytes
pub value_is_short : (number : ℤ) → IsValue number → length (signed_decimal number) ≤ 4
value_is_short (pos n) is = omega (arith, length-decimal-le 3 n (omega arith) (omega (arith, ints)) (omega (arith, ints)))
value_is_short (negsuc n) is = omega (arith, length-decimal-le 3 (suc n) (omega arith) (omega (arith, ints)) (omega (arith, ints)))
