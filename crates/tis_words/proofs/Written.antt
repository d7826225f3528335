-- What is written in words is read back: numbers, values, and lines of words with one blank between.
use Rattle.std.proofs.Common.{◌≡◌, ◌≤◌, ◌<◌, ◌^◌, ℕ, suc, ◌+◌, ◌-◌, ◌*◌, ◌/◌, ◌%◌, ℤ, pos, negsuc, Bool, true, false, cond, List, [], ◌∷◌, ◌++◌, map, refl, ap, ◌∙◌, arith}
use Rattle.std.specs.Prelude.{Option, Some, None, neg_ℤ, option_and_then, option_map, not, ◌&&◌, ◌==◌, nat_le, decimal, filter}
use Rattle.std.specs.Char.{is_ascii_digit}
use Rattle.std.specs.List.{list_all, join_with_byte}
use Rattle.std.specs.Fmt.{signed_decimal}
use Rattle.std.proofs.lemmas.Bool.{and_parts, and_from, ne_eqb, false≢true}
use Rattle.std.proofs.lemmas.Bool.Decides.{nat_tests}
use Rattle.std.proofs.lemmas.List.Sums.{take_while-cons}
use Rattle.std.proofs.lemmas.Fmt.{decimal_by_steps}
use Rattle.std.proofs.lemmas.Int.{ints}
use Rattle.tis_base.specs.Saturation.{IsValue}
use Rattle.tis_base.specs.Lines.{text_of_lines, pieces_where}
use Rattle.tis_base.proofs.WrittenLines.{is_plain_byte, is_plain_line, list_all-join, pieces-first, pieces-last, text_lines-text_of_lines}
use Rattle.tis_words.specs.declared.comments.Comments.{Comments}
use Rattle.tis_words.specs.declared.comments.Comments.TheVariants.{BehindHash, Never}
use Rattle.tis_words.specs.Words.{Words, is_blank_byte, is_word, words_in, before_comment, line_words}
use Rattle.tis_words.specs.Lines.{NonBlank, non_blank_before, non_blank_from, non_blank_lines}
use Rattle.tis_words.specs.Numerals.{digit, spelled_behind, number_of, value_of, at_most}

-- a byte of a word that stands for itself: no blank, no `#` and no line end
abbrev pub is_word_byte : ℕ → Bool
is_word_byte byte = is_plain_byte byte && (not (byte == 35) && not (is_blank_byte byte))

-- such bytes, and not none
abbrev pub is_plain_word : List ℕ → Bool
is_plain_word word = is_word word && list_all is_word_byte word

-- such words, and not none
abbrev pub is_filled_line : Words → Bool
is_filled_line [] = false
is_filled_line (word ∷ words) = is_plain_word word && list_all is_plain_word words

-- ---- numbers

is_digit-digit : (value : ℕ) → value < 10 → is_ascii_digit (48 + value) ≡ true
is_digit-digit value small = grind (arith, nat_tests)

digit_bounds : (byte : ℕ) → is_ascii_digit byte ≡ true → (48 ≤ byte) × (byte ≤ 57)
digit_bounds byte is = grind (arith, nat_tests)

-- a digit is a byte of a word
pub digit_is_word_byte : (byte : ℕ) → is_ascii_digit byte ≡ true → is_word_byte byte ≡ true
digit_is_word_byte byte is =
    let bounds = digit_bounds byte is in
    rw (ne_eqb byte 10 (λ e. omega arith), ne_eqb byte 13 (λ e. omega arith), ne_eqb byte 35 (λ e. omega arith), ne_eqb byte 32 (λ e. omega arith), ne_eqb byte 9 (λ e. omega arith)) refl

digits_are_word_bytes : (word : List ℕ) → list_all is_ascii_digit word ≡ true → list_all is_word_byte word ≡ true
digits_are_word_bytes [] all = refl
digits_are_word_bytes (byte ∷ bytes) all =
    let parts = and_parts (is_ascii_digit byte) (list_all is_ascii_digit bytes) all in
    and_from (is_word_byte byte) (list_all is_word_byte bytes) (digit_is_word_byte byte parts.0) (digits_are_word_bytes bytes parts.1)

digit_is : (value : ℕ) → value < 10 → digit (48 + value) ≡ Some value
digit_is value small =
    let same : (48 + value) - 48 ≡ value = omega arith in
    ap (λ (b : Bool). cond b (Some ((48 + value) - 48)) None) (is_digit-digit value small) ∙ ap (λ (n : ℕ). Some n) same

-- one more digit at the end
spelled-push : (before number value : ℕ) (digits : List ℕ) → value < 10 → spelled_behind before digits ≡ Some number → spelled_behind before (digits ++ (48 + value) ∷ []) ≡ Some (number * 10 + value)
spelled-push before number value [] small is =
    let same : before ≡ number = cc in
    ap (λ (d : Option ℕ). option_and_then (λ v. Some (before * 10 + v)) d) (digit_is value small) ∙ ap (λ (n : ℕ). Some (n * 10 + value)) same
spelled-push before number value (byte ∷ digits) small is = by_digit (digit byte) (λ v read. spelled-push (before * 10 + v) number value digits small read) is
  where
    by_digit : (d : Option ℕ) → ((v : ℕ) → spelled_behind (before * 10 + v) digits ≡ Some number → spelled_behind (before * 10 + v) (digits ++ (48 + value) ∷ []) ≡ Some (number * 10 + value)) → option_and_then (λ v. spelled_behind (before * 10 + v) digits) d ≡ Some number → option_and_then (λ v. spelled_behind (before * 10 + v) (digits ++ (48 + value) ∷ [])) d ≡ Some (number * 10 + value)
    by_digit None more read = absurd cc
    by_digit (Some v) more read = more v read

-- digits, one or more, that spell this number
pub record IsNumeral (number : ℕ) (word : List ℕ) : Type 0 where
  pub filled : is_word word ≡ true
  pub digits : list_all is_ascii_digit word ≡ true
  pub spelled : spelled_behind 0 word ≡ Some number

word_push : (word : List ℕ) (byte : ℕ) → is_word (word ++ byte ∷ []) ≡ true
word_push [] byte = refl
word_push (first ∷ word) byte = refl

pub decimal_is_numeral : (number : ℕ) → number < 2 ^ 64 → IsNumeral number (decimal number)
decimal_is_numeral =
    decimal_by_steps IsNumeral
    (λ number small. record { filled = refl; digits = and_from (is_ascii_digit (48 + number)) true (is_digit-digit number small) refl; spelled = spelled-push 0 0 number [] small refl ∙ ap (λ (n : ℕ). Some n) (omega arith) })
    (λ number word large is. record {
      filled = word_push word (48 + number % 10);
      digits = list_all-join is_ascii_digit word ((48 + number % 10) ∷ []) is.digits (and_from (is_ascii_digit (48 + number % 10)) true (is_digit-digit (number % 10) (omega arith)) refl);
      spelled = spelled-push 0 (number / 10) (number % 10) word (omega arith) is.spelled ∙ ap (λ (n : ℕ). Some n) (omega arith);
    })

-- such digits are read as the number
numeral_read : (most number : ℕ) (word : List ℕ) → IsNumeral number word → number ≤ most → number_of most word ≡ Some number
unfolding number_of
numeral_read most number [] is fits = absurd (false≢true is.filled)
numeral_read most number (byte ∷ bytes) is fits =
    let test : nat_le number most ≡ true = grind (arith, nat_tests) in
    ap (option_and_then (at_most most)) is.spelled ∙ ap (λ (b : Bool). cond b (Some number) None) test

-- a number is read back
pub number_read : (most number : ℕ) → number ≤ most → number < 2 ^ 64 → number_of most (decimal number) ≡ Some number
number_read most number fits small = numeral_read most number (decimal number) (decimal_is_numeral number small) fits

-- its word is plain
pub number_is_plain : (number : ℕ) → number < 2 ^ 64 → is_plain_word (decimal number) ≡ true
number_is_plain number small =
    let is = decimal_is_numeral number small in
    and_from (is_word (decimal number)) (list_all is_word_byte (decimal number)) is.filled (digits_are_word_bytes (decimal number) is.digits)

-- ---- values

-- digits are read as a value, and `-` before them turns it
value_of-digits : (number : ℕ) (word : List ℕ) → IsNumeral number word → number ≤ 999 → value_of word ≡ Some (pos number)
unfolding value_of
value_of-digits number [] is fits = absurd (false≢true is.filled)
value_of-digits number (byte ∷ bytes) is fits =
    let parts = and_parts (is_ascii_digit byte) (list_all is_ascii_digit bytes) is.digits in
    let bounds = digit_bounds byte parts.0 in
    rw (ne_eqb byte 45 (λ e. omega arith)) (ap (option_map (λ n. pos n)) (numeral_read 999 number (byte ∷ bytes) is fits))

-- a value is read back
pub value_read : (number : ℤ) → IsValue number → value_of (signed_decimal number) ≡ Some number
unfolding value_of
value_read (pos n) is = value_of-digits n (decimal n) (decimal_is_numeral n (omega (arith, ints))) (omega (arith, ints))
value_read (negsuc n) is = ap (option_map (λ n. neg_ℤ (pos n))) (number_read 999 (suc n) (omega (arith, ints)) (omega (arith, ints)))

-- its word is plain
pub value_is_plain : (number : ℤ) → IsValue number → is_plain_word (signed_decimal number) ≡ true
value_is_plain (pos n) is = number_is_plain n (omega (arith, ints))
value_is_plain (negsuc n) is = (and_parts (is_word (decimal (suc n))) (list_all is_word_byte (decimal (suc n))) (number_is_plain (suc n) (omega (arith, ints)))).1

-- ---- lines

-- what the bytes of a word aren't
word_byte : (byte : ℕ) → is_word_byte byte ≡ true → (is_plain_byte byte ≡ true) × (not (byte == 35) ≡ true) × (not (is_blank_byte byte) ≡ true)
word_byte byte is =
    let one = and_parts (is_plain_byte byte) (not (byte == 35) && not (is_blank_byte byte)) is in
    let two = and_parts (not (byte == 35)) (not (is_blank_byte byte)) one.1 in
    (one.0, two.0, two.1)

-- what holds of each byte of a word holds of all
all_of : (test : ℕ → Bool) → ((byte : ℕ) → is_word_byte byte ≡ true → test byte ≡ true) → (word : List ℕ) → list_all is_word_byte word ≡ true → list_all test word ≡ true
all_of test each [] all = refl
all_of test each (byte ∷ bytes) all =
    let parts = and_parts (is_word_byte byte) (list_all is_word_byte bytes) all in
    and_from (test byte) (list_all test bytes) (each byte parts.0) (all_of test each bytes parts.1)

-- what holds of each byte of words and of a blank holds of the line of these words
line_passes : (test : ℕ → Bool) → test 32 ≡ true → ((byte : ℕ) → is_word_byte byte ≡ true → test byte ≡ true) → (words : Words) → list_all is_plain_word words ≡ true → list_all test (join_with_byte 32 words) ≡ true
line_passes test blank each [] plain = refl
line_passes test blank each (word ∷ []) plain =
    let here = and_parts (is_plain_word word) true plain in
    all_of test each word (and_parts (is_word word) (list_all is_word_byte word) here.0).1
line_passes test blank each (word ∷ next ∷ words) plain =
    let here = and_parts (is_plain_word word) (list_all is_plain_word (next ∷ words)) plain in
    list_all-join test word (32 ∷ join_with_byte 32 (next ∷ words)) (all_of test each word (and_parts (is_word word) (list_all is_word_byte word) here.0).1)
    (and_from (test 32) (list_all test (join_with_byte 32 (next ∷ words))) blank (line_passes test blank each (next ∷ words) here.1))

filled_first : (word : List ℕ) (words : Words) → is_word word ≡ true → filter is_word (word ∷ words) ≡ word ∷ filter is_word words
filled_first word words is = ap (λ (b : Bool). cond b (word ∷ filter is_word words) (filter is_word words)) is

-- the words of a line are read back
words_read : (words : Words) → is_filled_line words ≡ true → words_in (join_with_byte 32 words) ≡ words
words_read [] filled = absurd (false≢true filled)
words_read (word ∷ []) filled =
    let here = and_parts (is_word word) (list_all is_word_byte word) (and_parts (is_plain_word word) true filled).0 in
    ap (filter is_word) (pieces-last is_blank_byte word (all_of (λ b. not (is_blank_byte b)) (λ byte is. (word_byte byte is).2) word here.1)) ∙ filled_first word [] here.0
words_read (word ∷ next ∷ words) filled =
    let plain = and_parts (is_plain_word word) (list_all is_plain_word (next ∷ words)) filled in
    let here = and_parts (is_word word) (list_all is_word_byte word) plain.0 in
    ap (filter is_word) (pieces-first is_blank_byte word (join_with_byte 32 (next ∷ words)) 32 (all_of (λ b. not (is_blank_byte b)) (λ byte is. (word_byte byte is).2) word here.1) refl)
    ∙ filled_first word (pieces_where is_blank_byte (join_with_byte 32 (next ∷ words))) here.0
    ∙ ap (λ (l : Words). word ∷ l) (words_read (next ∷ words) plain.1)

-- no comment begins in it
no_comment : (line : List ℕ) → list_all (λ b. not (b == 35)) line ≡ true → before_comment line ≡ line
no_comment [] all = refl
no_comment (byte ∷ bytes) all =
    let parts = and_parts (not (byte == 35)) (list_all (λ b. not (b == 35)) bytes) all in
    take_while-cons (λ b. not (b == 35)) byte bytes ∙ ap (λ (b : Bool). cond b (byte ∷ before_comment bytes) []) parts.0 ∙ ap (λ (l : List ℕ). byte ∷ l) (no_comment bytes parts.1)

filled_words : (words : Words) → is_filled_line words ≡ true → list_all is_plain_word words ≡ true
filled_words [] filled = refl
filled_words (word ∷ words) filled = filled

line_read : (comments : Comments) (words : Words) → is_filled_line words ≡ true → line_words comments (join_with_byte 32 words) ≡ words
line_read BehindHash words filled =
    ap words_in (no_comment (join_with_byte 32 words) (line_passes (λ b. not (b == 35)) refl (λ byte is. (word_byte byte is).1) words (filled_words words filled))) ∙ words_read words filled
line_read Never words filled = words_read words filled

-- these lines, numbered one after the other
abbrev pub numbered : ℕ → List Words → List NonBlank
numbered number [] = []
numbered number (words ∷ lines) = record { number = number; words = words } ∷ numbered (number + 1) lines

numbered_first : (number : ℕ) (words : Words) (lines : List NonBlank) → is_filled_line words ≡ true → non_blank_before number words lines ≡ record { number = number; words = words } ∷ lines
numbered_first number [] lines filled = absurd (false≢true filled)
numbered_first number (word ∷ words) lines filled = refl

lines_read : (comments : Comments) (number : ℕ) (lines : List Words) → list_all is_filled_line lines ≡ true → non_blank_from comments number (map (join_with_byte 32) lines) ≡ numbered number lines
lines_read comments number [] filled = refl
lines_read comments number (words ∷ lines) filled =
    let here = and_parts (is_filled_line words) (list_all is_filled_line lines) filled in
    ap (λ (w : Words). non_blank_before number w (non_blank_from comments (number + 1) (map (join_with_byte 32) lines))) (line_read comments words here.0)
    ∙ numbered_first number words (non_blank_from comments (number + 1) (map (join_with_byte 32) lines)) here.0
    ∙ ap (λ (l : List NonBlank). record { number = number; words = words } ∷ l) (lines_read comments (number + 1) lines here.1)

lines_are_plain : (lines : List Words) → list_all is_filled_line lines ≡ true → list_all is_plain_line (map (join_with_byte 32) lines) ≡ true
lines_are_plain [] filled = refl
lines_are_plain (words ∷ lines) filled =
    let here = and_parts (is_filled_line words) (list_all is_filled_line lines) filled in
    and_from (is_plain_line (join_with_byte 32 words)) (list_all is_plain_line (map (join_with_byte 32) lines)) (line_passes is_plain_byte refl (λ byte is. (word_byte byte is).0) words (filled_words words here.0)) (lines_are_plain lines here.1)

-- the lines of a text that was written in lines of words are these lines, numbered from 1
pub text_read : (comments : Comments) (lines : List Words) → list_all is_filled_line lines ≡ true → non_blank_lines comments (text_of_lines (map (join_with_byte 32) lines)) ≡ numbered 1 lines
text_read comments lines filled =
    ap (non_blank_from comments 1) (text_lines-text_of_lines (map (join_with_byte 32) lines) (lines_are_plain lines filled)) ∙ lines_read comments 1 lines filled
