-- The definitions on worked rows.
use Rattle.std.proofs.Common.{◌≡◌, ◌-◌, ◌^◌, [], ◌∷◌, refl}
use Rattle.std.specs.Prelude.{Some, None, codes, pos, negsuc}
use Rattle.tis_words.specs.declared.comments.Comments.TheVariants.{BehindHash, Never}
use Rattle.tis_words.specs.Words.{line_words}
use Rattle.tis_words.specs.Lines.{non_blank_lines}
use Rattle.tis_words.specs.Numerals.{number_of, value_of}
use Rattle.tis_words.specs.Letters.{capitals}

blanks : line_words BehindHash (codes " via\t5  9 # 7") ≡ codes "via" ∷ codes "5" ∷ codes "9" ∷ []
blanks = refl

-- without comments a `#` is a byte of a word
hash : line_words Never (codes "in 3 # x") ≡ codes "in" ∷ codes "3" ∷ codes "#" ∷ codes "x" ∷ []
hash = refl

-- blank lines and lines that have only a comment are counted
numbered : non_blank_lines BehindHash (codes "\ngrid 1\n # c\n\r\nx") ≡ record { number = 2; words = codes "grid" ∷ codes "1" ∷ [] } ∷ record { number = 5; words = codes "x" ∷ [] } ∷ []
numbered = refl

zeros : number_of 99 (codes "0000099") ≡ Some 99
unfolding number_of
zeros = refl

past : number_of 99 (codes "100") ≡ None
unfolding number_of
past = refl

greatest : number_of (2 ^ 64 - 1) (codes "18446744073709551615") ≡ Some (2 ^ 64 - 1)
unfolding number_of
greatest = refl

no_digits : number_of 99 [] ≡ None
unfolding number_of
no_digits = refl

-- a number has no sign; a value may have a `-` and no `+`
no_sign : number_of 99 (codes "-1") ≡ None
unfolding number_of
no_sign = refl

least : value_of (codes "-0999") ≡ Some (negsuc 998)
unfolding value_of number_of
least = refl

minus_zero : value_of (codes "-0") ≡ Some (pos 0)
unfolding value_of number_of
minus_zero = refl

plus : value_of (codes "+1") ≡ None
unfolding value_of number_of
plus = refl

minus : value_of (codes "-") ≡ None
unfolding value_of number_of
minus = refl

small : capitals (codes "Left_1") ≡ codes "LEFT_1"
small = refl
