-- Numbers as words.
use Rattle.std.specs.Prelude.{ℕ, ◌+◌, ◌-◌, ◌*◌, ℤ, pos, neg_ℤ, List, [], ◌∷◌, Option, Some, None, option_map, option_and_then, nat_le, if◌then◌else◌, ◌==◌}
use Rattle.std.specs.Char.{is_ascii_digit}

-- what a digit stands for
abbrev pub digit : ℕ → Option ℕ
digit byte = if is_ascii_digit byte then Some (byte - 48) else None

-- the number that these digits spell, behind those that spell the first number
abbrev pub spelled_behind : ℕ → List ℕ → Option ℕ
spelled_behind number [] = Some number
spelled_behind number (byte ∷ bytes) = option_and_then (λ value. spelled_behind (number * 10 + value) bytes) (digit byte)

-- the number that one or more digits spell
abbrev pub spelled : List ℕ → Option ℕ
spelled [] = None
spelled (byte ∷ bytes) = spelled_behind 0 (byte ∷ bytes)

-- this number, where it is at most the first one
abbrev pub at_most : ℕ → ℕ → Option ℕ
at_most most number = if nat_le number most then Some number else None

-- the number that one or more digits spell, leading zeros among them, where it is at most this one
unfoldable pub number_of : ℕ → List ℕ → Option ℕ
number_of most word = option_and_then (at_most most) (spelled word)

-- a numeral, which a `-` may stand before, that spells a value from -999 to 999
unfoldable pub value_of : List ℕ → Option ℤ
value_of [] = None
value_of (byte ∷ bytes) = if byte == 45 then option_map (λ n. neg_ℤ (pos n)) (number_of 999 bytes) else option_map (λ n. pos n) (number_of 999 (byte ∷ bytes))
