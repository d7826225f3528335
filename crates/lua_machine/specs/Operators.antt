-- What operators make of values.
use Rattle.std.specs.Prelude.{ℕ, ℤ, pos, negsuc, ◌+ℤ◌, ◌-ℤ◌, ◌*ℤ◌, neg_ℤ, nat_abs, int_lt, Bool, true, false, not, nat_le, nat_lt, ◌==◌, List, [], ◌∷◌, ◌++◌, length, if◌then◌else◌, Result, Ok, Err}
use Rattle.std.specs.Ordering.{int_eq}
use Rattle.std.specs.Int.{int_div_euclid}
use Rattle.std.specs.Fmt.{signed_decimal}
use Rattle.lua_tree.specs.declared.tree.UnaryOp.{UnaryOp}
use Rattle.lua_tree.specs.declared.tree.UnaryOp.TheVariants as unary
use Rattle.lua_tree.specs.declared.tree.BinaryOp.{BinaryOp}
use Rattle.lua_tree.specs.declared.tree.BinaryOp.TheVariants as binary
use Rattle.lua_machine.specs.Value.{LuaValue, Truth, Number, Text, Table, Fault, TypeFault, Inexact, OutOfRange, LongString, is_true, is_same}
use Rattle.lua_machine.specs.Tables.{Row, border, row}

-- numbers go from -2^53 to 2^53
abbrev pub greatest : ℕ
greatest = 9007199254740992

-- texts have at most so many bytes
abbrev pub longest : ℕ
longest = 1024

abbrev pub Answer : Type 0
Answer = Result LuaValue Fault

-- a number, unless it is past 2^53 either way
abbrev pub number : ℕ → ℤ → Answer
number line n = if nat_le (nat_abs n) greatest then Ok (Number n) else Err (OutOfRange line)

-- a text, unless it is too long
abbrev pub text : ℕ → List ℕ → Answer
text line bytes = if nat_le (length bytes) longest then Ok (Text bytes) else Err (LongString line)

-- ---- `not`, `-`, `#`

abbrev pub unary_of : UnaryOp → ℕ → List Row → LuaValue → Answer
unary_of unary.Not line tables a = Ok (Truth (not (is_true a)))
unary_of unary.Minus line tables (Number n) = Ok (Number (neg_ℤ n))
unary_of unary.Length line tables (Text bytes) = Ok (Number (pos (length bytes)))
unary_of unary.Length line tables (Table at) = Ok (Number (pos (border (row tables at))))
unary_of _ line tables _ = Err (TypeFault line)

-- ---- quotients

abbrev is_negative : ℤ → Bool
is_negative (pos n) = false
is_negative (negsuc n) = true

-- the greatest whole number that isn't above the quotient
abbrev pub floor_of : ℤ → ℤ → ℤ
floor_of a b = if is_negative b then int_div_euclid (neg_ℤ a) (neg_ℤ b) else int_div_euclid a b

-- what is left over has the divisor's sign
abbrev pub left_over : ℤ → ℤ → ℤ
left_over a b = a -ℤ (b *ℤ floor_of a b)

abbrev is_zero : ℤ → Bool
is_zero n = int_eq n (pos 0)

-- the exact quotient; there is none by 0, and none that isn't whole
abbrev pub quotient : ℕ → ℤ → ℤ → Answer
quotient line a b = if is_zero b then Err (Inexact line) else (if is_zero (left_over a b) then Ok (Number (floor_of a b)) else Err (Inexact line))

-- the floor of a quotient, as the whole argument of `math.floor`
abbrev pub floor_of_quotient : ℕ → LuaValue → LuaValue → Answer
floor_of_quotient line (Number a) (Number b) = if is_zero b then Err (Inexact line) else Ok (Number (floor_of a b))
floor_of_quotient line _ _ = Err (TypeFault line)

abbrev pub remainder : ℕ → ℤ → ℤ → Answer
remainder line a b = if is_zero b then Err (Inexact line) else Ok (Number (left_over a b))

-- ---- binary operators but `and` and `or`

-- texts are compared by bytes, and a front comes before the whole
abbrev pub is_before : List ℕ → List ℕ → Bool
is_before a [] = false
is_before [] (y ∷ b) = true
is_before (x ∷ a) (y ∷ b) = if x == y then is_before a b else nat_lt x y

-- two numbers or two texts
abbrev pub is_less : ℕ → LuaValue → LuaValue → Result Bool Fault
is_less line (Number a) (Number b) = Ok (int_lt a b)
is_less line (Text a) (Text b) = Ok (is_before a b)
is_less line _ _ = Err (TypeFault line)

abbrev pub truth : Result Bool Fault → Answer
truth (Ok b) = Ok (Truth b)
truth (Err fault) = Err fault

abbrev pub untruth : Result Bool Fault → Answer
untruth (Ok b) = Ok (Truth (not b))
untruth (Err fault) = Err fault

-- what arithmetic makes of two numbers; no other operator comes here
abbrev pub arithmetic : BinaryOp → ℕ → ℤ → ℤ → Answer
arithmetic binary.Plus line a b = number line (a +ℤ b)
arithmetic binary.Minus line a b = number line (a -ℤ b)
arithmetic binary.Times line a b = number line (a *ℤ b)
arithmetic binary.Over line a b = quotient line a b
arithmetic binary.Mod line a b = remainder line a b
arithmetic _ line a b = Err (TypeFault line)

abbrev pub on_numbers : BinaryOp → ℕ → LuaValue → LuaValue → Answer
on_numbers op line (Number a) (Number b) = arithmetic op line a b
on_numbers op line _ _ = Err (TypeFault line)

-- `..` takes texts, and numbers as they are written in decimal
abbrev pub joined : ℕ → LuaValue → LuaValue → Answer
joined line (Text a) (Text b) = text line (a ++ b)
joined line (Text a) (Number b) = text line (a ++ signed_decimal b)
joined line (Number a) (Text b) = text line (signed_decimal a ++ b)
joined line (Number a) (Number b) = text line (signed_decimal a ++ signed_decimal b)
joined line _ _ = Err (TypeFault line)

abbrev pub binary_of : BinaryOp → ℕ → LuaValue → LuaValue → Answer
binary_of binary.Less line a b = truth (is_less line a b)
binary_of binary.Greater line a b = truth (is_less line b a)
binary_of binary.LessEqual line a b = untruth (is_less line b a)
binary_of binary.GreaterEqual line a b = untruth (is_less line a b)
binary_of binary.Equal line a b = Ok (Truth (is_same a b))
binary_of binary.NotEqual line a b = Ok (Truth (not (is_same a b)))
binary_of binary.Join line a b = joined line a b
binary_of op line a b = on_numbers op line a b

-- ---- `and` and `or` give an operand

abbrev pub is_logical : BinaryOp → Bool
is_logical binary.And = true
is_logical binary.Or = true
is_logical _ = false

-- whether the left side decides: where it is false for `and`, where it is true for `or`
abbrev pub decides : BinaryOp → LuaValue → Bool
decides binary.And a = not (is_true a)
decides binary.Or a = is_true a
decides _ a = false
