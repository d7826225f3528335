-- The values of Lua, and what a fault is.
use Rattle.std.specs.Prelude.{ℕ, ℤ, Bool, true, false, not, List, ◌==◌}
use Rattle.std.specs.Ordering.{int_eq}
use Rattle.std.specs.Str.{bytes_eq}

-- a table is the number of its row in the store
pub data LuaValue : Type 0 where
  Nil : LuaValue
  Truth : Bool → LuaValue
  Number : ℤ → LuaValue
  Text : List ℕ → LuaValue
  Table : ℕ → LuaValue

-- why an evaluation ends without a value, with the line that is named
pub data Fault : Type 0 where
  -- an operand, an argument, a bound or a key of a wrong kind, a wrong number of arguments of a library's function, or an index of what is no table
  TypeFault : (line : ℕ) → Fault
  -- a call of no known function
  UnknownName : (line : ℕ) → Fault
  -- a quotient that isn't whole and isn't under `math.floor`, or a divisor 0 of `/` or `%`
  Inexact : (line : ℕ) → Fault
  -- a number past 2^53 either way, a draw whose first number is above its last, or a step 0 of a `for`
  OutOfRange : (line : ℕ) → Fault
  -- a text of more than 1,024 bytes
  LongString : (line : ℕ) → Fault
  -- a call that would be the hundred and first open one
  TooDeepCalls : (line : ℕ) → Fault

-- only nil and false count as false
abbrev pub is_true : LuaValue → Bool
is_true Nil = false
is_true (Truth b) = b
is_true _ = true

-- a text is a key, and so are a number and a truth value
abbrev pub is_key : LuaValue → Bool
is_key Nil = false
is_key (Table row) = false
is_key _ = true

abbrev pub is_nil : LuaValue → Bool
is_nil Nil = true
is_nil _ = false

abbrev same_truth : Bool → Bool → Bool
same_truth true b = b
same_truth false b = not b

-- `==`: values of different kinds differ, and a table is only itself
abbrev pub is_same : LuaValue → LuaValue → Bool
is_same Nil Nil = true
is_same (Truth a) (Truth b) = same_truth a b
is_same (Number a) (Number b) = int_eq a b
is_same (Text a) (Text b) = bytes_eq a b
is_same (Table a) (Table b) = a == b
is_same _ _ = false
