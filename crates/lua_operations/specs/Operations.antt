-- What operators make of values, in the parts that the code has.
use Rattle.std.specs.Prelude.{◌≡◌, ℕ, Bool, true, false, List, ◌++◌, Option, Some, None, Result, Ok, Err}
use Rattle.std.specs.Fmt.{signed_decimal}
use Rattle.std.specs.declared.vec.Vec.{Vec}
use Rattle.std.specs.declared.alloc.Global.{Global}
use Rattle.lua_machine.specs.declared.error.LuaError.{LuaError}
use Rattle.lua_machine.specs.declared.error.LuaError.TheVariants as e
use Rattle.lua_machine.specs.Value.{LuaValue, Text, Number, Fault}
use Rattle.lua_machine.specs.Operators.{joined}
use Rattle.lua_operations.specs.Results.{Refuses}
use Rattle.lua_tree.specs.declared.tree.BinaryOp.{BinaryOp}
use Rattle.lua_tree.specs.declared.tree.BinaryOp.TheVariants as binary

abbrev pub is_join : BinaryOp → Bool
is_join binary.Join = true
is_join _ = false

-- the bytes of a value that joins: a text, or a number in decimal
abbrev pub bytes_of : LuaValue → Option (List ℕ)
bytes_of (Text bytes) = Some bytes
bytes_of (Number n) = Some (signed_decimal n)
bytes_of _ = None

-- the bytes of a value were written, or it has none
abbrev pub WritesBytes : Result (Unit {0}) LuaError → List ℕ → List ℕ → ℕ → Option (List ℕ) → Type 0
WritesBytes (Ok u) old new line (Some bytes) = new ≡ old ++ bytes
WritesBytes (Ok u) old new line None = ⊥
WritesBytes (Err why) old new line (Some bytes) = why ≡ e.NoMemory
WritesBytes (Err why) old new line None = why ≡ e.TypeFault line

abbrev pub Writes : Result (Unit {0}) LuaError → List ℕ → List ℕ → ℕ → LuaValue → Type 0
Writes result old new line value = WritesBytes result old new line (bytes_of value)

-- both texts were joined, or that is refused
abbrev pub Joins : Result (Vec ℕ Global) LuaError → ℕ → LuaValue → LuaValue → Type 0
Joins (Ok bytes) line a b = joined line a b ≡ Ok (Text bytes.items)
Joins (Err why) line a b = Refuses why (joined line a b)

-- the bytes of a text that was wanted, or that is refused
abbrev pub IsMade : Result (Vec ℕ Global) LuaError → Result LuaValue Fault → Type 0
IsMade (Ok bytes) wanted = wanted ≡ Ok (Text bytes.items)
IsMade (Err why) wanted = Refuses why wanted
