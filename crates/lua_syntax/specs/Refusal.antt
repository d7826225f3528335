-- Why a text has no tree.
use Rattle.std.specs.Prelude.{◌≡◌, ℕ, List, Result, Ok, Err}
use Rattle.lua_tree.specs.Plain.{Plain, plain_items}
use Rattle.lua_tree.specs.declared.tree.Item.{Item}
use Rattle.lua_syntax.specs.declared.error.LuaSyntax.{LuaSyntax}
use Rattle.lua_syntax.specs.declared.error.LuaSyntax.TheVariants as e

-- a refusal, with the line of the token that is refused
pub data LuaRefusal : Type 0 where
  -- no chunk goes on with the token
  Syntax : (line : ℕ) → LuaRefusal
  -- with the token too many constructs are open
  TooDeep : (line : ℕ) → LuaRefusal

-- what is wanted is the refusal that is said, unless memory ran out
abbrev pub IsRefused : LuaSyntax → Result (List Item) LuaRefusal → Type 0
IsRefused (e.Syntax line) wanted = wanted ≡ Err (Syntax line)
IsRefused (e.TooDeep line) wanted = wanted ≡ Err (TooDeep line)
IsRefused e.NoMemory wanted = Unit {0}

-- what a text gives, as plain data
abbrev pub plain_answer : Result (List Item) LuaRefusal → Result Plain LuaRefusal
plain_answer (Ok items) = Ok (plain_items items)
plain_answer (Err e) = Err e
