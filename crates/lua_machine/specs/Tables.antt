-- The tables: rows of a store, each with the values at its keys.
use Rattle.std.specs.Prelude.{ℕ, zero, suc, ◌+◌, pos, List, [], ◌∷◌, get_or, set, max, if◌then◌else◌}
use Rattle.lua_machine.specs.Value.{LuaValue, Nil, Number, is_same, is_nil}

-- a table: the value at each key, nil at one that is missing; and a number above which no number was ever a key
pub record Row : Type 0 where
  pub at : LuaValue → LuaValue
  pub last : ℕ

-- a table without keys
abbrev pub no_keys : Row
no_keys = record { at = λ key. Nil; last = 0 }

-- the value at a key; a missing key gives nil
abbrev pub at_key : Row → LuaValue → LuaValue
at_key table key = table.at key

-- how far up a key is among the numbers
abbrev pub place_of : LuaValue → ℕ
place_of (Number (pos n)) = n
place_of _ = 0

-- with a value at a key; storing nil removes
abbrev pub with_key : Row → LuaValue → LuaValue → Row
with_key table key value = record { at = λ other. if is_same key other then value else table.at other; last = max table.last (place_of key) }

-- how many keys are there one after the other from a number on, counted no further than so many
abbrev pub run_from : ℕ → Row → ℕ → ℕ
run_from zero table first = 0
run_from (suc most) table first = if is_nil (at_key table (Number (pos first))) then 0 else suc (run_from most table (first + 1))

-- the greatest n such that the keys 1 to n are all there
abbrev pub border : Row → ℕ
border table = run_from table.last table 1

-- so many values from a number on
abbrev pub values_from : ℕ → Row → ℕ → List LuaValue
values_from zero table first = []
values_from (suc count) table first = at_key table (Number (pos first)) ∷ values_from count table (first + 1)

-- the values at 1 up to the border
abbrev pub plain_list : Row → List LuaValue
plain_list table = values_from (border table) table 1

-- a row of the store
abbrev pub row : List Row → ℕ → Row
row tables at = get_or tables at no_keys

-- the store with a value at a key of a row
abbrev pub stored : List Row → ℕ → LuaValue → LuaValue → List Row
stored tables at key value = set tables at (with_key (row tables at) key value)
