-- Tables by their held keys and values, and the tables that they stand for.
use Rattle.std.specs.Prelude.{◌≡◌, ◌≢◌, ℕ, ◌+◌, ◌<◌, ◌≤◌, pos, Bool, true, false, List, length, map, Option, Some, None}
use Rattle.std.specs.Option.{unwrap_or}
use Rattle.std.specs.Map.{lookup}
use Rattle.lua_machine.specs.Value.{LuaValue, Nil}
use Rattle.lua_machine.specs.Tables as lua
use Rattle.lua_store.specs.declared.value.SmallValue.{SmallValue}
use Rattle.lua_store.specs.declared.value.SmallValue.TheVariants as small
use Rattle.lua_store.specs.declared.value.Key.{Key}
use Rattle.lua_store.specs.declared.value.Key.TheVariants as key
use Rattle.lua_store.specs.Values.{Texts, IsHeld, meant, held_key, same_key}

-- keys with their values, in some order
abbrev pub Entries : Type 0
Entries = List (Key × SmallValue)

-- the entries, and a number above which no number was ever a key
pub record Cells : Type 0 where
  pub entries : Entries
  pub last : ℕ

-- the value at a key, nil where there is none
abbrev pub held_in : Entries → Key → SmallValue
held_in entries at = unwrap_or (lookup (same_key at) entries) small.Nil

abbrev pub at_held : Cells → Key → SmallValue
at_held cells at = held_in cells.entries at

-- the texts of its values and of its keys are held
abbrev pub AreHeld : Texts → Cells → Type 0
AreHeld texts cells = ((at : Key) → IsHeld texts (at_held cells at)) × ((at : ℕ) → length texts ≤ at → at_held cells (key.Text at) ≡ small.Nil)

-- and at the held key that stands for a value, where there is one
abbrev pub at_found : Texts → Cells → Option Key → LuaValue
at_found texts cells None = Nil
at_found texts cells (Some at) = meant texts (at_held cells at)

-- the table of Lua
abbrev pub row_of : Texts → Cells → lua.Row
row_of texts cells = record { at = λ value. at_found texts cells (held_key texts value); last = cells.last }

-- and the tables of Lua, row by row
abbrev pub tables_of : Texts → List Cells → List lua.Row
tables_of texts rows = map (row_of texts) rows

-- ---- borders

abbrev pub is_nothing : SmallValue → Bool
is_nothing small.Nil = true
is_nothing (small.Truth b) = false
is_nothing (small.Number n) = false
is_nothing (small.Text at) = false
is_nothing (small.Table at) = false

-- nothing is at a number
abbrev pub is_free : Entries → ℕ → Bool
is_free entries n = is_nothing (held_in entries (key.Number (pos n)))

-- the keys from 1 to the border are there and the next isn't, and no number above the last is a key
pub record IsBorder (entries : Entries) (last border : ℕ) : Type 0 where
  pub there : (k : ℕ) → k < border → is_free entries (k + 1) ≡ false
  pub ends : is_free entries (border + 1) ≡ true
  pub above : (k : ℕ) → last < k → is_free entries k ≡ true
  pub within : border ≤ last

-- among the numbers, nothing or something was put at a place and nothing else changed; at place 0 no number changed
abbrev pub IsPutAt : ℕ → Bool → Entries → Entries → Type 0
IsPutAt at none old new = (0 < at → is_free new at ≡ none) × ((n : ℕ) → n ≢ at → is_free new n ≡ is_free old n)
