-- What held values stand for, by the texts that are held.
use Rattle.std.specs.Prelude.{ℕ, Bool, true, false, ◌==◌, ◌≡◌, ◌<◌, List, [], ◌∷◌, ◌++◌, get_or, length, if◌then◌else◌, Option, Some, None}
use Rattle.std.specs.Option.{option_map}
use Rattle.std.specs.List.{list_any, position}
use Rattle.std.specs.Ordering.{int_eq}
use Rattle.std.specs.Str.{bytes_eq}
use Rattle.lua_machine.specs.Value as lua
use Rattle.lua_machine.specs.Value.{LuaValue}
use Rattle.lua_store.specs.declared.value.SmallValue.{SmallValue}
use Rattle.lua_store.specs.declared.value.SmallValue.TheVariants as small
use Rattle.lua_store.specs.declared.value.Key.{Key}
use Rattle.lua_store.specs.declared.value.Key.TheVariants as key

-- the texts that are held, each at its place
abbrev pub Texts : Type 0
Texts = List (List ℕ)

-- no text is held twice
abbrev pub AreApart : Texts → Type 0
AreApart texts = (a b : ℕ) → a < length texts → b < length texts → get_or texts a [] ≡ get_or texts b [] → a ≡ b

-- with a text among them: a new one comes last
abbrev pub with_text : Texts → List ℕ → Texts
with_text texts bytes = if list_any (bytes_eq bytes) texts then texts else texts ++ bytes ∷ []

-- the value that a held one stands for
abbrev pub meant : Texts → SmallValue → LuaValue
meant texts small.Nil = lua.Nil
meant texts (small.Truth b) = lua.Truth b
meant texts (small.Number n) = lua.Number n
meant texts (small.Text at) = lua.Text (get_or texts at [])
meant texts (small.Table at) = lua.Table at

-- and a key
abbrev pub meant_key : Texts → Key → LuaValue
meant_key texts (key.Truth b) = lua.Truth b
meant_key texts (key.Number n) = lua.Number n
meant_key texts (key.Text at) = lua.Text (get_or texts at [])

-- its text, where it has one, is held
abbrev pub IsHeld : Texts → SmallValue → Type 0
IsHeld texts (small.Text at) = at < length texts
IsHeld texts small.Nil = Unit {0}
IsHeld texts (small.Truth b) = Unit {0}
IsHeld texts (small.Number n) = Unit {0}
IsHeld texts (small.Table at) = Unit {0}

abbrev pub IsHeldKey : Texts → Key → Type 0
IsHeldKey texts (key.Text at) = at < length texts
IsHeldKey texts (key.Truth b) = Unit {0}
IsHeldKey texts (key.Number n) = Unit {0}

-- the value as a key, where it is one
abbrev pub as_key : SmallValue → Option Key
as_key small.Nil = None
as_key (small.Truth b) = Some (key.Truth b)
as_key (small.Number n) = Some (key.Number n)
as_key (small.Text at) = Some (key.Text at)
as_key (small.Table at) = None

-- the held key that stands for a value, where there is one
abbrev pub held_key : Texts → LuaValue → Option Key
held_key texts lua.Nil = None
held_key texts (lua.Truth b) = Some (key.Truth b)
held_key texts (lua.Number n) = Some (key.Number n)
held_key texts (lua.Text bytes) = option_map key.Text (position (bytes_eq bytes) texts)
held_key texts (lua.Table at) = None

abbrev same_truth : Bool → Bool → Bool
same_truth true true = true
same_truth false false = true
same_truth _ _ = false

-- both are the same key
abbrev pub same_key : Key → Key → Bool
same_key (key.Truth a) (key.Truth b) = same_truth a b
same_key (key.Number a) (key.Number b) = int_eq a b
same_key (key.Text a) (key.Text b) = a == b
same_key _ _ = false
