-- Which functions a chunk has.
use Rattle.std.specs.Prelude.{List, ℕ, [], ◌∷◌, Bool, false, ◌||◌}
use Rattle.std.specs.Str.{bytes_eq}
use Rattle.lua_tree.specs.declared.tree.Item.{Item}
use Rattle.lua_tree.specs.declared.tree.Item.TheVariants as item

-- whether an item is a function of this name
abbrev pub names_function : List ℕ → Item → Bool
names_function name (item.Function called params body) = bytes_eq called name
names_function name (item.Assign called value) = false

-- whether some item is
abbrev pub defines : List ℕ → List Item → Bool
defines name [] = false
defines name (item ∷ items) = names_function name item || defines name items
