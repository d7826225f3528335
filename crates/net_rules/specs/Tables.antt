-- Tables of names: a number for each of some names.
use Rattle.std.specs.Prelude.{ℕ, List, [], ◌∷◌, Option, Some, None, if◌then◌else◌}
use Rattle.std.specs.Str.{bytes_eq}
use Rattle.net_tree.specs.Tree.{Name}

-- names, each with its number
abbrev pub Table : Type 0
Table = List (Name × ℕ)

-- the number that a table has for a name
abbrev pub value_of : Table → Name → Option ℕ
value_of [] name = None
value_of (entry ∷ entries) name = if bytes_eq name entry.0 then Some entry.1 else value_of entries name
