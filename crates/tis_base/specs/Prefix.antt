-- Lists that begin alike.
use Rattle.std.specs.Prelude.{◌≡◌, List, ◌++◌}

-- the second list is the first one followed by some list
abbrev pub IsPrefixOf : {X : Type 0} → List X → List X → Type 0
IsPrefixOf {X} prefix whole = (rest : List X) × (prefix ++ rest ≡ whole)
