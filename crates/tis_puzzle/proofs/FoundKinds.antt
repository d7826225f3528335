-- Kinds of tiles that are found one by one.
use Rattle.std.proofs.Common.{ℕ, List, ◌++◌, Result, Ok, Err}
use Rattle.tis_base.specs.declared.tiles.TileKind.{TileKind}

-- the kinds that were found, and those of the rest
abbrev pub behind : List TileKind → Result (List TileKind) ℕ → Result (List TileKind) ℕ
behind found (Ok kinds) = Ok (found ++ kinds)
behind found (Err index) = Err index
