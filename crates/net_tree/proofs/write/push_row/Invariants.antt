use Rattle.std.proofs.Common.{◌≡◌, ◌*◌, ◌∷◌, ◌++◌, map, take, drop}
use Rattle.net_tree.specs.NetText.{kind_letter}
use Rattle.net_tree.proofs.write.push_row.Given as goal

abbrev pub invariant-letters : goal.invariant-letters
invariant-letters l = l.out.items ≡ l.fn.out.items ++ 32 ∷ map kind_letter (take l.column (drop (l.row * l.tiles.shape.columns) l.tiles.kinds))
