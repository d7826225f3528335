use Rattle.std.proofs.Common.{◌≡◌, ◌++◌, map, take, decimal}
use Rattle.net_tree.specs.NetText.{words_behind}
use Rattle.net_tree.proofs.write.push_path.Given as goal

abbrev pub invariant-tiles : goal.invariant-tiles
invariant-tiles l = l.out.items ≡ l.fn.out.items ++ words_behind (map decimal (take l.tile-index l.tile-items))
