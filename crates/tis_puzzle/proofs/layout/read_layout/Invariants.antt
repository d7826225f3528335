use Rattle.std.proofs.Common.{◌≡◌, suc, take, drop, map, length}
use Rattle.lua_plain.specs.Plain.{plain_view}
use Rattle.tis_puzzle.specs.Layout.{kinds_of}
use Rattle.tis_puzzle.proofs.FoundKinds.{behind}
use Rattle.tis_puzzle.proofs.layout.read_layout.Given as goal

abbrev pub invariant-loop-index : goal.invariant-loop-index
invariant-loop-index l =
    record {
      found : behind (take l.index l.kinds) (kinds_of (suc l.index) (map plain_view (drop l.index l.values))) ≡ kinds_of 1 (map plain_view l.values);
      filled : length l.kinds ≡ 12;
    }
