-- The first that is missing is among those that are left.
use Rattle.std.proofs.Common.{◌≡◌, drop}
use Rattle.lua_machine.specs.Tree.{items_of}
use Rattle.tis_puzzle.specs.LuaPuzzle.{first_missing}
use Rattle.tis_puzzle.proofs.calling.first_missing.Given as goal

abbrev pub invariant-loop-name : goal.invariant-loop-name
invariant-loop-name l = first_missing (items_of l.chunk) l.wanted ≡ first_missing (items_of l.chunk) (drop l.name-index l.wanted)
