use Rattle.std.proofs.Common.{◌≡◌, suc, drop, map}
use Rattle.lua_plain.specs.Plain.{plain_view}
use Rattle.tis_grid.specs.Puzzle.{puzzle_of}
use Rattle.tis_puzzle.specs.Entries.{unknown, with_entries}
use Rattle.tis_puzzle.proofs.entries.read_streams.Given as goal

abbrev pub invariant-loop-index : goal.invariant-loop-index
invariant-loop-index l = with_entries (puzzle_of l.puzzle) (suc l.index) (map plain_view (drop l.index l.entries)) ≡ with_entries unknown 1 (map plain_view l.entries)
