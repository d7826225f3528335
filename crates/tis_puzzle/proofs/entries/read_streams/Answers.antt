use Rattle.std.proofs.Common.{List, suc, map, sym, ap, ◌∙◌, arith}
use Rattle.std.proofs.lemmas.List.{drop_all}
use Rattle.lua_plain.specs.Plain.{plain_view}
use Rattle.lua_plain.specs.declared.plain.Plain.{Plain}
use Rattle.tis_grid.specs.Puzzle.{puzzle_of}
use Rattle.tis_puzzle.specs.Entries.{with_entries}
use Rattle.tis_puzzle.proofs.EntryPuzzles.{ports_make_puzzle}
use Rattle.tis_puzzle.proofs.entries.read_streams.Goals as goal

pub returns-clause-puzzle : goal.returns-clause-puzzle
returns-clause-puzzle c =
    let entries = c.as_slice-entries.result.now in
    ports_make_puzzle (map plain_view entries) (puzzle_of c.loop-index.puzzle)
    (sym c.loop-index.invariant ∙ ap (λ (left : List Plain). with_entries (puzzle_of c.loop-index.puzzle) (suc c.loop-index.index) (map plain_view left)) (drop_all c.loop-index.index entries (omega arith)))
