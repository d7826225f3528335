-- The lemmas that a specification gives one puzzle.
use Rattle.tis_puzzle.proofs.LuaPuzzles as LuaPuzzles
use Rattle.tis_puzzle.proofs.laws.specifications_give_one_puzzle.Goals as goal

pub returns : goal.returns
returns c = record { some = LuaPuzzles.each_has_a_puzzle_or_none; one = LuaPuzzles.one_puzzle; puzzle = LuaPuzzles.specifications_give_puzzles }
