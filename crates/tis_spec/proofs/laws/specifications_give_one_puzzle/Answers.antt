use Rattle.tis_spec.proofs.Given as given
use Rattle.tis_spec.proofs.laws.specifications_give_one_puzzle.Goals as goal

pub returns : goal.returns
returns c = record { some = given.each_gives; one = given.each_gives_one; puzzle = given.given_are_puzzles; grid = given.grids_are_given }
