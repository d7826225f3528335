use Rattle.std.proofs.Common.{None}
use Rattle.lua_machine.specs.Tree.{items_of}
use Rattle.tis_puzzle.proofs.Called.{whole_given, is_puzzle}
use Rattle.tis_puzzle.proofs.calling.puzzle.Goals as goal

pub returns-in-None-clause-puzzle : goal.returns-in-None-clause-puzzle
returns-in-None-clause-puzzle c =
    let chunk = items_of c.args.chunk.now in
    is_puzzle chunk c.args.seed c.with_functions.result (whole_given chunk c.args.seed None c.in-None.ensures c.with_functions.result c.with_functions.ensures)
