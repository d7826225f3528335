use Rattle.lua_machine.specs.Tree.{items_of}
use Rattle.lua_plain.specs.Plain.{plain_view}
use Rattle.tis_grid.specs.Puzzle.{puzzle_of}
use Rattle.tis_puzzle.proofs.Called.{layout_given, layout_refused}
use Rattle.tis_puzzle.proofs.calling.with_ports.Goals as goal

pub returns-in-Ok : goal.returns-in-Ok
returns-in-Ok c = layout_given (items_of c.args.chunk.now) c.args.seed (puzzle_of c.args.ports) (plain_view c.in-Ok.layout) c.on_layout.result c.in-Ok.ensures c.on_layout.ensures

pub returns-in-Err : goal.returns-in-Err
returns-in-Err c = layout_refused (items_of c.args.chunk.now) c.args.seed (puzzle_of c.args.ports) c.in-Err.why c.in-Err.ensures
