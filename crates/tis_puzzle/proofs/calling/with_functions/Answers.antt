use Rattle.lua_machine.specs.Tree.{items_of}
use Rattle.lua_plain.specs.Plain.{plain_view}
use Rattle.tis_puzzle.proofs.Called.{streams_given, streams_refused}
use Rattle.tis_puzzle.proofs.calling.with_functions.Goals as goal

pub returns-in-Ok : goal.returns-in-Ok
returns-in-Ok c = streams_given (items_of c.args.chunk.now) c.args.seed (plain_view c.in-Ok.streams) c.with_streams.result c.in-Ok.ensures c.with_streams.ensures

pub returns-in-Err : goal.returns-in-Err
returns-in-Err c = streams_refused (items_of c.args.chunk.now) c.args.seed c.in-Err.why c.in-Err.ensures
