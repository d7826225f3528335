use Rattle.lua_syntax.proofs.Answering as answering
use Rattle.lua_syntax.proofs.laws.chunks_are_read.Goals as goal

pub returns : goal.returns
returns c = answering.chunks_are_read
