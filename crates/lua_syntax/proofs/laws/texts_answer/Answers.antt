use Rattle.lua_syntax.proofs.Answering as answering
use Rattle.lua_syntax.proofs.laws.texts_answer.Goals as goal

pub returns : goal.returns
returns c = answering.texts_answer
