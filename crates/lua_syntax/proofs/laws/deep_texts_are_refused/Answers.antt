use Rattle.lua_syntax.proofs.Answering as answering
use Rattle.lua_syntax.proofs.laws.deep_texts_are_refused.Goals as goal

pub returns : goal.returns
returns c = answering.deep_texts_are_refused
