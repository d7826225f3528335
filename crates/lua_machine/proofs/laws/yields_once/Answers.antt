use Rattle.lua_machine.proofs.OneAnswer as answer
use Rattle.lua_machine.proofs.laws.yields_once.Goals as goal

pub returns : goal.returns
returns c = answer.yields_once
