use Rattle.lua_call.proofs.Defined.{defined_is_found}
use Rattle.lua_call.proofs.laws.defined_is_found.Goals as goal

pub returns : goal.returns
returns c = defined_is_found
