use Rattle.lua_machine.proofs.Settling as settling
use Rattle.lua_machine.proofs.laws.calls_come_to_something.Goals as goal

pub returns : goal.returns
returns c = settling.calls_come_to_something
