use Rattle.lua_machine.proofs.TurnLaws as turns
use Rattle.lua_machine.proofs.Settling as settling
use Rattle.lua_machine.proofs.laws.turns_yield.Goals as goal

pub returns-clause-answers : goal.returns-clause-answers
returns-clause-answers c = turns.turns_yield

pub returns-clause-budget : goal.returns-clause-budget
returns-clause-budget c = settling.spent_turns_run_out

pub returns-clause-progress : goal.returns-clause-progress
returns-clause-progress c = settling.turns_pay
