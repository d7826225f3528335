use Rattle.std.proofs.Common.{sym, Some, None}
use Rattle.lua_state.proofs.Naming.{local_value, global_value, held_under}
use Rattle.lua_state.proofs.held.HeldState.value_at.Goals as goal

pub returns-in-Some-clause-value : goal.returns-in-Some-clause-value
returns-in-Some-clause-value c = local_value c.args.self.now c.args.at c.requires.sound c.requires.inside c.in-Some.value (sym c.in-Some.ensures)

pub returns-in-Some-clause-held : goal.returns-in-Some-clause-held
returns-in-Some-clause-held c = held_under c.args.self.now.texts c.args.at c.args.self.now.locals.running c.in-Some.value c.requires.sound.locals (sym c.in-Some.ensures)

pub returns-in-Some-value-clause-value : goal.returns-in-Some-value-clause-value
returns-in-Some-value-clause-value c = global_value c.args.self.now c.args.at c.requires.sound c.requires.inside (Some c.in-Some-value.value) (sym c.in-None.ensures) (sym c.in-Some-value.ensures)

pub returns-in-Some-value-clause-held : goal.returns-in-Some-value-clause-held
returns-in-Some-value-clause-held c = held_under c.args.self.now.texts c.args.at c.args.self.now.globals c.in-Some-value.value c.requires.sound.globals (sym c.in-Some-value.ensures)

pub returns-in-None-value-clause-value : goal.returns-in-None-value-clause-value
returns-in-None-value-clause-value c = global_value c.args.self.now c.args.at c.requires.sound c.requires.inside None (sym c.in-None.ensures) (sym c.in-None-value.ensures)
