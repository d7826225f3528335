use Rattle.lua_state.proofs.Sound.{with_tables}
use Rattle.lua_state.proofs.held.HeldState.add_table.Goals as goal

pub returns-clause-sound : goal.returns-clause-sound
returns-clause-sound c = with_tables c.args.self.now c.add.new.self c.requires (c.in_ok-at.ensures.held c.args.self.now.texts c.requires.tables)
