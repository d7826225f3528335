use Rattle.lua_state.proofs.Made.{put_done}
use Rattle.lua_state.proofs.held.HeldState.drop_parts.Goals as goal

pub returns-clause-dropped : goal.returns-clause-dropped
returns-clause-dropped c = put_done c.args.self.now c.args.count c.drop_top.new.self c.args.self.now.tables c.drop_top.ensures
