use Rattle.lua_state.proofs.Sound.{with_tables}
use Rattle.lua_state.proofs.held.HeldState.put_at.Goals as goal

pub returns-clause-sound : goal.returns-clause-sound
returns-clause-sound c =
    let h = c.args.self.now in
    with_tables h c.put.new.self c.requires.sound (c.in_ok-put.ensures.held h.texts c.requires.sound.tables c.requires.key c.requires.value)
