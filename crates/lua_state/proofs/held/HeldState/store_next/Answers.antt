use Rattle.lua_state.proofs.held.HeldState.store_next.Goals as goal

pub put_at-requires-clause-key : goal.put_at-requires-clause-key
put_at-requires-clause-key c = c.number_key.ensures.held c.take-value.new.self.texts
