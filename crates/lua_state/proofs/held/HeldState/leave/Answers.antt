use Rattle.std.proofs.Common.{subst, sym}
use Rattle.lua_state.specs.Held.{IsSound}
use Rattle.lua_state.specs.Locals.{Scopes}
use Rattle.lua_state.specs.Variables.{IsHeldVariable}
use Rattle.lua_state.proofs.Sound.{all_below}
use Rattle.lua_state.proofs.Assigning.{with_scopes}
use Rattle.lua_state.proofs.Binding.{all_top}
use Rattle.lua_state.proofs.held.HeldState.leave.Goals as goal
use Rattle.std.specs.List.{All}

pub returns-clause-sound : goal.returns-clause-sound
returns-clause-sound c =
    let h = c.args.self.now in
    subst (λ (l : Scopes). IsSound (with_scopes h l)) (sym c.leave.ensures) (record {
      apart = c.requires.apart;
      values = c.requires.values;
      globals = c.requires.globals;
      tables = c.requires.tables;
      locals = all_top (IsHeldVariable h.texts) h.locals.around c.requires.callers;
      callers = all_below (All (IsHeldVariable h.texts)) h.locals.around c.requires.callers;
    })
