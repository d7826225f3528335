use Rattle.std.proofs.Common.{ap, refl, ◌∙◌, drop, length, ◌-◌}
use Rattle.lua_state.specs.Held.{store_of}
use Rattle.lua_state.specs.Locals.{Scopes}
use Rattle.lua_state.proofs.Assigning.{with_scopes}
use Rattle.lua_state.proofs.Sound.{cut_held}
use Rattle.lua_state.proofs.held.HeldState.cut_to.Goals as goal

pub returns-clause-cut : goal.returns-clause-cut
returns-clause-cut c =
    let h = c.args.self.now in
    ap (λ (l : Scopes). store_of (with_scopes h l)) c.cut_to.ensures ∙ cut_held h c.args.outer (drop (length h.locals.running - c.args.outer) h.locals.running) refl
