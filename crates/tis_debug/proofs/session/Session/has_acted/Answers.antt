-- The node took part in the last cycle's events.
use Rattle.std.proofs.Common.{◌-◌, List, sym, ap, subst, ◌∙◌}
use Rattle.std.specs.Prelude.{All}
use Rattle.std.specs.List.{list_any}
use Rattle.tis_grid.specs.declared.event.Event.{Event}
use Rattle.tis_clock.specs.Cycle.{cycle_events}
use Rattle.tis_debug.specs.Sessions.{Session, state_at}
use Rattle.tis_debug.specs.Held.{takes_part, StandsOnGrid}
use Rattle.tis_debug.proofs.Acting.{acts_are, cycle_stands}
use Rattle.tis_debug.proofs.session.Session.has_acted.Goals as goal

pub acts-requires : goal.acts-requires
acts-requires c =
    let session = c.args.self.now in
    subst (λ (s : Session). All (StandsOnGrid s.grid) c.args.trace.now) (sym c.self.view_is)
    (subst (λ (events : List Event). All (StandsOnGrid session.grid) events) (sym c.requires) (cycle_stands session.grid (state_at session.grid (session.cycle - 1))))

pub returns : goal.returns
returns c =
    let session = c.args.self.now in
    let before = state_at session.grid (session.cycle - 1) in
    c.acts.ensures
    ∙ ap (λ (s : Session). list_any (λ event. takes_part s.grid event c.args.tile.number) c.args.trace.now) c.self.view_is
    ∙ ap (list_any (λ event. takes_part session.grid event c.args.tile.number)) c.requires
    ∙ sym (acts_are session.grid c.args.tile.number (cycle_events session.grid before) before)
