-- The events are kept.
use Rattle.std.proofs.Common.{length, List, refl, sym, ap, ◌∙◌}
use Rattle.tis_grid.specs.declared.event.Event.{Event}
use Rattle.tis_clock.proofs.cycles.cycle.Goals as goal

pub returns-clause-trace : goal.returns-clause-trace
returns-clause-trace c = c.do_cycle.ensures.trace refl

pub returns-clause-count : goal.returns-clause-count
returns-clause-count c = c.do_cycle.ensures.count ∙ ap (λ (events : List Event). length events) (sym (c.do_cycle.ensures.trace refl))
