use Rattle.std.proofs.Common.{◌≡◌, ◌<◌, ◌+◌, List, Some, length, get_or, arith, ap, sym, ◌∙◌}
use Rattle.tis_grid.specs.declared.event.Event.{Event}
use Rattle.tis_grid.proofs.Choosing.{all_of, found_in}
use Rattle.tis_grid.proofs.choices.Choices.at.Goals as goal

pub returns-then-left-len : goal.returns-then-left-len
returns-then-left-len c =
    found_in c.args.self.now.lists c.loop-events.events-index c.loop-events.left c.args.index c.events-item.result _ (omega arith) (omega (arith, c.len.ensures.value, c.if-left-len.true)) c.loop-events.invariant
    ∙ ap (λ (xs : List Event). Some (get_or xs c.loop-events.left _)) (sym c.deref.ensures.0)
