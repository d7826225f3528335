use Rattle.std.proofs.Common.{sym, ◌∙◌}
use Rattle.tis_grid.specs.declared.event.Event.TheVariants.{Out}
use Rattle.tis_grid.proofs.Choosing.{those-one, those-none}
use Rattle.tis_grid.proofs.grid.Grid.output_events.Goals as goal

pub returns-then-can_give : goal.returns-then-can_give
returns-then-can_give c = c.alone.ensures ∙ sym (those-one c.args.self.now c.args.state.now.state (Out c.args.position) (sym c.can_give.ensures ∙ c.if-can_give.true))

pub returns-else-can_give : goal.returns-else-can_give
returns-else-can_give c = c.alone-else-can_give.ensures ∙ sym (those-none c.args.self.now c.args.state.now.state (Out c.args.position) (sym c.can_give.ensures ∙ c.if-can_give.false))
