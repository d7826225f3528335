use Rattle.std.proofs.Common.{sym, ◌∙◌}
use Rattle.tis_grid.specs.declared.event.Event.TheVariants.{In}
use Rattle.tis_grid.proofs.Choosing.{those-one, those-none}
use Rattle.tis_grid.proofs.grid.Grid.input_events.Goals as goal

pub returns-then-can_take : goal.returns-then-can_take
returns-then-can_take c = c.alone.ensures ∙ sym (those-one c.args.self.now c.args.state.now.state (In c.args.position) (sym c.can_take.ensures ∙ c.if-can_take.true))

pub returns-else-can_take : goal.returns-else-can_take
returns-else-can_take c = c.alone-else-can_take.ensures ∙ sym (those-none c.args.self.now c.args.state.now.state (In c.args.position) (sym c.can_take.ensures ∙ c.if-can_take.false))
