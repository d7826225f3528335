use Rattle.std.proofs.Common.{List, length, arith, ap}
use Rattle.tis_grid.specs.declared.event.Event.{Event}
use Rattle.tis_grid.proofs.Choosing.{all_of}
use Rattle.tis_grid.proofs.choices.Choices.count.Goals as goal

pub returns : goal.returns
returns c = let all = ap (λ (xs : List Event). length xs) (all_of c.args.self.now.lists c.loop-events.events-index (omega arith)) in omega (arith, all, c.loop-events.invariant.0)
