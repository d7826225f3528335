use Rattle.std.proofs.Common.{arith}
use Rattle.tis_grid.proofs.Marked.{alone_only}
use Rattle.tis_grid.proofs.grid.Grid.point_at.Goals as goal

pub returns-in-Some-clause-within : goal.returns-in-Some-clause-within
returns-in-Some-clause-within c = λ place set. let same = alone_only c.spot.result place (omega (arith, c.spot.ensures.few)) set in omega (arith, same, c.spot.ensures.few)
