use Rattle.std.proofs.Common.{◌<◌, arith}
use Rattle.tis_grid.proofs.Starting.{twelve_tiles}
use Rattle.tis_grid.proofs.Choosing.{all_listed}
use Rattle.tis_grid.proofs.grid.Grid.choices.Goals as goal

pub returns-clause-all : goal.returns-clause-all
returns-clause-all c =
    all_listed c.args.self.now c.args.state.now.state c.loop-list.lists (twelve_tiles c.args.self.now c.puzzle.ensures.grid) c.puzzle.ensures.grid.puzzle.tiles.allowed.0 c.loop-list.invariant.0
    (λ list below. let before : list < c.loop-list.list = omega arith in c.loop-list.invariant.1 list before)
