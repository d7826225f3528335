use Rattle.tis_grid.proofs.Marked.{and_right}
use Rattle.tis_grid.proofs.Renewed.{apart_at}
use Rattle.tis_grid.proofs.grid.Grid.concerned.Goals as goal

pub returns-clause-within : goal.returns-clause-within
returns-clause-within c = λ place set. (c.requires.givers.around.around c.args.tile.number c.requires.within).within place (and_right _ _ place set)

pub returns-clause-apart : goal.returns-clause-apart
returns-clause-apart c = apart_at c.args.self.now c.args.state.now.state c.args.givers.now c.args.tile.number c.puzzle.ensures.grid c.requires.givers c.requires.within
