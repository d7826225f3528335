use Rattle.tis_grid.proofs.Marked.{marked_here, marked_others}
use Rattle.tis_grid.proofs.grid.Grid.mark.Goals as goal

pub returns-clause-here : goal.returns-clause-here
returns-clause-here c = marked_here c.args.self.now c.args.state.now.state c.mark.new.self.marks c.args.tile.number c.args.intent c.requires.gives c.mark.ensures.here

pub returns-clause-others : goal.returns-clause-others
returns-clause-others c = λ other within apart was. marked_others c.args.self.now c.args.state.now.state c.args.givers.now.marks c.mark.new.self.marks c.args.tile.number other within apart c.mark.ensures.others was
