use Rattle.tis_grid.specs.Puzzle.{puzzle_of}
use Rattle.tis_report.specs.Outputs.{text_at}
use Rattle.tis_report.proofs.Growing.{number_more}
use Rattle.tis_report.proofs.outputs.push_outputs.Goals as goal

pub loop-position-preserved : goal.loop-position-preserved
loop-position-preserved c = number_more (text_at (puzzle_of c.args.puzzle.now) c.args.state.now.state) c.args.out.now.items c.loop-position.out.items c.push_output_at.new.out.items c.loop-position.position c.in_ok-push_output_at.ensures c.loop-position.invariant
