use Rattle.tis_grid.proofs.Frames.{all_right_at, still_marked}
use Rattle.tis_grid.proofs.grid.Grid.step.Goals as goal

pub renew_both-requires-clause-marked : goal.renew_both-requires-clause-marked
renew_both-requires-clause-marked c = still_marked c.args.self.now c.args.state.now.state c.apply.new.state.state c.args.event c.touched.result.0.number c.touched.result.1.number c.args.givers.now.marks c.apply.ensures.state c.touched.ensures.first c.touched.ensures.second c.requires.givers.marked

pub returns-clause-right : goal.returns-clause-right
returns-clause-right c =
    record {
      len = c.renew_both.ensures.first.len;
      right = all_right_at c.args.self.now c.args.state.now.state c.apply.new.state.state c.args.event c.touched.result.0.number c.touched.result.1.number c.args.choices.now c.renew_both.new.choices
          c.puzzle.ensures.grid c.apply.ensures.state c.touched.ensures.first c.touched.ensures.second c.requires.right.right c.renew_both.ensures.first c.renew_both.ensures.second;
    }
