use Rattle.std.proofs.Common.{arith}
use Rattle.tis_grid.proofs.Renewed.{around_stays, one_more_marked}
use Rattle.tis_grid.proofs.grid.Grid.givers.Goals as goal

pub loop-number-preserved : goal.loop-number-preserved
loop-number-preserved c =
    record {
      around = around_stays c.args.self.now c.loop-number.givers c.mark.new.givers c.mark.ensures.around c.loop-number.invariant.around;
      marked = one_more_marked c.args.self.now c.args.state.now.state c.loop-number.givers.marks c.mark.new.givers.marks c.loop-number.number (omega (arith, c.loop-number-test.true)) c.loop-number.invariant.marked c.mark.ensures.here c.mark.ensures.others;
    }
