-- The rows so far are those of the instructions so far.
use Rattle.tis_node.proofs.Rows.{no_rows, one_row_more}
use Rattle.tis_node.proofs.decoded.rows_of.Goals as goal

pub loop-pc-init : goal.loop-pc-init
loop-pc-init c = no_rows c.args.program.now c.silent-rows.result c.silent-rows.ensures

pub loop-pc-preserved : goal.loop-pc-preserved
loop-pc-preserved c = one_row_more c.loop-pc.rows c.args.program.now c.loop-pc.pc c.at.result c.row_of.result c.len-pc-end.ensures.values c.at.ensures c.row_of.ensures c.loop-pc.invariant
