use Rattle.tis_node.specs.Rows.{HasRows}
use Rattle.tis_node.proofs.decoded.rows_of.Given as goal

abbrev pub invariant-loop-pc : goal.invariant-loop-pc
invariant-loop-pc l = HasRows l.rows l.program
