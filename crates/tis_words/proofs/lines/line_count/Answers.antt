use Rattle.std.proofs.Common.{arith}
use Rattle.tis_words.proofs.Counting.{lines_fit}
use Rattle.tis_words.proofs.lines.line_count.Goals as goal

pub overflow_add-count : goal.overflow_add-count
overflow_add-count c = grind (arith, lines_fit c.args.text.now, c.loop.invariant.2)
