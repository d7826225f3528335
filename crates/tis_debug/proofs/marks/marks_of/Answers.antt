-- The marks are those of the instructions.
use Rattle.std.proofs.Common.{false, rules}
use Rattle.std.proofs.lemmas.List.FromFn.{fill_by_all}
use Rattle.tis_debug.specs.Sessions.{is_marked_in, marks_in}
use Rattle.tis_debug.proofs.marks.marks_of.Goals as goal

pub returns : goal.returns
unfolding marks_in
returns c = fill_by_all (is_marked_in c.args.program.now) c.loop-instruction.marks 15 false c.loop-instruction.invariant.0 (search rules)
