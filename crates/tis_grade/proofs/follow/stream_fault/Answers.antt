use Rattle.std.proofs.Common.{sym, ◌∙◌, arith}
use Rattle.tis_grade.proofs.Streams.{as_wanted}
use Rattle.tis_grade.proofs.follow.stream_fault.Goals as goal

pub returns-in-None-2-clause-same : goal.returns-in-None-2-clause-same
returns-in-None-2-clause-same c = as_wanted c.args.output 0 c.args.wanted.now.items c.args.taken.now.items (sym c.first_wrong.ensures ∙ c.in-None-2.is) (omega arith)
