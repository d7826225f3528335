use Rattle.std.proofs.Common.{Ok}
use Rattle.tis_grid.specs.Puzzle.{puzzle_of}
use Rattle.tis_cli.proofs.Opened.{is_given, spec_stops}
use Rattle.tis_cli.proofs.runs.open_puzzle.Goals as goal

pub returns-in-Ok-clause-opens : goal.returns-in-Ok-clause-opens
returns-in-Ok-clause-opens c given next gives = is_given c.args.spec.now c.args.seed given gives next (Ok (puzzle_of c.in-Ok.puzzle)) c.in-Ok.ensures.answers

pub returns-in-Err-clause-opens : goal.returns-in-Err-clause-opens
returns-in-Err-clause-opens c given next gives = rw c.from.ensures (spec_stops c.args.spec.now c.args.seed given gives next c.in-Err.why c.in-Err.ensures.answers)
