use Rattle.std.proofs.Common.{sym}
use Rattle.tis_spec.proofs.Answered.{as_text, as_chunk, is_puzzle}
use Rattle.tis_spec.proofs.reading.read_spec.Goals as goal

pub returns-then-is_grid_text-clause-puzzle : goal.returns-then-is_grid_text-clause-puzzle
returns-then-is_grid_text-clause-puzzle c = is_puzzle c.args.text.now c.args.seed c.read_text.result (as_text c.args.text.now c.args.seed c.read_text.result (sym c.if-is_grid_text.ensures) c.read_text.ensures)

pub returns-else-is_grid_text-clause-puzzle : goal.returns-else-is_grid_text-clause-puzzle
returns-else-is_grid_text-clause-puzzle c = is_puzzle c.args.text.now c.args.seed c.read_chunk.result (as_chunk c.args.text.now c.args.seed c.read_chunk.result (sym c.if-is_grid_text.ensures) c.read_chunk.ensures)
