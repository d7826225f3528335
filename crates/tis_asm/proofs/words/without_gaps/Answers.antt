use Rattle.tis_asm.proofs.Cutting.{gaps_cut}
use Rattle.tis_asm.proofs.words.without_gaps.Goals as goal

pub returns : goal.returns
returns c = gaps_cut c.args.bytes.now _ _ c.gap_length.ensures c.split_at.ensures.back
