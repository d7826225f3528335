use Rattle.tis_asm.proofs.Cutting.{comment_cut}
use Rattle.tis_asm.proofs.words.without_comment.Goals as goal

pub returns : goal.returns
returns c = comment_cut c.args.line.now _ _ c.length_before_comment.ensures c.split_at.ensures.front
