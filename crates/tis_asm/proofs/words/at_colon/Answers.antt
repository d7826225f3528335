use Rattle.std.proofs.Common.{sym, ◌∙◌}
use Rattle.tis_asm.proofs.Cutting.{colon_missing, colon_next, not_empty_list, is_empty_list}
use Rattle.tis_asm.proofs.words.at_colon.Goals as goal

pub returns-then-is_empty : goal.returns-then-is_empty
returns-then-is_empty c =
    colon_missing c.args.line.now _ c.split_at.result.1.now _ c.length_before_colon.ensures c.split_at.ensures.front c.split_at.ensures.back (is_empty_list c.split_at.result.1.now (sym c.if-is_empty.true ∙ c.is_empty.ensures))

pub returns : goal.returns
returns c =
    colon_next c.args.line.now _ c.split_at.result.1.now _ _ c.length_before_colon.ensures c.split_at.ensures.front c.split_at.ensures.back (not_empty_list c.split_at.result.1.now (sym c.if-is_empty.false ∙ c.is_empty.ensures)) c.behind_first.ensures
