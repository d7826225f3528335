use Rattle.std.proofs.Common.{sym, ◌∙◌}
use Rattle.tis_words.specs.Words.{is_blank_byte}
use Rattle.tis_words.proofs.Cutting.{word_found, word_missing, not_empty_list, is_empty_list}
use Rattle.tis_words.proofs.words.first_word.Goals as goal

pub returns-then-is_empty : goal.returns-then-is_empty
returns-then-is_empty c =
    word_missing is_blank_byte c.args.bytes.now _ c.split_at-2.result.0.now _ _ c.blank_length.ensures c.split_at.ensures.back c.word_length.ensures c.split_at-2.ensures.front
    (is_empty_list c.split_at-2.result.0.now (sym c.if-is_empty.true ∙ c.is_empty.ensures))

pub returns : goal.returns
returns c =
    word_found is_blank_byte c.args.bytes.now _ c.split_at-2.result.0.now c.split_at-2.result.1.now _ _ c.blank_length.ensures c.split_at.ensures.back c.word_length.ensures c.split_at-2.ensures.front c.split_at-2.ensures.back
    (not_empty_list c.split_at-2.result.0.now (sym c.if-is_empty.false ∙ c.is_empty.ensures))
