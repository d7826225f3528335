use Rattle.std.proofs.Common.{◌∷◌, sym, ap, ◌∙◌}
use Rattle.std.specs.Prelude.{◌==◌}
use Rattle.std.specs.List.{before_first}
use Rattle.tis_base.specs.Lines.{without_cr, text_lines}
use Rattle.tis_base.proofs.NextLine.{text_lines-next}
use Rattle.tis_base.proofs.text_lines.first_line.Goals as goal

pub returns : goal.returns
returns c =
    let line = without_cr (before_first (λ byte. byte == 10) c.args.text.now) in
    let is_line = c.without_cr.ensures ∙ ap without_cr c.first_piece.ensures.before in
    text_lines-next c.args.text.now c.requires
    ∙ sym (ap (λ found. found ∷ text_lines c.first_piece.result.1.now) is_line ∙ ap (λ rest. line ∷ text_lines rest) c.first_piece.ensures.after)
