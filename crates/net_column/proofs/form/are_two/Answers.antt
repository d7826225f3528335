use Rattle.std.proofs.Common.{◌∙◌, sym}
use Rattle.net_column.proofs.Forms.{not_two, two_same}
use Rattle.net_column.proofs.form.are_two.Goals as goal

pub returns-then-len-ne2 : goal.returns-then-len-ne2
returns-then-len-ne2 c = not_two c.args.path.now c.args.first c.args.second (λ e. c.if-len-ne2.true (c.len.ensures.len ∙ e))

pub returns : goal.returns
returns c = two_same c.args.path.now c.args.first c.args.second c.at.result c.at-2.result (sym c.len.ensures.len ∙ c.if-len-ne2.false) c.at.ensures c.at-2.ensures
