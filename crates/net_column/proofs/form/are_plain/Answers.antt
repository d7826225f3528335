use Rattle.std.proofs.Common.{◌∙◌, sym, eqb-true, eq-eqb}
use Rattle.net_column.proofs.Forms.{plain_is, plain_count}
use Rattle.net_column.proofs.form.are_plain.Goals as goal

pub returns : goal.returns
returns c = (
  λ twelve. plain_is c.args.tiles.now c.shape.ensures.tiles (sym c.compute_count.ensures ∙ eqb-true c.compute_count.result 12 twelve),
  λ plain. eq-eqb c.compute_count.result 12 (c.compute_count.ensures ∙ plain_count c.args.tiles.now plain),
)
