use Rattle.std.proofs.Common.{ap, ◌∙◌, List, length, eq-eqb, eqb-true}
use Rattle.tis_grid.specs.declared.event.Event.{Event}
use Rattle.tis_grid.proofs.Drawing.{rest_counts}
use Rattle.tis_grid.proofs.grid.Grid.at_rest.Goals as goal

pub returns : goal.returns
returns c =
    let counts = rest_counts c.args.self.now c.args.state.now.state c.count.result c.puzzle.ensures.grid (c.count.ensures.count ∙ ap (λ (xs : List Event). length xs) c.choices.ensures.all) in
    (λ is. counts.0 (eqb-true c.count.result 0 is), λ rest. eq-eqb c.count.result 0 (counts.1 rest))
