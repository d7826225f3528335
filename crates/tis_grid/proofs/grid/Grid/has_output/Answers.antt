use Rattle.std.proofs.Common.{ap, ◌∙◌, List}
use Rattle.std.specs.Prelude.{◌==◌}
use Rattle.std.specs.List.{list_any}
use Rattle.tis_grid.specs.declared.puzzle.OutputAt.{OutputAt}
use Rattle.tis_grid.specs.State.{Grid}
use Rattle.tis_grid.specs.Puzzle.{has_output}
use Rattle.tis_grid.proofs.Inputs.{has_output-held}
use Rattle.tis_grid.proofs.grid.Grid.has_output.Goals as goal

pub returns : goal.returns
returns c = c.stands_at.ensures ∙ ap (λ (o : List OutputAt). list_any (λ output. output.position == c.args.position) o) c.deref.ensures.value ∙ has_output-held c.self.inside.puzzle.outputs.items c.args.position ∙ ap (λ (g : Grid). has_output g.puzzle.outputs c.args.position) c.self.view_is
