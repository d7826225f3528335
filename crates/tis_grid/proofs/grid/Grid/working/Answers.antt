use Rattle.std.proofs.Common.{Bool, List, ap, ◌∙◌}
use Rattle.tis_grid.specs.TileSets.{has}
use Rattle.tis_grid.specs.State.{Grid}
use Rattle.tis_grid.specs.Events.{works}
use Rattle.tis_grid.proofs.grid.Grid.working.Goals as goal

pub returns : goal.returns
returns c = λ tile. ap (λ (l : List Bool). has l tile) c.copy.ensures ∙ c.self.invariant.works tile ∙ ap (λ (g : Grid). works g tile) c.self.view_is
