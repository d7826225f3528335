-- On four columns and three rows.
use Rattle.std.proofs.Common.{◌≡◌, subst, ap, ◌∙◌}
use Rattle.std.specs.Prelude.{option_map}
use Rattle.tis_base.specs.Tiles.{neighbour_of}
use Rattle.tis_base.specs.declared.tiles.Shape.{Shape}
use Rattle.tis_grid.specs.State.{IsGrid}
use Rattle.tis_grid.specs.Events.{next_tile}
use Rattle.tis_grid.proofs.Frames.{next_there, next_apart}
use Rattle.tis_grid.proofs.Starting.{four_by_three}
use Rattle.tis_grid.proofs.grid.Grid.next.Goals as goal
use Rattle.tis_grid.proofs.grid.Grid.next.Goals.{After-beside}

is_grid : (c : After-beside) → IsGrid c.args.self.now
is_grid c = subst IsGrid c.self.view_is c.self.invariant.is_grid

is_next : (c : After-beside) → option_map (λ t. t.number) c.beside.result ≡ next_tile c.args.self.now c.args.tile.number c.args.dir
is_next c = c.beside.ensures ∙ ap (λ (s : Shape). neighbour_of s c.args.tile.number c.args.dir) (four_by_three c.args.self.now.puzzle.tiles.shape (is_grid c).puzzle.tiles.allowed)

pub returns-clause-next : goal.returns-clause-next
returns-clause-next c = is_next c

pub returns-clause-there : goal.returns-clause-there
returns-clause-there c = next_there c.args.self.now c.args.tile.number c.args.dir c.beside.result (is_grid c) c.requires (is_next c)

pub returns-clause-other : goal.returns-clause-other
returns-clause-other c = next_apart c.args.self.now c.args.tile.number c.args.dir c.beside.result (is_grid c) (is_next c)
