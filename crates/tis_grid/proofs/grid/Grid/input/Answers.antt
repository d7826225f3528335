use Rattle.std.proofs.Common.{◌≡◌, ◌<◌, get_or, None, sym, ap, ◌∙◌, arith, rules}
use Rattle.tis_grid.specs.State.{Grid}
use Rattle.tis_grid.specs.HeldGrid.{input_values}
use Rattle.tis_grid.proofs.Inputs.{found_values, found_none, found_within}
use Rattle.tis_grid.proofs.grid.Grid.input.Goals as goal

pub returns-in-Some : goal.returns-in-Some
returns-in-Some c =
    let within : c.args.position < 4 = omega (arith, c.self.invariant.is_grid.puzzle.tiles.allowed.0, ap (λ (g : Grid). g.puzzle.tiles.shape.columns) c.self.view_is) in
    let place = sym (c.self.invariant.inputs c.args.position within) ∙ c.in-Some.is in
    record { values = found_values c.self.inside.puzzle c.args.position c.in-Some.index c.index.result.now place (found_within c.self.inside.puzzle.inputs.items c.args.position c.in-Some.index c.index.result.now place c.index.ensures) ∙ ap (λ (g : Grid). input_values g.puzzle c.args.position) c.self.view_is }

pub returns-in-None : goal.returns-in-None
returns-in-None c =
    let within : c.args.position < 4 = omega (arith, c.self.invariant.is_grid.puzzle.tiles.allowed.0, ap (λ (g : Grid). g.puzzle.tiles.shape.columns) c.self.view_is) in
    let none : get_or c.self.inside.input_at c.args.position None ≡ None = search rules in
    record { values = found_none c.self.inside.puzzle c.args.position (sym (c.self.invariant.inputs c.args.position within) ∙ none) ∙ ap (λ (g : Grid). input_values g.puzzle c.args.position) c.self.view_is }
