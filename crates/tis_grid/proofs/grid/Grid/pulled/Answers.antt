-- It pops where there is a value.
use Rattle.std.proofs.Common.{sym, ap, ◌∙◌}
use Rattle.std.specs.Prelude.{option_map}
use Rattle.tis_base.specs.declared.tiles.Tile.{Tile}
use Rattle.tis_grid.proofs.Intended.{pulls, pulls_nothing, pulls_beyond}
use Rattle.tis_grid.proofs.grid.Grid.pulled.Goals as goal

pub returns-in-Some : goal.returns-in-Some
returns-in-Some c = pulls c.args.self.now c.args.state.now.state c.args.tile.number c.args.dir c.requires.takes c.requires.gives c.in-Some.next.number (sym c.next.ensures.next ∙ ap (option_map (λ (t : Tile). t.number)) c.in-Some.is) (sym c.has_value.ensures ∙ c.if-has_value.true)

pub returns-in_default : goal.returns-in_default
returns-in_default c = pulls_nothing c.args.self.now c.args.state.now.state c.args.tile.number c.args.dir c.requires.takes c.requires.gives c.in-Some.next.number (sym c.next.ensures.next ∙ ap (option_map (λ (t : Tile). t.number)) c.in-Some.is) (sym c.has_value.ensures ∙ c.if-has_value.false)

pub returns-in_default-2 : goal.returns-in_default-2
returns-in_default-2 c = pulls_beyond c.args.self.now c.args.state.now.state c.args.tile.number c.args.dir c.requires.takes c.requires.gives (sym c.next.ensures.next ∙ ap (option_map (λ (t : Tile). t.number)) c.in_default.is)
