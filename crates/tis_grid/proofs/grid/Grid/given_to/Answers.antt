-- It meets a tile that waits, or pushes.
use Rattle.std.proofs.Common.{sym, ap, ◌∙◌}
use Rattle.std.specs.Prelude.{option_map}
use Rattle.tis_base.specs.declared.tiles.Tile.{Tile}
use Rattle.tis_grid.specs.Events.{is_waiting}
use Rattle.tis_base.specs.declared.tiles.Dir.{Dir}
use Rattle.tis_grid.proofs.Intended.{meets_it, pushes_it, keeps_it, gives_beyond}
use Rattle.tis_grid.proofs.grid.Grid.given_to.Goals as goal

pub returns-in-None : goal.returns-in-None
returns-in-None c = gives_beyond c.args.self.now c.args.state.now.state c.args.tile.number c.args.dir c.requires.takes c.requires.gives (sym c.next.ensures.next ∙ ap (option_map (λ (t : Tile). t.number)) c.in-None.is)

pub returns-then-is_waiting : goal.returns-then-is_waiting
returns-then-is_waiting c = meets_it c.args.self.now c.args.state.now.state c.args.tile.number c.args.dir c.requires.takes c.requires.gives c.in-Some.next.number (sym c.next.ensures.next ∙ ap (option_map (λ (t : Tile). t.number)) c.in-Some.is) (sym (c.is_waiting.ensures.is ∙ ap (λ (d : Dir). is_waiting c.args.self.now c.args.state.now.state c.in-Some.next.number d) c.opposite.ensures) ∙ c.if-is_waiting.true)

pub returns-then-has_room : goal.returns-then-has_room
returns-then-has_room c = pushes_it c.args.self.now c.args.state.now.state c.args.tile.number c.args.dir c.requires.takes c.requires.gives c.in-Some.next.number (sym c.next.ensures.next ∙ ap (option_map (λ (t : Tile). t.number)) c.in-Some.is) (sym (c.is_waiting.ensures.is ∙ ap (λ (d : Dir). is_waiting c.args.self.now c.args.state.now.state c.in-Some.next.number d) c.opposite.ensures) ∙ c.if-is_waiting.false) (sym c.has_room.ensures ∙ c.if-has_room.true)

pub returns-else-has_room : goal.returns-else-has_room
returns-else-has_room c = keeps_it c.args.self.now c.args.state.now.state c.args.tile.number c.args.dir c.requires.takes c.requires.gives c.in-Some.next.number (sym c.next.ensures.next ∙ ap (option_map (λ (t : Tile). t.number)) c.in-Some.is) (sym (c.is_waiting.ensures.is ∙ ap (λ (d : Dir). is_waiting c.args.self.now c.args.state.now.state c.in-Some.next.number d) c.opposite.ensures) ∙ c.if-is_waiting.false) (sym c.has_room.ensures ∙ c.if-has_room.false)
