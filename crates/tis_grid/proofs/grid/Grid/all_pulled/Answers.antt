-- One direction after the other.
use Rattle.std.proofs.Common.{List, ◌++◌, ap, ◌∙◌}
use Rattle.tis_grid.specs.declared.event.Event.{Event}
use Rattle.tis_grid.specs.HeldChoices.{event_of}
use Rattle.tis_grid.proofs.Intended.{in_all}
use Rattle.tis_grid.proofs.grid.Grid.all_pulled.Goals as goal

pub returns : goal.returns
returns c =
    in_all c.args.self.now c.args.state.now.state c.args.tile.number c.requires.local (event_of c.pulled.result) (event_of c.pulled-2.result) (event_of c.pulled-3.result) (event_of c.pulled-4.result) c.put-4.new.events.items
    c.pulled.ensures c.pulled-2.ensures c.pulled-3.ensures c.pulled-4.ensures
    (c.put-4.ensures.items ∙ ap (λ (xs : List Event). xs ++ event_of c.pulled-4.result) (c.put-3.ensures.items
    ∙ ap (λ (xs : List Event). xs ++ event_of c.pulled-3.result) (c.put-2.ensures.items
    ∙ ap (λ (xs : List Event). xs ++ event_of c.pulled-2.result) (c.put.ensures.items
    ∙ ap (λ (xs : List Event). xs ++ event_of c.pulled.result) c.new-events.ensures))))
