-- Of the two the first that can happen.
use Rattle.std.proofs.Common.{Some, sym, ap, ◌∙◌}
use Rattle.std.specs.Prelude.{◌&&◌}
use Rattle.tis_base.specs.declared.tiles.Dir.{Dir}
use Rattle.tis_grid.specs.Events.{is_giving}
use Rattle.tis_grid.specs.declared.event.Event.TheVariants.{Meet}
use Rattle.tis_clock.specs.Turns.{kept_at}
use Rattle.tis_clock.proofs.Intended.{met}
use Rattle.tis_clock.proofs.turns.take_from_next.Goals as goal

pub returns-then-gives_old : goal.returns-then-gives_old
returns-then-gives_old c = ap (λ (d : Dir). Some (Meet c.args.next d)) c.opposite-then-gives_old.ensures ∙ met c.args.grid.now c.puzzle.ensures.grid c.args.state.now.state (kept_at c.args.writing.now) c.args.tile.number c.requires.there c.args.dir c.args.next.number c.requires.next c.requires.waits (sym (c.gives_old.ensures ∙ ap (λ (d : Dir). kept_at c.args.writing.now c.args.next.number && is_giving c.args.grid.now c.args.state.now.state c.args.next.number d) c.opposite.ensures) ∙ c.if-gives_old.true)
