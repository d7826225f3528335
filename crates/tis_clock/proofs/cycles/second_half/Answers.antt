-- Nobody gives where nobody writes any more that was writing.
use Rattle.std.proofs.Common.{◌++◌, Bool, List, length, sym, ap, ◌∙◌, append-nil}
use Rattle.std.specs.Prelude.{◌&&◌}
use Rattle.tis_grid.specs.declared.event.Event.{Event}
use Rattle.tis_clock.specs.Cycle.{gives_out, state_after}
use Rattle.tis_clock.specs.Turns.{kept_at}
use Rattle.tis_clock.proofs.Visiting.{quiet, idle_taken}
use Rattle.tis_clock.proofs.cycles.second_half.Goals as goal

pub returns-then-is_empty-clause-trace : goal.returns-then-is_empty-clause-trace
returns-then-is_empty-clause-trace c = λ kept.
    let grid = c.args.grid.now in
    let was = kept_at c.args.writing.now in
    let now = c.args.state.now.state in
    let empty = quiet grid (gives_out grid was) (length grid.puzzle.tiles.kinds) now
    (λ tile inside. idle_taken grid c.puzzle.ensures.grid was now tile inside (sym (ap (λ (b : Bool). was tile && b) (c.writers-now.ensures tile)) ∙ sym (c.both-still.ensures tile) ∙ c.is_empty.ensures c.if-is_empty.true tile)) in
    sym (ap (λ (given : List Event). c.args.trace.now ++ given) empty ∙ append-nil c.args.trace.now)

pub returns-then-is_empty-clause-count : goal.returns-then-is_empty-clause-count
returns-then-is_empty-clause-count c =
    let grid = c.args.grid.now in
    let was = kept_at c.args.writing.now in
    let now = c.args.state.now.state in
    let empty = quiet grid (gives_out grid was) (length grid.puzzle.tiles.kinds) now
    (λ tile inside. idle_taken grid c.puzzle.ensures.grid was now tile inside (sym (ap (λ (b : Bool). was tile && b) (c.writers-now.ensures tile)) ∙ sym (c.both-still.ensures tile) ∙ c.is_empty.ensures c.if-is_empty.true tile)) in
    sym (ap (λ (given : List Event). length given) empty)

pub returns-then-is_empty-clause-state : goal.returns-then-is_empty-clause-state
returns-then-is_empty-clause-state c =
    let grid = c.args.grid.now in
    let was = kept_at c.args.writing.now in
    let now = c.args.state.now.state in
    let empty = quiet grid (gives_out grid was) (length grid.puzzle.tiles.kinds) now
    (λ tile inside. idle_taken grid c.puzzle.ensures.grid was now tile inside (sym (ap (λ (b : Bool). was tile && b) (c.writers-now.ensures tile)) ∙ sym (c.both-still.ensures tile) ∙ c.is_empty.ensures c.if-is_empty.true tile)) in
    sym (ap (state_after grid now) empty)
