-- It steps, or takes what comes.
use Rattle.std.proofs.Common.{◌≡◌, false, sym, ap, ◌∙◌}
use Rattle.tis_node.specs.Intents.{is_local}
use Rattle.tis_grid.specs.declared.event.Event.{Event}
use Rattle.tis_grid.specs.declared.event.Event.TheVariants.{Local}
use Rattle.tis_grid.specs.State.{State}
use Rattle.tis_grid.specs.Events.{is_enabled, is_waiting}
use Rattle.tis_clock.specs.Cycle.{reads_or_steps, state_after}
use Rattle.tis_clock.specs.Turns.{kept_at, acts}
use Rattle.tis_clock.proofs.Intended.{not_true, steps}
use Rattle.tis_clock.proofs.turns.read_or_step.Goals as goal

pub read-taken-requires-clause-local : goal.read-taken-requires-clause-local
read-taken-requires-clause-local c =
    let not_local : is_local c.advance-intent.result ≡ false = sym c.is_local.ensures ∙ c.if-is_local.false in
    ap (λ (s : State). is_enabled c.args.grid.now s (Local c.args.tile)) (c.advance-intent.ensures.stays (not_true (is_local c.advance-intent.result) not_local)) ∙ c.advance-intent.ensures.local ∙ not_local

pub read-taken-requires-clause-takes : goal.read-taken-requires-clause-takes
read-taken-requires-clause-takes c =
    let not_local : is_local c.advance-intent.result ≡ false = sym c.is_local.ensures ∙ c.if-is_local.false in
    λ dir. ap (λ (s : State). is_waiting c.args.grid.now s c.args.tile.number dir) (c.advance-intent.ensures.stays (not_true (is_local c.advance-intent.result) not_local)) ∙ c.advance-intent.ensures.takes dir

pub returns-then-is_local-clause-chosen : goal.returns-then-is_local-clause-chosen
returns-then-is_local-clause-chosen c =
    steps c.args.grid.now c.puzzle.ensures.grid c.args.state.now.state (kept_at c.args.writing.now) c.args.tile.number c.requires.there c.requires.ready
    (c.advance-intent.ensures.local ∙ sym c.is_local.ensures ∙ c.if-is_local.true)

pub returns-in-None-clause-chosen : goal.returns-in-None-clause-chosen
returns-in-None-clause-chosen c =
    let not_local : is_local c.advance-intent.result ≡ false = sym c.is_local.ensures ∙ c.if-is_local.false in
    c.read-taken.ensures.chosen ∙ ap (λ (s : State). reads_or_steps c.args.grid.now (kept_at c.args.writing.now) s c.args.tile.number) (c.advance-intent.ensures.stays (not_true (is_local c.advance-intent.result) not_local))

pub returns-in_default-clause-chosen : goal.returns-in_default-clause-chosen
returns-in_default-clause-chosen c =
    let not_local : is_local c.advance-intent.result ≡ false = sym c.is_local.ensures ∙ c.if-is_local.false in
    c.read-taken.ensures.chosen ∙ ap (λ (s : State). reads_or_steps c.args.grid.now (kept_at c.args.writing.now) s c.args.tile.number) (c.advance-intent.ensures.stays (not_true (is_local c.advance-intent.result) not_local))

pub returns-in-None-clause-state : goal.returns-in-None-clause-state
returns-in-None-clause-state c =
    let not_local : is_local c.advance-intent.result ≡ false = sym c.is_local.ensures ∙ c.if-is_local.false in
    c.read-taken.ensures.state ∙ ap (λ (s : State). state_after c.args.grid.now s (acts c.read-taken.result)) (c.advance-intent.ensures.stays (not_true (is_local c.advance-intent.result) not_local))

pub returns-in_default-clause-state : goal.returns-in_default-clause-state
returns-in_default-clause-state c =
    let not_local : is_local c.advance-intent.result ≡ false = sym c.is_local.ensures ∙ c.if-is_local.false in
    c.read-taken.ensures.state ∙ ap (λ (s : State). state_after c.args.grid.now s (acts c.read-taken.result)) (c.advance-intent.ensures.stays (not_true (is_local c.advance-intent.result) not_local))
