-- It takes what comes.
use Rattle.std.proofs.Common.{◌∙◌}
use Rattle.tis_grid.specs.declared.event.Event.{Event}
use Rattle.tis_grid.specs.Events.{IsEnabled}
use Rattle.tis_grid.specs.HeldState.{HasRoom}
use Rattle.tis_clock.specs.Cycle.{reads_or_steps}
use Rattle.tis_clock.specs.Turns.{kept_at}
use Rattle.tis_clock.proofs.Room.{GivesNoOutput, if_chosen, reads_can, reads_give_none, no_room_asked, room_stays}
use Rattle.tis_clock.proofs.turns.read.Goals as goal

pub act-requires-clause-enabled : goal.act-requires-clause-enabled
act-requires-clause-enabled c =
    let here = c.args.state.now.state in
    if_chosen (λ (event : Event). IsEnabled c.args.grid.now here event) c.take-taken.result (reads_or_steps c.args.grid.now (kept_at c.args.writing.now) here c.args.tile.number) c.take-taken.ensures
    (reads_can c.args.grid.now (kept_at c.args.writing.now) here c.args.tile.number)

pub act-requires-clause-room : goal.act-requires-clause-room
act-requires-clause-room c =
    let here = c.args.state.now.state in
    if_chosen (λ (event : Event). HasRoom c.args.state.now.spares event) c.take-taken.result (reads_or_steps c.args.grid.now (kept_at c.args.writing.now) here c.args.tile.number) c.take-taken.ensures
    (λ event is. no_room_asked c.args.state.now.spares event (reads_give_none c.args.grid.now (kept_at c.args.writing.now) here c.args.tile.number event is))

pub returns-clause-spares : goal.returns-clause-spares
returns-clause-spares c =
    let here = c.args.state.now.state in
    let choice = reads_or_steps c.args.grid.now (kept_at c.args.writing.now) here c.args.tile.number in
    c.act.ensures.spares
    ∙ room_stays c.args.state.now.spares c.take-taken.result (if_chosen GivesNoOutput c.take-taken.result choice c.take-taken.ensures (reads_give_none c.args.grid.now (kept_at c.args.writing.now) here c.args.tile.number))
