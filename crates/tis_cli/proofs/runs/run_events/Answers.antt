use Rattle.std.proofs.Common.{Err, subst, arith}
use Rattle.tis_grid.specs.declared.running.OrderError.{OrderError}
use Rattle.tis_grid.specs.Running.{RunsOrder}
use Rattle.tis_grid.specs.Puzzle.{puzzle_of}
use Rattle.tis_grid_text.specs.EventsText.{events_of}
use Rattle.tis_cli.proofs.RunAnswers.{text_replayed, text_stopped}
use Rattle.tis_cli.proofs.runs.run_events.Goals as goal

pub returns-in-Ok : goal.returns-in-Ok
returns-in-Ok c =
    text_replayed c.args.grid.now (events_of c.args.text.now) c.in_ok-events.events.items c.deref.result.now c.in_ok-state.state.state c.run_order.new.state.state c.len.result (puzzle_of c.puzzle.result.now) c.in_ok-replayed_report-in-Ok.field-0.items
    c.in_ok-events.ensures c.deref.ensures.value c.in_ok-state.ensures.state c.in-Ok.ensures.runs (omega arith) c.puzzle.ensures.puzzle c.in_ok-replayed_report-in-Ok.ensures

pub returns-in-Err-NotEnabled : goal.returns-in-Err-NotEnabled
returns-in-Err-NotEnabled c =
    text_stopped c.args.grid.now (events_of c.args.text.now) c.in_ok-events.events.items c.deref.result.now c.in_ok-state.state.state c.run_order.new.state.state c.in-Err-NotEnabled.index (puzzle_of c.puzzle-in-Err-NotEnabled.result.now) c.in_ok-not_enabled_report-in-Err-NotEnabled.field-0.items
    c.in_ok-events.ensures c.deref.ensures.value c.in_ok-state.ensures.state (subst (λ (e : OrderError). RunsOrder c.args.grid.now c.in_ok-state.state.state c.deref.result.now (Err e) c.run_order.new.state.state) c.in-Err-NotEnabled.field-0-is c.in-Err-NotEnabled.ensures.runs) c.puzzle-in-Err-NotEnabled.ensures.puzzle c.in_ok-not_enabled_report-in-Err-NotEnabled.ensures
