use Rattle.std.proofs.Common.{refl, sym, ◌∙◌}
use Rattle.tis_cli.specs.Commands.{Network, Run, Order, Replay, Grade, kept_seeds, Debug}
use Rattle.tis_cli.proofs.Putting.{runs_end, finished}
use Rattle.tis_cli.proofs.Statuses.{never_put}
use Rattle.tis_cli.proofs.run.perform.Goals as goal

pub finish-requires : goal.finish-requires
finish-requires g c = runs_end (Network c.in-Net.net.now c.in-Net.grid.now) (g.S.Store.texts c.args.store.now) c.work_of_net.result c.work_of_net.ensures.runs

pub finish-requires-in-Run : goal.finish-requires-in-Run
finish-requires-in-Run g c = runs_end (Run c.in-Run.save.now c.in-Run.spec.now c.in-Run.seed c.in-Run.cycles) (g.S.Store.texts c.args.store.now) c.work_of_run.result c.work_of_run.ensures.runs

pub finish-requires-in-Order : goal.finish-requires-in-Order
finish-requires-in-Order g c = runs_end (Order c.in-Order.save.now c.in-Order.spec.now c.in-Order.seed c.in-Order.order_seed c.in-Order.limit) (g.S.Store.texts c.args.store.now) c.work_of_order.result c.work_of_order.ensures.runs

pub finish-requires-in-Replay : goal.finish-requires-in-Replay
finish-requires-in-Replay g c = runs_end (Replay c.in-Replay.save.now c.in-Replay.spec.now c.in-Replay.seed c.in-Replay.events.now) (g.S.Store.texts c.args.store.now) c.work_of_replay.result c.work_of_replay.ensures.runs

pub finish-requires-in-Grade : goal.finish-requires-in-Grade
finish-requires-in-Grade g c = runs_end (Grade c.in-Grade.save.now c.in-Grade.spec.now c.in-Grade.limit (kept_seeds c.in-Grade.seeds)) (g.S.Store.texts c.args.store.now) c.work_of_grade.result c.work_of_grade.ensures.runs

pub finish-requires-in-Debug : goal.finish-requires-in-Debug
finish-requires-in-Debug g c = runs_end (Debug c.in-Debug.save.now c.in-Debug.spec.now c.in-Debug.seed c.in-Debug.script.now) (g.S.Store.texts c.args.store.now) c.work_of_debug.result c.work_of_debug.ensures.runs

pub returns-in-Compile-clause-explains : goal.returns-in-Compile-clause-explains
returns-in-Compile-clause-explains g c = rw (c.status_of.ensures, c.in-Compile.is) (c.compile.ensures.explains (g.K.Sink.written c.args.out.now))

pub returns-in-Compile-clause-sink_fault_counted : goal.returns-in-Compile-clause-sink_fault_counted
returns-in-Compile-clause-sink_fault_counted g c failed =
    absurd (never_put c.in-Compile.net.now c.in-Compile.save.now _ _ _ _ (c.compile.ensures.explains (g.K.Sink.written c.args.out.now)) (sym c.status_of.ensures ∙ failed))

pub returns-in-Net-clause-explains : goal.returns-in-Net-clause-explains
returns-in-Net-clause-explains g c =
    rw c.in-Net.is
    (finished (Network c.in-Net.net.now c.in-Net.grid.now) refl (λ found bytes. tt) (g.S.Store.texts c.args.store.now) (g.S.Store.texts c.work_of_net.new.store) c.work_of_net.ensures.texts_stay
    c.work_of_net.result c.work_of_net.ensures.runs (g.K.Sink.written c.args.out.now) (g.K.Sink.written c.finish.new.out) c.finish.result c.finish.ensures.finishes)

pub returns-in-Run-clause-explains : goal.returns-in-Run-clause-explains
returns-in-Run-clause-explains g c =
    rw c.in-Run.is
    (finished (Run c.in-Run.save.now c.in-Run.spec.now c.in-Run.seed c.in-Run.cycles) refl (λ found bytes. tt) (g.S.Store.texts c.args.store.now) (g.S.Store.texts c.work_of_run.new.store) c.work_of_run.ensures.texts_stay
    c.work_of_run.result c.work_of_run.ensures.runs (g.K.Sink.written c.args.out.now) (g.K.Sink.written c.finish-in-Run.new.out) c.finish-in-Run.result c.finish-in-Run.ensures.finishes)

pub returns-in-Order-clause-explains : goal.returns-in-Order-clause-explains
returns-in-Order-clause-explains g c =
    rw c.in-Order.is
    (finished (Order c.in-Order.save.now c.in-Order.spec.now c.in-Order.seed c.in-Order.order_seed c.in-Order.limit) refl (λ found bytes. tt) (g.S.Store.texts c.args.store.now) (g.S.Store.texts c.work_of_order.new.store) c.work_of_order.ensures.texts_stay
    c.work_of_order.result c.work_of_order.ensures.runs (g.K.Sink.written c.args.out.now) (g.K.Sink.written c.finish-in-Order.new.out) c.finish-in-Order.result c.finish-in-Order.ensures.finishes)

pub returns-in-Replay-clause-explains : goal.returns-in-Replay-clause-explains
returns-in-Replay-clause-explains g c =
    rw c.in-Replay.is
    (finished (Replay c.in-Replay.save.now c.in-Replay.spec.now c.in-Replay.seed c.in-Replay.events.now) refl (λ found bytes. tt) (g.S.Store.texts c.args.store.now) (g.S.Store.texts c.work_of_replay.new.store) c.work_of_replay.ensures.texts_stay
    c.work_of_replay.result c.work_of_replay.ensures.runs (g.K.Sink.written c.args.out.now) (g.K.Sink.written c.finish-in-Replay.new.out) c.finish-in-Replay.result c.finish-in-Replay.ensures.finishes)

pub returns-in-Grade-clause-explains : goal.returns-in-Grade-clause-explains
returns-in-Grade-clause-explains g c =
    rw c.in-Grade.is
    (finished (Grade c.in-Grade.save.now c.in-Grade.spec.now c.in-Grade.limit (kept_seeds c.in-Grade.seeds)) refl (λ found bytes. tt) (g.S.Store.texts c.args.store.now) (g.S.Store.texts c.work_of_grade.new.store) c.work_of_grade.ensures.texts_stay
    c.work_of_grade.result c.work_of_grade.ensures.runs (g.K.Sink.written c.args.out.now) (g.K.Sink.written c.finish-in-Grade.new.out) c.finish-in-Grade.result c.finish-in-Grade.ensures.finishes)

pub returns-in-Debug-clause-explains : goal.returns-in-Debug-clause-explains
returns-in-Debug-clause-explains g c =
    rw c.in-Debug.is
    (finished (Debug c.in-Debug.save.now c.in-Debug.spec.now c.in-Debug.seed c.in-Debug.script.now) refl (λ found bytes. tt) (g.S.Store.texts c.args.store.now) (g.S.Store.texts c.work_of_debug.new.store) c.work_of_debug.ensures.texts_stay
    c.work_of_debug.result c.work_of_debug.ensures.runs (g.K.Sink.written c.args.out.now) (g.K.Sink.written c.finish-in-Debug.new.out) c.finish-in-Debug.result c.finish-in-Debug.ensures.finishes)
