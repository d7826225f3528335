use Rattle.tis_cli.proofs.Fetching.{net_runs}
use Rattle.tis_cli.proofs.run.work_of_net.Goals as goal

pub returns-clause-runs : goal.returns-clause-runs
returns-clause-runs g c =
    net_runs (g.S.Store.texts c.args.store.now) (g.S.Store.texts c.fetch.new.self) c.args.net.now c.args.grid.now c.in_ok-text.text.items c.in_ok-given.given.items c.deref.result.now c.deref-2.result.now c.net.result
    c.in_ok-text.ensures.texts_stay c.in_ok-text.ensures.ok c.in_ok-given.ensures.ok c.deref.ensures.value c.deref-2.ensures.value c.net.ensures
