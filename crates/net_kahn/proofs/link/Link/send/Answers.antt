use Rattle.std.proofs.Common.{refl}
use Rattle.net_kahn.proofs.LinkReads.{on_ok, sends_one}
use Rattle.net_kahn.proofs.link.Link.send.Goals as goal

pub returns : goal.returns
returns c =
    on_ok c.push.result c.push.ensures.ok
    (λ pushed. sends_one c.args.process c.args.self.now c.open.new.self c.open.ensures.same c.open.ensures.opened c.args.value (record c.open.new.self { sent = c.push.new.self }) c.get.ensures.held refl refl refl refl refl pushed)
