use Rattle.std.proofs.Common.{List, map, take, ◌+◌, sym, subst, ◌∙◌}
use Rattle.tis_grid.specs.Puzzle.{input_of, values_at}
use Rattle.net_tree.specs.declared.tree.PortLine.{PortLine}
use Rattle.net_kahn.specs.declared.link.Link.{Link}
use Rattle.net_kahn.specs.Found.{AreOpened}
use Rattle.net_kahn.proofs.Opening.{opens_input}
use Rattle.net_kahn.proofs.finding.input_links.Goals as goal

pub inputs-preserved : goal.inputs-preserved
inputs-preserved c =
    subst (λ (l : List Link). AreOpened l (map (λ (p : PortLine). values_at (map input_of c.args.inputs.now) p.position) (take (c.inputs.port-index + 1) c.args.ports.now))) (sym c.in_ok-push.ensures.items)
    (opens_input c.args.ports.now c.inputs.port-index c.port-item.result (map input_of c.args.inputs.now) c.inputs.links.items c.new.result c.inputs-test.true c.port-item.is c.inputs.invariant c.new.ensures.link
    (c.new.ensures.list ∙ c.given_at.ensures) (c.new.ensures.given ∙ c.given_at.ensures))
