use Rattle.std.proofs.Common.{◌≡◌, List, length, map, ◌+◌, ◌++◌, sym, subst, arith}
use Rattle.tis_grid.specs.Puzzle.{input_of, values_at}
use Rattle.net_tree.specs.declared.tree.PortLine.{PortLine}
use Rattle.net_kahn.specs.declared.link.Link.{Link}
use Rattle.net_kahn.specs.Found.{AreOpened}
use Rattle.net_kahn.proofs.Opening.{empties, opens_empty, net_opened}
use Rattle.net_kahn.proofs.finding.open_links.Goals as goal

pub others-preserved : goal.others-preserved
others-preserved c =
    let values = map (λ (p : PortLine). values_at (map input_of c.args.inputs.now) p.position) c.args.net.now.inputs.items in
    subst (λ (l : List Link). AreOpened l (values ++ empties (c.others._other + 1))) (sym c.in_ok-push.ensures.items)
    (opens_empty c.others.links.items values c.new.result c.others._other c.others.invariant c.new.ensures.link c.new.ensures.list c.new.ensures.given)

pub returns : goal.returns
returns c =
    let count : c.others._other ≡ length c.args.net.now.channels.items + length c.args.net.now.outputs.items + 1 = omega (arith, c.others-test.false, c.others.auto._other-end, c.len.ensures, c.len-2.ensures) in
    net_opened c.args.net.now (map input_of c.args.inputs.now) c.others.links.items c.others._other count c.others.invariant
