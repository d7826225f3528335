use Rattle.std.proofs.Common.{map, subst}
use Rattle.tis_grid.specs.Puzzle.{input_of}
use Rattle.net_tree.specs.Tree.{Net}
use Rattle.net_rules.specs.Numbers.{numbered}
use Rattle.net_rules.specs.CheckedNet.{net_of}
use Rattle.net_kahn.specs.Found.{OpensLinks}
use Rattle.net_kahn.proofs.Outs.{all_found}
use Rattle.net_kahn.proofs.finding.streams.Goals as goal

pub returns : goal.returns
returns c =
    all_found (net_of c.args.net.now) (map input_of c.args.inputs.now) (record { net = c.net-2.result; links = c.in_ok-links-2.links }) c.in_ok-links.links.items c.net-2.ensures
    (subst (λ (n : Net). OpensLinks (numbered n) (map input_of c.args.inputs.now) c.in_ok-links.links.items) c.net.ensures c.in_ok-links.ensures) c.in_ok-links-2.ensures
