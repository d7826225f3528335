use Rattle.net_tree.specs.View.{net_view}
use Rattle.net_column.proofs.compiling.compile.Goals as goal

pub programs_of-requires : goal.programs_of-requires
programs_of-requires c = c.read_networks_are_small.ensures c.args.text.now (net_view c.in_ok-net.net) c.in_ok-net.ensures
