use Rattle.net_tree.specs.Tree.{Empty}
use Rattle.net_rules.specs.CheckedNet.{net_of}
use Rattle.net_select.specs.HeldPorts.{ports_of}
use Rattle.net_select.specs.Selects.{body_of}
use Rattle.net_column.proofs.Emitted.{known, no_process, selects}
use Rattle.net_column.proofs.emitting.program_of.Goals as goal

pub unwrap-requires : goal.unwrap-requires
unwrap-requires c =
    selects c.select.result (ports_of c.column_ports.result) (body_of c.args.net.now c.args.process) c.lines_are_told.ensures
    (known (net_of c.args.net.now) c.requires.column c.args.process no_process Empty c.requires.within).short c.select.ensures.code
