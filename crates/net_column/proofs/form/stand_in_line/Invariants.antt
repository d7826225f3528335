use Rattle.std.proofs.Common.{◌≡◌, ◌+◌, ◌*◌, drop}
use Rattle.net_rules.specs.Numbers.{numbered}
use Rattle.net_rules.specs.CheckedNet.{net_of}
use Rattle.net_column.specs.Column.{stand_in_line}
use Rattle.net_column.proofs.form.stand_in_line.Given as goal

abbrev pub invariant-processes : goal.invariant-processes
invariant-processes l =
    stand_in_line 0 l.position (net_of l.net).processes (numbered (net_of l.net)).processes ≡ stand_in_line l.index (l.position + 4 * l.index) (drop l.index (net_of l.net).processes) (drop l.index (numbered (net_of l.net)).processes)
