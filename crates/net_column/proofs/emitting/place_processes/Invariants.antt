use Rattle.std.proofs.Common.{◌≡◌, drop}
use Rattle.net_rules.specs.Numbers.{numbered}
use Rattle.net_rules.specs.CheckedNet.{net_of}
use Rattle.net_column.specs.Emission.{with_processes}
use Rattle.net_column.proofs.emitting.place_processes.Given as goal

abbrev pub invariant-processes : goal.invariant-processes
invariant-processes l =
    record {
      tiles : l.programs.tiles ≡ l.initial.programs.tiles;
      same : with_processes 0 (net_of l.net).processes (numbered (net_of l.net)).processes l.initial.programs.programs ≡ with_processes l.index (drop l.index (net_of l.net).processes) (drop l.index (numbered (net_of l.net)).processes) l.programs.programs;
    }
