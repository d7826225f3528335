use Rattle.std.proofs.Common.{◌≡◌, ◌+◌, drop}
use Rattle.net_rules.specs.Numbers.{numbered, readable_count}
use Rattle.net_kahn.specs.Found.{net_in, streams_of, out_from}
use Rattle.net_kahn.proofs.finding.KahnStreams.out.Given as goal

abbrev pub invariant-outputs : goal.invariant-outputs
invariant-outputs l =
    out_from (readable_count (numbered (net_in l.self)) + l.index) (drop l.index (numbered (net_in l.self)).outputs) (streams_of l.self) l.position ≡ out_from (readable_count (numbered (net_in l.self))) (numbered (net_in l.self)).outputs (streams_of l.self) l.position
