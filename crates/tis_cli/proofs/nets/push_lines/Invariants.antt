-- The lines so far are written.
use Rattle.std.proofs.Common.{◌≡◌, ◌++◌}
use Rattle.std.specs.Prelude.{flat_map}
use Rattle.std.specs.List.{range_with_len}
use Rattle.net_rules.specs.Numbers.{numbered}
use Rattle.net_kahn.specs.Found.{net_in, streams_of}
use Rattle.tis_cli.specs.Nets.{stream_line}
use Rattle.tis_cli.proofs.nets.push_lines.Given as goal

abbrev pub invariant-loop-position : goal.invariant-loop-position
invariant-loop-position l = l.text.items ≡ l.fn.text.items ++ flat_map (stream_line (numbered (net_in l.found)) (streams_of l.found)) (range_with_len 0 l.position)
