use Rattle.tis_report.proofs.Growing.{number_more}
use Rattle.net_rules.specs.Numbers.{numbered}
use Rattle.net_kahn.specs.Found.{net_in, streams_of}
use Rattle.tis_cli.specs.Nets.{stream_line}
use Rattle.tis_cli.proofs.nets.push_lines.Goals as goal

pub loop-position-preserved : goal.loop-position-preserved
loop-position-preserved c = number_more (stream_line (numbered (net_in c.args.found.now)) (streams_of c.args.found.now)) c.args.text.now.items c.loop-position.text.items c.push_line.new.text.items c.loop-position.position c.in_ok-push_line.ensures c.loop-position.invariant
