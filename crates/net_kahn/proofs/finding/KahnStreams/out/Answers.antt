use Rattle.std.proofs.Common.{◌+◌, ◌<◌, length, arith}
use Rattle.net_kahn.proofs.Outs.{out_here, out_passed}
use Rattle.net_kahn.proofs.finding.KahnStreams.out.Goals as goal

pub returns-then-index-position : goal.returns-then-index-position
returns-then-index-position c =
    let within : c.outputs.index < length c.args.self.now.net.now.outputs.items = omega (arith, c.outputs-test.true, c.len-index-end.ensures) in
    out_here c.args.self.now c.args.position c.outputs.index c.index.result.now within c.index.ensures (c.len.result + c.len-2.result + c.outputs.index) c.index-then-index-position.result.now c.requires (omega (arith, c.len.ensures, c.len-2.ensures)) c.index-then-index-position.ensures c.if-index-position.true c.outputs.invariant

pub outputs-preserved : goal.outputs-preserved
outputs-preserved c =
    let within : c.outputs.index < length c.args.self.now.net.now.outputs.items = omega (arith, c.outputs-test.true, c.len-index-end.ensures) in
    out_passed c.args.self.now c.args.position c.outputs.index c.index.result.now within c.index.ensures c.if-index-position.false c.outputs.invariant
