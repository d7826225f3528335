use Rattle.net_kahn.proofs.Opening.{given_here}
use Rattle.net_kahn.proofs.finding.given_at.Goals as goal

pub returns-then-input-position : goal.returns-then-input-position
returns-then-input-position c = given_here c.args.inputs.now c.loop-input.input-index c.input-item.result c.args.position c.loop-input-test.true c.input-item.is c.if-input-position.true c.loop-input.invariant
