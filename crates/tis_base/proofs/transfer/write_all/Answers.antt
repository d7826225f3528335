use Rattle.std.proofs.Common.{◌++◌, take, arith}
use Rattle.std.proofs.lemmas.Grind.{common_steps}
use Rattle.tis_base.proofs.Writes.{Appends-append}
use Rattle.tis_base.proofs.transfer.write_all.Goals as goal

pub loop-preserved : goal.loop-preserved
loop-preserved g c =
    let held = c.loop.invariant in
    (held.0 ++ take c.in_ok-count.count c.loop.rest.now, grind (arith, common_steps, held.1), Appends-append _ _ _ _ _ held.2 c.in_ok-count.ensures.writes)
