-- As many as are counted.
use Rattle.std.proofs.Common.{arith, sym, ap, ◌∙◌, length, length-take-le}
use Rattle.tis_clock.proofs.trace.Trace.len.Goals as goal

pub returns : goal.returns
returns c =
    let within = c.self.invariant in
    c.from.ensures ∙ sym (length-take-le c.self.inside.count c.self.inside.events (omega (arith, within.0, within.1))) ∙ ap length c.self.view_is
