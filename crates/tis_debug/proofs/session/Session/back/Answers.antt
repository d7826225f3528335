-- The state before the last cycles is back.
use Rattle.std.proofs.Common.{◌≡◌, ℕ, ◌-◌, ◌≤◌, length, take, Some, slice_get, ap, subst, ◌∙◌, arith}
use Rattle.circular_buffer.specs.Buffer.{buffer}
use Rattle.tis_debug.specs.Held.{returned_where}
use Rattle.tis_debug.proofs.Standing.{can_return, returns, stands_earlier}
use Rattle.tis_debug.proofs.session.Session.back.Goals as goal

pub bring_back-requires : goal.bring_back-requires
bring_back-requires c = λ point found.
    let points = c.self.inside.points in
    let less : c.args.count ≤ length points.items = omega (arith, c.if-kept-count.false, c.len-kept.ensures.len) in
    can_return c.self.inside.grid.now c.self.inside.state c.self.inside.state c.self.inside.cycle points points c.self.invariant c.args.count less point
    (subst (λ (n : ℕ). slice_get points.items (n - c.args.count) ≡ Some point) c.len-kept.ensures.len found)

pub invariant_of-self : goal.invariant_of-self
invariant_of-self c =
    let points = c.self.inside.points in
    let less : c.args.count ≤ length points.items = omega (arith, c.if-kept-count.false, c.len-kept.ensures.len) in
    stands_earlier c.self.inside.grid.now c.self.inside.state c.bring_back.new.state c.self.inside.cycle points c.truncate_back.new.self c.self.invariant c.args.count less
    (c.truncate_back.ensures ∙ ap (λ (n : ℕ). buffer (take (n - c.args.count) points.items) points.capacity) c.len-kept.ensures.len)
    (c.bring_back.ensures ∙ ap (λ (n : ℕ). returned_where (slice_get points.items (n - c.args.count)) c.self.inside.state.state) c.len-kept.ensures.len
    ∙ returns c.self.inside.grid.now c.self.inside.state c.self.inside.state c.self.inside.cycle points points c.self.invariant c.args.count less)
