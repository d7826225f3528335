-- No tile so far stops the session.
use Rattle.std.proofs.Common.{◌≡◌, ℕ, ◌<◌, false}
use Rattle.std.specs.Prelude.{◌&&◌}
use Rattle.tis_debug.specs.Sessions.{is_at_mark, has_acted}
use Rattle.tis_debug.proofs.session.Session.stopping_tile.Given as goal

abbrev pub invariant-loop-number : goal.invariant-loop-number
invariant-loop-number l = (k : ℕ) → k < l.number → (is_at_mark l.self k && has_acted l.self k) ≡ false
