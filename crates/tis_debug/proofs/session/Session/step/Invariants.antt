-- So many cycles were done, and one followed after each number before.
use Rattle.std.proofs.Common.{◌≡◌, ℕ, ◌<◌, false}
use Rattle.tis_debug.specs.Sessions.{moved, stands_still}
use Rattle.tis_debug.proofs.session.Session.step.Given as goal

abbrev pub invariant-loop-done : goal.invariant-loop-done
invariant-loop-done l = record {
  led : l.self ≡ moved l.fn.self l.done;
  before : (k : ℕ) → k < l.done → stands_still (moved l.fn.self k) ≡ false;
}
