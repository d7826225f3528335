-- So many cycles were done, the call stopped after no number before, and no node stops it here.
use Rattle.std.proofs.Common.{◌≡◌, ℕ, ◌<◌, None}
use Rattle.tis_debug.specs.Sessions.{moved, stop_after, break_after}
use Rattle.tis_debug.proofs.session.Session.go.Given as goal

abbrev pub invariant-loop-done : goal.invariant-loop-done
invariant-loop-done l = record {
  led : l.self ≡ moved l.fn.self l.done;
  before : (k : ℕ) → k < l.done → stop_after l.fn.self k ≡ None;
  here : break_after l.fn.self l.done ≡ None;
}
