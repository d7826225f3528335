use Rattle.std.proofs.Common.{◌≡◌, ℕ, ◌+◌, ◌<◌, ◌≤◌, false}
use Rattle.lua_store.specs.Rows.{is_free}
use Rattle.lua_store.proofs.row.raised.Given as goal

abbrev pub invariant-loop-n : goal.invariant-loop-n
invariant-loop-n l = (k : ℕ) → l.from ≤ k → k < l.n → is_free l.values.entries (k + 1) ≡ false
