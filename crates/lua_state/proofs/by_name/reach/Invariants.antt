use Rattle.std.proofs.Common.{◌≡◌, ℕ, ◌-◌, ◌+◌, get_or, length}
use Rattle.lua_state.proofs.by_name.reach.Given as goal

abbrev pub invariant-loop-table : goal.invariant-loop-table
invariant-loop-table l = (n : ℕ) → get_or l.table.items n 0 ≡ get_or l.initial.table.items n 0

abbrev pub decreases-loop-table : goal.decreases-loop-table
decreases-loop-table l = l.name + 1 - length l.table.items
