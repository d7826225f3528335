use Rattle.std.proofs.Common.{◌≡◌, ◌++◌, reverse, length}
use Rattle.lua_frames.proofs.machine.Machine.put_pending.Given as goal

abbrev pub invariant-pending : goal.invariant-pending
invariant-pending l = record {
  all : l.self.pending.items ++ reverse l.self.frames.items ≡ l.initial.self.pending.items ++ reverse l.initial.self.frames.items;
  state : l.self.state ≡ l.initial.self.state;
  at : l.self.at ≡ l.initial.self.at;
  calls : l.self.calls ≡ l.initial.self.calls;
  units : l.self.units ≡ l.initial.self.units;
}

abbrev pub decreases-pending : goal.decreases-pending
decreases-pending l = length l.self.pending.items
