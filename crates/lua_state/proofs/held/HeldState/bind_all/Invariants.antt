use Rattle.std.proofs.Common.{◌≡◌, drop}
use Rattle.lua_state.specs.Held.{IsSound, store_of}
use Rattle.lua_state.specs.Calls.{bound}
use Rattle.lua_state.specs.Store.{parts}
use Rattle.lua_state.proofs.held.HeldState.bind_all.Given as goal

abbrev pub invariant-loop-index : goal.invariant-loop-index
invariant-loop-index l = record {
  sound : IsSound l.self;
  same : parts l.count (store_of l.self) ≡ parts l.count (store_of l.initial.self);
  behind : bound (drop l.index l.params) (drop l.index (parts l.count (store_of l.initial.self))) (store_of l.self) ≡ bound l.params (parts l.count (store_of l.initial.self)) (store_of l.initial.self);
}
