-- The node took part in none of the events so far.
use Rattle.std.proofs.Common.{◌≡◌, false, take}
use Rattle.std.specs.List.{list_any}
use Rattle.tis_debug.specs.Held.{takes_part}
use Rattle.tis_debug.proofs.stops.acts.Given as goal

abbrev pub invariant-loop-index : goal.invariant-loop-index
invariant-loop-index l = list_any (λ event. takes_part l.grid event l.tile.number) (take l.index l.trace) ≡ false
