-- What is left of the inputs so far is written.
use Rattle.std.proofs.Common.{◌≡◌, ◌++◌}
use Rattle.std.specs.Prelude.{flat_map}
use Rattle.std.specs.List.{range_with_len}
use Rattle.tis_debug.specs.Shown.{left_text}
use Rattle.tis_debug.proofs.show.push_inputs.Given as goal

abbrev pub invariant-loop-position : goal.invariant-loop-position
invariant-loop-position l = l.out.items ≡ l.fn.out.items ++ flat_map (left_text l.state.state) (range_with_len 0 l.position)
