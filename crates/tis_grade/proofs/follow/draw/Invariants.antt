-- The values so far are drawn.
use Rattle.std.proofs.Common.{◌≡◌, take}
use Rattle.tis_devices.specs.Picture.{picture}
use Rattle.tis_grade.specs.Following.{differences}
use Rattle.tis_grade.proofs.follow.draw.Given as goal

abbrev pub invariant-loop-index : goal.invariant-loop-index
invariant-loop-index l =
    record {
      drawn : l.console ≡ picture (take l.index l.taken.items);
      counted : l.differing ≡ differences l.wanted.items l.console.colours;
    }
