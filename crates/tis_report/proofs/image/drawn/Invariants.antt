-- The values so far are drawn.
use Rattle.std.proofs.Common.{◌≡◌, take}
use Rattle.tis_devices.specs.Picture.{picture}
use Rattle.tis_report.proofs.image.drawn.Given as goal

abbrev pub invariant-loop-index : goal.invariant-loop-index
invariant-loop-index l = l.console ≡ picture (take l.index l.values.items)
