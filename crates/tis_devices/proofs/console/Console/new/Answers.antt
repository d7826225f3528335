use Rattle.std.proofs.Common.{ℕ, ◌*◌, ◌≤◌, arith}
use Rattle.std.proofs.lemmas.List.Elements.{All-replicate}
use Rattle.tis_devices.specs.Picture.{COLUMNS, ROWS, RED}
use Rattle.tis_devices.proofs.console.Console.new.Goals as goal

pub invariant_of-result : goal.invariant_of-result
invariant_of-result c = (tt, All-replicate (λ (colour : ℕ). colour ≤ RED) (COLUMNS * ROWS) 0 (omega arith))
