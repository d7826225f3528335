-- A sink in memory, as contracts see it.
use Rattle.std.specs.Prelude.{ℕ, ℤ, List}

-- the bytes that were written, the numbers of the calls that it fails, and how many calls and faults there were
pub record Output : Type 0 where
  pub written : List ℕ
  pub failing : List ℤ
  pub calls : ℕ
  pub faults : ℕ
