-- A list that grows, as contracts see it.
use Rattle.std.specs.Prelude.{ℕ, ℤ, List}

-- the values, and how many more can be pushed without taking memory
pub record Values : Type 0 where
  pub items : List ℤ
  pub spare : ℕ
