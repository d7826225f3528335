-- Why a text is no network.
use Rattle.std.specs.Prelude.{ℕ}

-- why a text is no network, with the number of a line
pub data NetRefusal : Type 0 where
  BadLine : (line : ℕ) → NetRefusal
  TooDeep : (line : ℕ) → NetRefusal
  StrayEnd : (line : ℕ) → NetRefusal
  Unclosed : (line : ℕ) → NetRefusal
