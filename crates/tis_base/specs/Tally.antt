-- What a store counts.
use Rattle.std.specs.Prelude.{ℕ}

-- how often the store failed, and how often a name wasn't there
pub record Tally : Type 0 where
  pub faults : ℕ
  pub misses : ℕ
