-- The numbers that a body writes.
use Rattle.std.specs.Prelude.{ℕ, ◌<◌}
use Rattle.net_tree.specs.Tree.{Statement, Put, PutNumber, Move, If, While, Count, Block, Empty, Then}

abbrev mutual
  -- what a block writes has a number below this one
  pub WritesBelow : ℕ → Block ℕ → Type 0
  WritesBelow count Empty = Unit {0}
  WritesBelow count (Then line statement rest) = StatementWritesBelow count statement × WritesBelow count rest

  pub StatementWritesBelow : ℕ → Statement ℕ → Type 0
  StatementWritesBelow count (Put written var) = written < count
  StatementWritesBelow count (PutNumber written number) = written < count
  StatementWritesBelow count (Move read written) = written < count
  StatementWritesBelow count (If var test first second) = WritesBelow count first × WritesBelow count second
  StatementWritesBelow count (While var test body) = WritesBelow count body
  StatementWritesBelow count (Count var body) = WritesBelow count body
  StatementWritesBelow count _ = Unit {0}
