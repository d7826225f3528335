-- The first `while` of a body whose block doesn't surely read, found without putting the statements in order.
use Rattle.std.specs.Prelude.{◌≡◌, ℕ, [], Option, Some, None, option_map, min, if◌then◌else◌}
use Rattle.net_tree.specs.Tree.{Name, Statement, If, While, Count, Block, Empty, Then}
use Rattle.net_rules.specs.Rules.{loops_without_read, loop_fault, by_line, placed_in, LoopWithoutRead}

-- the lesser of two lines, where there are any
abbrev pub lesser : Option ℕ → Option ℕ → Option ℕ
lesser None other = other
lesser (Some n) None = Some n
lesser (Some n) (Some m) = Some (min n m)

-- the line of a statement, where it is such a `while`
abbrev pub own_loop : ℕ → Statement Name → Option ℕ
own_loop line statement = if loops_without_read statement then Some line else None

abbrev mutual
  -- the least line of such a `while` in a block, and in the blocks of a statement
  pub block_loop : Block Name → Option ℕ
  block_loop Empty = None
  block_loop (Then line statement rest) = lesser (own_loop line statement) (lesser (inner_loop statement) (block_loop rest))

  pub inner_loop : Statement Name → Option ℕ
  inner_loop (If var test first second) = lesser (block_loop first) (block_loop second)
  inner_loop (While var test body) = block_loop body
  inner_loop (Count var body) = block_loop body
  inner_loop _ = None

-- this is the line of the first such `while` of a body by line, whatever the number of its process
abbrev pub IsFirstLoop : Option ℕ → Block Name → Type 0
IsFirstLoop line body = (process : ℕ) → loop_fault (by_line (λ placed. placed.line) (placed_in process [] body)) ≡ option_map LoopWithoutRead line
