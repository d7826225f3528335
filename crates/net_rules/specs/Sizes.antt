-- How large a block is: what a walk through it is bounded by, and how many statements there are.
use Rattle.std.specs.Prelude.{ℕ, ◌+◌, ◌-◌, ◌^◌, min, sum_by}
use Rattle.net_tree.specs.Tree.{Statement, If, While, Count, Block, Empty, Then, ProcessText, Net}

abbrev mutual
  -- one more than the statements of a block, each with those of its blocks
  pub block_size : {N : Type 0} → Block N → ℕ
  block_size Empty = 1
  block_size (Then line statement rest) = statement_size statement + block_size rest

  pub statement_size : {N : Type 0} → Statement N → ℕ
  statement_size (If var test first second) = 1 + (block_size first + block_size second)
  statement_size (While var test body) = 1 + block_size body
  statement_size (Count var body) = 1 + block_size body
  statement_size _ = 1

abbrev mutual
  -- how many statements a block has, those of its inner blocks among them
  pub statements_in : {N : Type 0} → Block N → ℕ
  statements_in Empty = 0
  statements_in (Then line statement rest) = (1 + statements_inside statement) + statements_in rest

  pub statements_inside : {N : Type 0} → Statement N → ℕ
  statements_inside (If var test first second) = statements_in first + statements_in second
  statements_inside (While var test body) = statements_in body
  statements_inside (Count var body) = statements_in body
  statements_inside _ = 0

-- how many statements a network has
abbrev pub statement_count : Net → ℕ
statement_count net = sum_by (λ (process : ProcessText). statements_in process.body) net.processes

-- a count as 64 bits hold it: it stops at the greatest number
abbrev pub held_count : ℕ → ℕ
held_count count = min count (2 ^ 64 - 1)
