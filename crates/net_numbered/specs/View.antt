-- What contracts see of the body of a process whose names are numbers: the plain tree.
use Rattle.std.specs.Prelude.{ℕ, List, [], ◌∷◌}
use Rattle.net_numbered.specs.declared.tree.NumberedStatement as held
use Rattle.net_numbered.specs.declared.tree.NumberedStatement.TheOpen as level
use Rattle.net_numbered.specs.declared.tree.NumberedStatement.TheFolds as folds
use Rattle.net_numbered.specs.declared.tree.NumberedBlock as held_block
use Rattle.net_tree.specs.Tree.{Statement, Get, GetAdd, GetSub, Put, PutNumber, Move, Set, Add, Sub, Neg, Double, Copy, Swap, If, While, Count, Block, Empty, Then}

-- a statement with the number of its line
abbrev pub Lined : Type 0
Lined = ℕ × Statement ℕ

-- the block of these statements
abbrev pub block_of : List Lined → Block ℕ
block_of [] = Empty
block_of (first ∷ others) = Then first.0 first.1 (block_of others)

-- one level of a statement, of a block and of a statement with its line, where what they hold is seen already
abbrev pub statement_level : level.NumberedStatement-F (Statement ℕ) (Block ℕ) Lined → Statement ℕ
statement_level (level.Get read var) = Get read var
statement_level (level.GetAdd read var) = GetAdd read var
statement_level (level.GetSub read var) = GetSub read var
statement_level (level.Put written var) = Put written var
statement_level (level.PutNumber written number) = PutNumber written number
statement_level (level.Move read written) = Move read written
statement_level (level.Set var number) = Set var number
statement_level (level.Add var number) = Add var number
statement_level (level.Sub var number) = Sub var number
statement_level (level.Neg var) = Neg var
statement_level (level.Double var) = Double var
statement_level (level.Copy to from) = Copy to from
statement_level level.Swap = Swap
statement_level (level.If var test first second) = If var test first second
statement_level (level.While var test body) = While var test body
statement_level (level.Count var body) = Count var body

abbrev pub block_level : level.NumberedBlock-F (Statement ℕ) (Block ℕ) Lined → Block ℕ
block_level block = block_of block.statements

abbrev pub lined_level : level.StatementOnLine-F (Statement ℕ) (Block ℕ) Lined → Lined
lined_level lined = (lined.line, lined.statement)

-- a statement as it is held
abbrev pub numbered_statement : held.NumberedStatement → Statement ℕ
numbered_statement = folds.fold-NumberedStatement (Statement ℕ) (Block ℕ) Lined statement_level block_level lined_level

-- a block as it is held
abbrev pub numbered_block : held_block.NumberedBlock → Block ℕ
numbered_block = folds.fold-NumberedBlock (Statement ℕ) (Block ℕ) Lined statement_level block_level lined_level
