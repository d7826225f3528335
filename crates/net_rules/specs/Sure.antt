-- What holds of the body of an accepted process whose numbers are values, statement by statement.
use Rattle.std.specs.Prelude.{◌≡◌, Bool, true, false, ◌||◌}
use Rattle.tis_base.specs.Saturation.{IsValue}
use Rattle.net_tree.specs.declared.tree.Var.{Var}
use Rattle.net_tree.specs.Tree.{Statement, Get, GetAdd, GetSub, Put, PutNumber, Move, Set, Add, Sub, Neg, Double, Copy, Swap, If, While, Count, Block, Empty, Then}
use Rattle.net_rules.specs.Uses.{changes, surely_reads}

abbrev mutual
  -- whether a statement in a block, however deep, changes a variable
  pub changes_in : {N : Type 0} → Var → Block N → Bool
  changes_in var Empty = false
  changes_in var (Then line statement rest) = (changes var statement || changes_inside var statement) || changes_in var rest

  pub changes_inside : {N : Type 0} → Var → Statement N → Bool
  changes_inside var (If v test first second) = changes_in var first || changes_in var second
  changes_inside var (While v test body) = changes_in var body
  changes_inside var (Count v body) = changes_in var body
  changes_inside var _ = false

abbrev mutual
  -- the numbers in a block are values of the machine, what it reads can be read, a turn of each `while` reads, and no `count` has its variable changed inside
  pub IsSureBlock : {N : Type 0} → (N → Type 0) → Block N → Type 0
  IsSureBlock CanRead Empty = Unit {0}
  IsSureBlock CanRead (Then line statement rest) = IsSure CanRead statement × IsSureBlock CanRead rest

  pub IsSure : {N : Type 0} → (N → Type 0) → Statement N → Type 0
  IsSure CanRead (Get read var) = CanRead read
  IsSure CanRead (GetAdd read var) = CanRead read
  IsSure CanRead (GetSub read var) = CanRead read
  IsSure CanRead (Put written var) = Unit {0}
  IsSure CanRead (PutNumber written number) = IsValue number
  IsSure CanRead (Move read written) = CanRead read
  IsSure CanRead (Set var number) = IsValue number
  IsSure CanRead (Add var number) = IsValue number
  IsSure CanRead (Sub var number) = IsValue number
  IsSure CanRead (Neg var) = Unit {0}
  IsSure CanRead (Double var) = Unit {0}
  IsSure CanRead (Copy to from) = Unit {0}
  IsSure CanRead Swap = Unit {0}
  IsSure CanRead (If var test first second) = IsSureBlock CanRead first × IsSureBlock CanRead second
  IsSure CanRead (While var test body) = (surely_reads body ≡ true) × IsSureBlock CanRead body
  IsSure CanRead (Count var body) = (changes_in var body ≡ false) × IsSureBlock CanRead body

abbrev mutual
  -- the numbers in a block are values of the machine
  pub HasValues : {N : Type 0} → Block N → Type 0
  HasValues Empty = Unit {0}
  HasValues (Then line statement rest) = StatementHasValues statement × HasValues rest

  pub StatementHasValues : {N : Type 0} → Statement N → Type 0
  StatementHasValues (PutNumber written number) = IsValue number
  StatementHasValues (Set var number) = IsValue number
  StatementHasValues (Add var number) = IsValue number
  StatementHasValues (Sub var number) = IsValue number
  StatementHasValues (If var test first second) = HasValues first × HasValues second
  StatementHasValues (While var test body) = HasValues body
  StatementHasValues (Count var body) = HasValues body
  StatementHasValues _ = Unit {0}
