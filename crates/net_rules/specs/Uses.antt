-- What a statement and a block read, write and change.
use Rattle.std.specs.Prelude.{Bool, true, false, ◌||◌, ◌&&◌, List, [], ◌∷◌, ◌++◌, Option, Some, None}
use Rattle.net_tree.specs.declared.tree.Var.{Var}
use Rattle.net_tree.specs.declared.tree.Var.TheVariants.{X, Y}
use Rattle.net_tree.specs.Tree.{Statement, Get, GetAdd, GetSub, Put, PutNumber, Move, Set, Add, Sub, Neg, Double, Copy, Swap, If, While, Count, Block, Empty, Then}

-- the name that a statement reads by itself; what its blocks read is theirs
abbrev pub read_of : {N : Type 0} → Statement N → Option N
read_of (Get read var) = Some read
read_of (GetAdd read var) = Some read
read_of (GetSub read var) = Some read
read_of (Move read written) = Some read
read_of (Put written var) = None
read_of (PutNumber written number) = None
read_of (Set var number) = None
read_of (Add var number) = None
read_of (Sub var number) = None
read_of (Neg var) = None
read_of (Double var) = None
read_of (Copy to from) = None
read_of Swap = None
read_of (If var test first second) = None
read_of (While var test body) = None
read_of (Count var body) = None

-- the name that a statement writes by itself
abbrev pub written_of : {N : Type 0} → Statement N → Option N
written_of (Put written var) = Some written
written_of (PutNumber written number) = Some written
written_of (Move read written) = Some written
written_of (Get read var) = None
written_of (GetAdd read var) = None
written_of (GetSub read var) = None
written_of (Set var number) = None
written_of (Add var number) = None
written_of (Sub var number) = None
written_of (Neg var) = None
written_of (Double var) = None
written_of (Copy to from) = None
written_of Swap = None
written_of (If var test first second) = None
written_of (While var test body) = None
written_of (Count var body) = None

-- a list of one element, or of none
abbrev pub as_list : {N : Type 0} → Option N → List N
as_list None = []
as_list (Some name) = name ∷ []

abbrev mutual
  -- the names that a block reads, those of its inner blocks among them, as often as they stand there
  pub reads_in : {N : Type 0} → Block N → List N
  reads_in Empty = []
  reads_in (Then line statement rest) = as_list (read_of statement) ++ (reads_inside statement ++ reads_in rest)

  pub reads_inside : {N : Type 0} → Statement N → List N
  reads_inside (If var test first second) = reads_in first ++ reads_in second
  reads_inside (While var test body) = reads_in body
  reads_inside (Count var body) = reads_in body
  reads_inside _ = []

abbrev mutual
  -- the names that a block writes
  pub writes_in : {N : Type 0} → Block N → List N
  writes_in Empty = []
  writes_in (Then line statement rest) = as_list (written_of statement) ++ (writes_inside statement ++ writes_in rest)

  pub writes_inside : {N : Type 0} → Statement N → List N
  writes_inside (If var test first second) = writes_in first ++ writes_in second
  writes_inside (While var test body) = writes_in body
  writes_inside (Count var body) = writes_in body
  writes_inside _ = []

-- ---- variables

abbrev pub is_same_var : Var → Var → Bool
is_same_var X X = true
is_same_var Y Y = true
is_same_var X Y = false
is_same_var Y X = false

-- whether a statement changes a variable by itself, by its form alone: a sum with 0 changes it too. An `if` and a `while` change none
abbrev pub changes : {N : Type 0} → Var → Statement N → Bool
changes counter (Get read var) = is_same_var counter var
changes counter (GetAdd read var) = is_same_var counter var
changes counter (GetSub read var) = is_same_var counter var
changes counter (Put written var) = false
changes counter (PutNumber written number) = false
changes counter (Move read written) = false
changes counter (Set var number) = is_same_var counter var
changes counter (Add var number) = is_same_var counter var
changes counter (Sub var number) = is_same_var counter var
changes counter (Neg var) = is_same_var counter var
changes counter (Double var) = is_same_var counter var
changes counter (Copy to from) = is_same_var counter to
changes counter Swap = true
changes counter (If var test first second) = false
changes counter (While var test body) = false
changes counter (Count var body) = is_same_var counter var

-- ---- sure reads

-- whether a statement has a read of its own
abbrev pub reads_itself : {N : Type 0} → Statement N → Bool
reads_itself (Get read var) = true
reads_itself (GetAdd read var) = true
reads_itself (GetSub read var) = true
reads_itself (Move read written) = true
reads_itself _ = false

abbrev mutual
  -- whether a block reads whichever way it goes: one of its statements is a read, or an `if` both of whose blocks surely read
  pub surely_reads : {N : Type 0} → Block N → Bool
  surely_reads Empty = false
  surely_reads (Then line statement rest) = (reads_itself statement || reads_either_way statement) || surely_reads rest

  pub reads_either_way : {N : Type 0} → Statement N → Bool
  reads_either_way (If var test first second) = surely_reads first && surely_reads second
  reads_either_way _ = false
