-- The statements of a network as the rules look at them: what each reads, writes and changes, found without putting them in order.
use Rattle.std.specs.Prelude.{ℕ, ◌+◌, Bool, false, ◌||◌, ◌&&◌, List, [], ◌∷◌, ◌++◌, Option, option_map}
use Rattle.net_tree.specs.declared.tree.Var.TheVariants.{X, Y}
use Rattle.net_tree.specs.Tree.{Name, Statement, If, While, Count, Block, Empty, Then, ProcessText}
use Rattle.net_rules.specs.declared.statements.Use as held
use Rattle.net_rules.specs.Uses.{read_of, written_of, is_same_var, changes}

-- the line of a statement, the number of its process, the names that it reads and writes, and whether it changes a variable that a `count` around it counts
pub record Use : Type 0 where
  pub line : ℕ
  pub process : ℕ
  pub read : Option Name
  pub written : Option Name
  pub changes : Bool

-- a statement as the code holds it
abbrev pub use_view : held.Use → Use
use_view found = record { line = found.line; process = found.process; read = option_map (λ name. name.now) found.read; written = option_map (λ name. name.now) found.written; changes = found.changes }

-- whether a statement changes x where that is counted, or y where that is
abbrev pub changes_counted : Bool → Bool → Statement Name → Bool
changes_counted in_x in_y statement = (in_x && changes X statement) || (in_y && changes Y statement)

abbrev pub use_of : ℕ → Bool → Bool → ℕ → Statement Name → Use
use_of process in_x in_y line statement = record { line = line; process = process; read = read_of statement; written = written_of statement; changes = changes_counted in_x in_y statement }

abbrev mutual
  -- the statements of a block, each before those in its blocks, inside a `count` of x or not, and of y or not
  pub uses_in : ℕ → Bool → Bool → Block Name → List Use
  uses_in process in_x in_y Empty = []
  uses_in process in_x in_y (Then line statement rest) = use_of process in_x in_y line statement ∷ (uses_inside process in_x in_y statement ++ uses_in process in_x in_y rest)

  pub uses_inside : ℕ → Bool → Bool → Statement Name → List Use
  uses_inside process in_x in_y (If var test first second) = uses_in process in_x in_y first ++ uses_in process in_x in_y second
  uses_inside process in_x in_y (While var test body) = uses_in process in_x in_y body
  uses_inside process in_x in_y (Count var body) = uses_in process (in_x || is_same_var X var) (in_y || is_same_var Y var) body
  uses_inside process in_x in_y _ = []

-- the statements of these processes, of which the first has this number
abbrev pub uses_from : ℕ → List ProcessText → List Use
uses_from number [] = []
uses_from number (process ∷ processes) = uses_in number false false process.body ++ uses_from (number + 1) processes
