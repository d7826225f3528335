-- What the rules know of the lines before: from tables of names, without looking at all pairs.
use Rattle.std.specs.Prelude.{◌≡◌, ℕ, ◌+◌, ◌^◌, ◌<◌, ◌++◌, length, unwrap_or, Bool, false, ◌&&◌, not, List, [], ◌∷◌, Option, Some, None, ◌==◌, nat_lt, nat_le, slice_index_or, if◌then◌else◌}
use Rattle.std.specs.List.{list_any}
use Rattle.std.specs.Option.{is_some, option_or}
use Rattle.std.specs.Str.{bytes_eq}
use Rattle.net_tree.specs.Tree.{Name, Net}
use Rattle.net_rules.specs.Uses.{as_list}
use Rattle.net_rules.specs.declared.declarations.Kind as held_kind
use Rattle.net_rules.specs.declared.declarations.Kind.TheVariants as kinds
use Rattle.net_rules.specs.declared.declarations.Declaration as held
use Rattle.net_rules.specs.declared.numbers.Numbers as held_numbers
use Rattle.net_rules.specs.Numbers.{number_of}
use Rattle.net_rules.specs.Rules.{BrokenRule, Unknown, ReadTwice, WrittenTwice, CounterChanged, Unread, Unwritten, ReadBeforeWritten, broken_where, Kind, Input, Channel, Output, Process, Declaration, is_process, share_place, is_name}
use Rattle.net_rules.specs.Tables.{Table, value_of}
use Rattle.net_rules.specs.Found.{Use}

-- ---- declarations

-- what a line declares, as the code holds it
abbrev pub kind_view : held_kind.Kind → Kind
kind_view (kinds.Input position) = Input position
kind_view kinds.Channel = Channel
kind_view (kinds.Output position) = Output position
kind_view kinds.Process = Process

abbrev pub declaration_view : held.Declaration → Declaration
declaration_view declaration = record { kind = kind_view declaration.kind; name = declaration.name.now; line = declaration.line }

-- whether a table has a name
abbrev pub has : Table → Name → Bool
has table name = is_some (value_of table name)

-- what the tables and the places say of the declarations before: which names and which names of processes are taken, and which positions
pub record KnowsDeclared (named running : Table) (ins outs : List Bool) (earlier : List Declaration) : Type 0 where
  pub names : (name : Name) → has named name ≡ list_any (λ other. not (is_process other.kind) && bytes_eq other.name name) earlier
  pub processes : (name : Name) → has running name ≡ list_any (λ other. is_process other.kind && bytes_eq other.name name) earlier
  pub inputs : (position : ℕ) → position < 256 → slice_index_or ins position false ≡ list_any (λ other. share_place other.kind (Input position)) earlier
  pub outputs : (position : ℕ) → position < 256 → slice_index_or outs position false ≡ list_any (λ other. share_place other.kind (Output position)) earlier

-- ---- names by their numbers

-- a number from this one on and below that
abbrev pub is_within : ℕ → ℕ → Option ℕ → Bool
is_within first past None = false
is_within first past (Some number) = nat_le first number && nat_lt number past

-- a name has a number of an input or a channel
abbrev pub can_read : held_numbers.Numbers → Name → Bool
can_read numbers name = is_within 0 numbers.outputs (value_of numbers.table.now name)

-- a name has a number of a channel or an output
abbrev pub can_write : held_numbers.Numbers → Name → Bool
can_write numbers name = is_within numbers.channels numbers.other (value_of numbers.table.now name)

-- a name has a number of a channel
abbrev pub names_channel : held_numbers.Numbers → Name → Bool
names_channel numbers name = is_within numbers.channels numbers.outputs (value_of numbers.table.now name)

-- the names of a network have their numbers, and those of channels and of outputs begin where they do
pub record IsNumbered (numbers : held_numbers.Numbers) (net : Net) : Type 0 where
  pub names : (name : Name) → value_of numbers.table.now name ≡ number_of net name
  pub channels : numbers.channels ≡ length net.inputs
  pub outputs : numbers.outputs ≡ length net.inputs + length net.channels
  pub other : numbers.other ≡ length net.inputs + length net.channels + length net.outputs

-- ---- statements

-- a name, where there is one, isn't known
abbrev pub isnt_known : (Name → Bool) → Option Name → Bool
isnt_known known None = false
isnt_known known (Some name) = not (known name)

-- the process that uses a name isn't this one
abbrev pub is_other : Option ℕ → ℕ → Bool
is_other None process = false
is_other (Some user) process = not (user == process)

-- another process than this one uses the name, by a table of users
abbrev pub is_used_by_other : Table → ℕ → Option Name → Bool
is_used_by_other users process None = false
is_used_by_other users process (Some name) = is_other (value_of users name) process

-- an earlier statement of another process uses the name
abbrev pub is_used_elsewhere : (Use → Option Name) → List Use → ℕ → Name → Bool
is_used_elsewhere use_of earlier process name = list_any (λ other. not (other.process == process) && is_name name (use_of other)) earlier

-- what the tables of readers and writers say of the statements before
pub record KnowsUsers (reading writing : Table) (earlier : List Use) : Type 0 where
  pub readers : (process : ℕ) (name : Name) → is_used_elsewhere (λ found. found.read) earlier process name ≡ is_other (value_of reading name) process
  pub writers : (process : ℕ) (name : Name) → is_used_elsewhere (λ found. found.written) earlier process name ≡ is_other (value_of writing name) process

-- a table after a process used a name, where there is one
abbrev pub IsNoted : Table → Table → Option Name → ℕ → Type 0
IsNoted old new used process = (name : Name) → value_of new name ≡ (if is_name name used then Some process else value_of old name)

-- what is wrong with a statement, by which names can be read and written, and by the tables of the users before
abbrev pub use_fault : (Name → Bool) → (Name → Bool) → Table → Table → Use → Option BrokenRule
use_fault readable writable readers writers found =
    option_or (broken_where (isnt_known readable found.read) (Unknown found.line))
    (option_or (broken_where (isnt_known writable found.written) (Unknown found.line))
    (option_or (broken_where (is_used_by_other readers found.process found.read) (ReadTwice found.line))
    (option_or (broken_where (is_used_by_other writers found.process found.written) (WrittenTwice found.line))
    (broken_where found.changes (CounterChanged found.line)))))

-- another process than this one uses the name, where there is one, in an earlier statement
abbrev pub is_used_among : (Use → Option Name) → List Use → ℕ → Option Name → Bool
is_used_among use_of earlier process None = false
is_used_among use_of earlier process (Some name) = is_used_elsewhere use_of earlier process name

-- the same, by the statements before themselves
abbrev pub use_fault_among : (Name → Bool) → (Name → Bool) → List Use → Use → Option BrokenRule
use_fault_among readable writable earlier found =
    option_or (broken_where (isnt_known readable found.read) (Unknown found.line))
    (option_or (broken_where (isnt_known writable found.written) (Unknown found.line))
    (option_or (broken_where (is_used_among (λ other. other.read) earlier found.process found.read) (ReadTwice found.line))
    (option_or (broken_where (is_used_among (λ other. other.written) earlier found.process found.written) (WrittenTwice found.line))
    (broken_where found.changes (CounterChanged found.line)))))

-- ---- all statements

-- the process of the first of these statements that uses a name
abbrev pub first_user : (Use → Option Name) → List Use → Name → Option ℕ
first_user use_of [] name = None
first_user use_of (found ∷ others) name = if is_name name (use_of found) then Some found.process else first_user use_of others name

-- the table has the first user of each name
abbrev pub HasUsers : Table → (Use → Option Name) → List Use → Type 0
HasUsers table use_of uses = (name : Name) → value_of table name ≡ first_user use_of uses name

-- what nobody reads or writes, by the tables of users
abbrev pub unused_by_tables : Table → Table → Declaration → Kind → Option BrokenRule
unused_by_tables readers writers d (Input position) = broken_where (not (has readers d.name)) (Unread d.line)
unused_by_tables readers writers d Channel = option_or (broken_where (not (has readers d.name)) (Unread d.line)) (broken_where (not (has writers d.name)) (Unwritten d.line))
unused_by_tables readers writers d (Output position) = broken_where (not (has writers d.name)) (Unwritten d.line)
unused_by_tables readers writers d Process = None

-- a process with a smaller number
abbrev pub is_smaller : Option ℕ → ℕ → Bool
is_smaller None process = false
is_smaller (Some writer) process = nat_lt writer process

-- a channel is read before it is written, by which names are channels and by the table of writers
abbrev pub early_by_tables : (Name → Bool) → Table → ℕ → Option Name → Bool
early_by_tables is_channel writers process None = false
early_by_tables is_channel writers process (Some name) = is_channel name && not (is_smaller (value_of writers name) process)

abbrev pub unused_fault_by : Table → Table → List Declaration → Declaration → Option BrokenRule
unused_fault_by readers writers earlier d = unused_by_tables readers writers d d.kind

abbrev pub order_fault_by : (Name → Bool) → Table → List Use → Use → Option BrokenRule
order_fault_by is_channel writers earlier found = broken_where (early_by_tables is_channel writers found.process found.read) (ReadBeforeWritten found.line)

-- ---- numbers

-- fewer than 2^31 names
abbrev pub HasFewNames : Net → Type 0
HasFewNames net = length net.inputs + (length net.channels + length net.outputs) < 2 ^ 31

-- the number that a table has for a name, or else this one
abbrev pub number_by : Table → ℕ → Name → ℕ
number_by table other name = unwrap_or (value_of table name) other

-- the names that these statements use, one after the other
abbrev pub names_used : (Use → Option Name) → List Use → List Name
names_used use_of [] = []
names_used use_of (found ∷ others) = as_list (use_of found) ++ names_used use_of others
