-- The rules of networks, in the order in which they are looked for, and the first that is broken.
use Rattle.std.specs.Prelude.{◌≡◌, ℕ, ◌+◌, Bool, true, false, ◌||◌, ◌&&◌, not, List, [], ◌∷◌, ◌++◌, map, Option, Some, None, ◌==◌, nat_lt, nat_le, if◌then◌else◌}
use Rattle.std.specs.List.{list_any, position}
use Rattle.std.specs.Option.{option_or}
use Rattle.std.specs.Str.{bytes_eq}
use Rattle.net_tree.specs.declared.tree.Var.{Var}
use Rattle.net_tree.specs.Tree.{Name, Statement, If, While, Count, Block, Empty, Then, PortLine, ChannelLine, ProcessText, Net}
use Rattle.net_rules.specs.Uses.{read_of, written_of, reads_in, writes_in, changes, surely_reads}
use Rattle.net_rules.specs.Numbers.{NumberedNet, readable, writable, numbered}

-- which rule is broken, and the line or the process at which it is
pub data BrokenRule : Type 0 where
  Unknown : (line : ℕ) → BrokenRule
  Repeated : (line : ℕ) → BrokenRule
  SamePlace : (line : ℕ) → BrokenRule
  ReadTwice : (line : ℕ) → BrokenRule
  WrittenTwice : (line : ℕ) → BrokenRule
  CounterChanged : (line : ℕ) → BrokenRule
  Unread : (line : ℕ) → BrokenRule
  Unwritten : (line : ℕ) → BrokenRule
  ReadBeforeWritten : (line : ℕ) → BrokenRule
  NoSureRead : (process : ℕ) → BrokenRule
  LoopWithoutRead : (line : ℕ) → BrokenRule
  JoinAfterSplit : (process : ℕ) → BrokenRule

-- a rule that is broken where a test holds
abbrev pub broken_where : Bool → BrokenRule → Option BrokenRule
broken_where test rule = if test then Some rule else None

-- ---- in line order

-- an element before the first whose line isn't smaller
abbrev pub placed_by : {X : Type 0} → (X → ℕ) → X → List X → List X
placed_by line x [] = x ∷ []
placed_by line x (next ∷ rest) = if nat_le (line x) (line next) then x ∷ next ∷ rest else next ∷ placed_by line x rest

-- the elements by ascending line; on one line they stay in their order
abbrev pub by_line : {X : Type 0} → (X → ℕ) → List X → List X
by_line line [] = []
by_line line (x ∷ xs) = placed_by line x (by_line line xs)

-- the first fault of elements one after the other, each looked at beside those before it
abbrev pub first_among : {X : Type 0} → (List X → X → Option BrokenRule) → List X → List X → Option BrokenRule
first_among fault earlier [] = None
first_among fault earlier (x ∷ xs) = option_or (fault earlier x) (first_among fault (x ∷ earlier) xs)

abbrev pub first_fault : {X : Type 0} → (List X → X → Option BrokenRule) → List X → Option BrokenRule
first_fault fault xs = first_among fault [] xs

-- ---- declarations

-- what a line declares
pub data Kind : Type 0 where
  Input : (position : ℕ) → Kind
  Channel : Kind
  Output : (position : ℕ) → Kind
  Process : Kind

pub record Declaration : Type 0 where
  pub kind : Kind
  pub name : Name
  pub line : ℕ

abbrev pub input_declared : PortLine → Declaration
input_declared port = record { kind = Input port.position; name = port.name; line = port.line }

abbrev pub channel_declared : ChannelLine → Declaration
channel_declared channel = record { kind = Channel; name = channel.name; line = channel.line }

abbrev pub output_declared : PortLine → Declaration
output_declared port = record { kind = Output port.position; name = port.name; line = port.line }

abbrev pub process_declared : ProcessText → Declaration
process_declared process = record { kind = Process; name = process.name; line = process.line }

-- the declarations of a network by line; on one line inputs come first, then channels, outputs and processes
abbrev pub declarations : Net → List Declaration
declarations net =
    by_line (λ declaration. declaration.line)
    (map input_declared net.inputs ++ (map channel_declared net.channels ++ (map output_declared net.outputs ++ map process_declared net.processes)))

abbrev pub is_process : Kind → Bool
is_process Process = true
is_process (Input position) = false
is_process Channel = false
is_process (Output position) = false

-- whether two declarations share a space of names: those of processes are apart from those of inputs, channels and outputs
abbrev pub share_names : Kind → Kind → Bool
share_names a b = if is_process a then is_process b else not (is_process b)

-- whether two declarations are at one position of one side
abbrev pub share_place : Kind → Kind → Bool
share_place (Input a) (Input b) = a == b
share_place (Output a) (Output b) = a == b
share_place _ _ = false

-- an earlier declaration has the name, or else the place
abbrev pub declaration_fault : List Declaration → Declaration → Option BrokenRule
declaration_fault earlier d =
    option_or (broken_where (list_any (λ other. share_names other.kind d.kind && bytes_eq other.name d.name) earlier) (Repeated d.line))
    (broken_where (list_any (λ other. share_place other.kind d.kind) earlier) (SamePlace d.line))

-- ---- statements

-- a statement, its line, the number of its process, and the variables of the `count`s that it stands in
pub record Placed : Type 0 where
  pub line : ℕ
  pub process : ℕ
  pub counters : List Var
  pub statement : Statement Name

abbrev mutual
  -- the statements of a block in order, each before those in its blocks
  pub placed_in : ℕ → List Var → Block Name → List Placed
  placed_in process counters Empty = []
  placed_in process counters (Then line statement rest) =
      record { line = line; process = process; counters = counters; statement = statement } ∷ (placed_inside process counters statement ++ placed_in process counters rest)

  pub placed_inside : ℕ → List Var → Statement Name → List Placed
  placed_inside process counters (If var test first second) = placed_in process counters first ++ placed_in process counters second
  placed_inside process counters (While var test body) = placed_in process counters body
  placed_inside process counters (Count var body) = placed_in process (var ∷ counters) body
  placed_inside process counters _ = []

-- the statements of these processes, of which the first has this number
abbrev pub placed_from : ℕ → List ProcessText → List Placed
placed_from number [] = []
placed_from number (process ∷ processes) = placed_in number [] process.body ++ placed_from (number + 1) processes

-- the statements of a network by line; on one line in the order of their processes and then as they stand
abbrev pub statements : Net → List Placed
statements net = by_line (λ placed. placed.line) (placed_from 0 net.processes)

-- whether this is that name
abbrev pub is_name : Name → Option Name → Bool
is_name name None = false
is_name name (Some other) = bytes_eq name other

abbrev pub is_among : List Name → Name → Bool
is_among names name = list_any (bytes_eq name) names

-- a name, where there is one, isn't among these
abbrev pub isnt_among : List Name → Option Name → Bool
isnt_among names None = false
isnt_among names (Some name) = not (is_among names name)

-- an earlier statement of another process uses the name too
abbrev pub used_elsewhere : (Statement Name → Option Name) → List Placed → ℕ → Option Name → Bool
used_elsewhere use_of earlier process None = false
used_elsewhere use_of earlier process (Some name) = list_any (λ other. not (other.process == process) && is_name name (use_of other.statement)) earlier

-- what is wrong with a statement: a name that isn't there, a name that another process reads or writes already, or a variable that it changes inside a `count` of it
abbrev pub statement_fault : Net → List Placed → Placed → Option BrokenRule
statement_fault net earlier placed =
    option_or (broken_where (isnt_among (readable net) (read_of placed.statement)) (Unknown placed.line))
    (option_or (broken_where (isnt_among (writable net) (written_of placed.statement)) (Unknown placed.line))
    (option_or (broken_where (used_elsewhere read_of earlier placed.process (read_of placed.statement)) (ReadTwice placed.line))
    (option_or (broken_where (used_elsewhere written_of earlier placed.process (written_of placed.statement)) (WrittenTwice placed.line))
    (broken_where (list_any (λ counter. changes counter placed.statement) placed.counters) (CounterChanged placed.line)))))

-- ---- what nobody reads or writes

abbrev pub is_read : Net → Name → Bool
is_read net name = list_any (λ process. is_among (reads_in process.body) name) net.processes

abbrev pub is_written : Net → Name → Bool
is_written net name = list_any (λ process. is_among (writes_in process.body) name) net.processes

-- an input or a channel that no process reads, or a channel or an output that none writes
abbrev pub unused_by : Net → Kind → Name → ℕ → Option BrokenRule
unused_by net (Input position) name line = broken_where (not (is_read net name)) (Unread line)
unused_by net Channel name line = option_or (broken_where (not (is_read net name)) (Unread line)) (broken_where (not (is_written net name)) (Unwritten line))
unused_by net (Output position) name line = broken_where (not (is_written net name)) (Unwritten line)
unused_by net Process name line = None

abbrev pub unused_fault : Net → List Declaration → Declaration → Option BrokenRule
unused_fault net earlier d = unused_by net d.kind d.name d.line

-- ---- the order of processes

-- the number of the process that writes a name
abbrev pub writer_of : Net → Name → Option ℕ
writer_of net name = position (λ process. is_among (writes_in process.body) name) net.processes

abbrev pub is_before : Option ℕ → ℕ → Bool
is_before None process = false
is_before (Some writer) process = nat_lt writer process

-- a channel that is read isn't written by a process with a smaller number
abbrev pub reads_too_early : Net → ℕ → Option Name → Bool
reads_too_early net process None = false
reads_too_early net process (Some name) = is_among (map (λ channel. channel.name) net.channels) name && not (is_before (writer_of net name) process)

abbrev pub order_fault : Net → List Placed → Placed → Option BrokenRule
order_fault net earlier placed = broken_where (reads_too_early net placed.process (read_of placed.statement)) (ReadBeforeWritten placed.line)

-- ---- sure reads

-- whether a statement is a `while` whose block doesn't surely read
abbrev pub loops_without_read : Statement Name → Bool
loops_without_read (While var test body) = not (surely_reads body)
loops_without_read _ = false

-- the first such `while` of a process, by line
abbrev pub loop_fault : List Placed → Option BrokenRule
loop_fault [] = None
loop_fault (placed ∷ rest) = if loops_without_read placed.statement then Some (LoopWithoutRead placed.line) else loop_fault rest

abbrev pub sure_read_fault : ℕ → Block Name → Option BrokenRule
sure_read_fault process body =
    option_or (broken_where (not (surely_reads body)) (NoSureRead process))
    (loop_fault (by_line (λ placed. placed.line) (placed_in process [] body)))

-- the first process of these whose body, or the block of a `while` in it, doesn't surely read
abbrev pub sure_reads_from : ℕ → List ProcessText → Option BrokenRule
sure_reads_from number [] = None
sure_reads_from number (process ∷ processes) = option_or (sure_read_fault number process.body) (sure_reads_from (number + 1) processes)

-- ---- joins behind splits

-- whether there are two different numbers among these
abbrev pub has_two : List ℕ → Bool
has_two numbers = list_any (λ one. list_any (λ other. not (other == one)) numbers) numbers

-- whether a process spreads what it writes: it writes two names or more, or reads a spread one
abbrev pub spreads : (ℕ → Bool) → Block ℕ → Bool
spreads spread body = has_two (writes_in body) || list_any spread (reads_in body)

-- the spread names behind one more process: those before, and what it writes where it spreads it
abbrev pub spread_behind : (ℕ → Bool) → Block ℕ → ℕ → Bool
spread_behind spread body name = spread name || (spreads spread body && list_any (λ written. written == name) (writes_in body))

-- a process reads a spread name and another name
abbrev pub joins : (ℕ → Bool) → Block ℕ → Bool
joins spread body = list_any (λ one. spread one && list_any (λ other. not (other == one)) (reads_in body)) (reads_in body)

-- the first process of these, in order, that joins what was spread before
abbrev pub joins_from : (ℕ → Bool) → ℕ → List (Block ℕ) → Option BrokenRule
joins_from spread number [] = None
joins_from spread number (body ∷ bodies) = option_or (broken_where (joins spread body) (JoinAfterSplit number)) (joins_from (spread_behind spread body) (number + 1) bodies)

-- the names that are spread behind these processes: a channel is where its writer writes two names or more, or reads a spread channel
abbrev pub spread_from : (ℕ → Bool) → List (Block ℕ) → ℕ → Bool
spread_from spread [] = spread
spread_from spread (body ∷ bodies) = spread_from (spread_behind spread body) bodies

abbrev pub is_spread : NumberedNet → ℕ → Bool
is_spread net = spread_from (λ name. false) net.processes

-- ---- all rules

abbrev pub first_broken : Net → Option BrokenRule
first_broken net =
    option_or (first_fault declaration_fault (declarations net))
    (option_or (first_fault (statement_fault net) (statements net))
    (option_or (first_fault (unused_fault net) (declarations net))
    (option_or (first_fault (order_fault net) (statements net))
    (option_or (sure_reads_from 0 net.processes)
    (joins_from (λ name. false) 0 (numbered net).processes)))))

-- no rule is broken
abbrev pub IsAccepted : Net → Type 0
IsAccepted net = first_broken net ≡ None
