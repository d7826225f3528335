-- What is wrong with the lines of a network, by tables.
use Rattle.std.proofs.Common.{◌≡◌, ℕ, ◌+◌, Bool, true, false, cond, List, [], ◌∷◌, ◌++◌, map, Option, Some, None, refl, sym, ap, ◌∙◌}
use Rattle.std.specs.Prelude.{◌||◌, ◌&&◌, not, ◌==◌}
use Rattle.std.specs.List.{list_any, position, position_from}
use Rattle.std.specs.Option.{is_some, option_or}
use Rattle.std.proofs.lemmas.List.{map-append}
use Rattle.std.proofs.lemmas.Iterator.Adapters.{position_from-zero}
use Rattle.net_tree.specs.declared.tree.Var.{Var}
use Rattle.net_tree.specs.declared.tree.Var.TheVariants.{X, Y}
use Rattle.net_tree.specs.Tree.{Name, Statement, Get, GetAdd, GetSub, Put, PutNumber, Move, Set, Add, Sub, Neg, Double, Copy, Swap, If, While, Count, Block, Empty, Then, ProcessText, Net}
use Rattle.net_rules.specs.Uses.{read_of, written_of, is_same_var, changes, as_list, reads_in, writes_in}
use Rattle.net_rules.specs.Numbers.{readable, writable}
use Rattle.net_rules.specs.Rules.{BrokenRule, Unknown, ReadTwice, WrittenTwice, CounterChanged, Unread, Unwritten, ReadBeforeWritten, broken_where, by_line, first_among, first_fault, Kind, Input, Channel, Output, Process, Declaration, declarations, Placed, placed_in, placed_inside, placed_from, statements, is_name, is_among, isnt_among, used_elsewhere, statement_fault, is_read, is_written, unused_by, unused_fault, writer_of, is_before, reads_too_early, order_fault}
use Rattle.net_rules.specs.Tables.{Table, value_of}
use Rattle.net_rules.specs.Found.{Use, use_of, changes_counted, uses_in, uses_inside, uses_from}
use Rattle.net_rules.specs.Known.{has, isnt_known, is_used_among, use_fault_among, first_user, HasUsers, unused_by_tables, unused_fault_by, is_smaller, early_by_tables, order_fault_by, names_used}
use Rattle.net_rules.proofs.Sorting.{by_line_seen}
use Rattle.net_rules.proofs.Joining.{same_reads, same_writes}

-- ---- a statement in its place, as the rules look at it

abbrev pub use_seen : Placed → Use
use_seen placed = record { line = placed.line; process = placed.process; read = read_of placed.statement; written = written_of placed.statement; changes = list_any (λ counter. changes counter placed.statement) placed.counters }

-- what two of three are, without their order
or_swap : (a b c d : Bool) → ((a || b) || (c || d)) ≡ ((a || c) || (b || d))
or_swap true b c d = refl
or_swap false true true d = refl
or_swap false true false d = refl
or_swap false false true d = refl
or_swap false false false d = refl

and_or : (a b c : Bool) → ((a && c) || (b && c)) ≡ ((a || b) && c)
and_or true true true = refl
and_or true true false = refl
and_or true false true = refl
and_or true false false = refl
and_or false b c = refl

or_turned : (a b : Bool) → (a || b) ≡ (b || a)
or_turned true true = refl
or_turned true false = refl
or_turned false true = refl
or_turned false false = refl

-- whether a variable is counted
abbrev counted : Var → List Var → Bool
counted var counters = list_any (is_same_var var) counters

changed_by : (counter : Var) (statement : Statement Name) → changes counter statement ≡ ((is_same_var X counter && changes X statement) || (is_same_var Y counter && changes Y statement))
changed_by X statement = by (changes X statement)
  where
    by : (b : Bool) → b ≡ (b || false)
    by true = refl
    by false = refl
changed_by Y statement = refl

changes_any : (counters : List Var) (statement : Statement Name) → list_any (λ counter. changes counter statement) counters ≡ changes_counted (counted X counters) (counted Y counters) statement
changes_any [] statement = refl
changes_any (counter ∷ counters) statement =
    ap (λ b. b || list_any (λ c. changes c statement) counters) (changed_by counter statement)
    ∙ ap (λ b. ((is_same_var X counter && changes X statement) || (is_same_var Y counter && changes Y statement)) || b) (changes_any counters statement)
    ∙ or_swap (is_same_var X counter && changes X statement) (is_same_var Y counter && changes Y statement) (counted X counters && changes X statement) (counted Y counters && changes Y statement)
    ∙ ap (λ b. b || ((is_same_var Y counter && changes Y statement) || (counted Y counters && changes Y statement))) (and_or (is_same_var X counter) (counted X counters) (changes X statement))
    ∙ ap (λ b. ((is_same_var X counter || counted X counters) && changes X statement) || b) (and_or (is_same_var Y counter) (counted Y counters) (changes Y statement))

-- one statement
same_use : (process : ℕ) (in_x in_y : Bool) (counters : List Var) (line : ℕ) (statement : Statement Name) → in_x ≡ counted X counters → in_y ≡ counted Y counters → use_seen (record { line = line; process = process; counters = counters; statement = statement }) ≡ use_of process in_x in_y line statement
same_use process in_x in_y counters line statement x y =
    let seen : Bool → Use = λ b. record { line = line; process = process; read = read_of statement; written = written_of statement; changes = b } in
    ap seen (changes_any counters statement ∙ ap (λ b. changes_counted b (counted Y counters) statement) (sym x) ∙ ap (λ b. changes_counted in_x b statement) (sym y))

more_counted : (v var : Var) (inside : Bool) (counters : List Var) → inside ≡ counted v counters → (inside || is_same_var v var) ≡ counted v (var ∷ counters)
more_counted v var inside counters is = or_turned inside (is_same_var v var) ∙ ap (λ b. is_same_var v var || b) is

mutual
  seen_in : (process : ℕ) (in_x in_y : Bool) (counters : List Var) (block : Block Name) → in_x ≡ counted X counters → in_y ≡ counted Y counters → map use_seen (placed_in process counters block) ≡ uses_in process in_x in_y block
  seen_in process in_x in_y counters Empty x y = refl
  seen_in process in_x in_y counters (Then line statement rest) x y =
      ap (λ u. u ∷ map use_seen (placed_inside process counters statement ++ placed_in process counters rest)) (same_use process in_x in_y counters line statement x y)
      ∙ ap (λ l. use_of process in_x in_y line statement ∷ l)
      (map-append use_seen (placed_inside process counters statement) (placed_in process counters rest) ∙ ap (λ l. l ++ map use_seen (placed_in process counters rest)) (seen_inside process in_x in_y counters statement x y) ∙ ap (λ l. uses_inside process in_x in_y statement ++ l) (seen_in process in_x in_y counters rest x y))

  seen_inside : (process : ℕ) (in_x in_y : Bool) (counters : List Var) (statement : Statement Name) → in_x ≡ counted X counters → in_y ≡ counted Y counters → map use_seen (placed_inside process counters statement) ≡ uses_inside process in_x in_y statement
  seen_inside process in_x in_y counters (If v test first second) x y =
      map-append use_seen (placed_in process counters first) (placed_in process counters second)
      ∙ ap (λ l. l ++ map use_seen (placed_in process counters second)) (seen_in process in_x in_y counters first x y)
      ∙ ap (λ l. uses_in process in_x in_y first ++ l) (seen_in process in_x in_y counters second x y)
  seen_inside process in_x in_y counters (While v test body) x y = seen_in process in_x in_y counters body x y
  seen_inside process in_x in_y counters (Count v body) x y = seen_in process (in_x || is_same_var X v) (in_y || is_same_var Y v) (v ∷ counters) body (more_counted X v in_x counters x) (more_counted Y v in_y counters y)
  seen_inside process in_x in_y counters (Get read v) x y = refl
  seen_inside process in_x in_y counters (GetAdd read v) x y = refl
  seen_inside process in_x in_y counters (GetSub read v) x y = refl
  seen_inside process in_x in_y counters (Put written v) x y = refl
  seen_inside process in_x in_y counters (PutNumber written number) x y = refl
  seen_inside process in_x in_y counters (Move read written) x y = refl
  seen_inside process in_x in_y counters (Set v number) x y = refl
  seen_inside process in_x in_y counters (Add v number) x y = refl
  seen_inside process in_x in_y counters (Sub v number) x y = refl
  seen_inside process in_x in_y counters (Neg v) x y = refl
  seen_inside process in_x in_y counters (Double v) x y = refl
  seen_inside process in_x in_y counters (Copy to from) x y = refl
  seen_inside process in_x in_y counters Swap x y = refl

seen_from : (number : ℕ) (processes : List ProcessText) → map use_seen (placed_from number processes) ≡ uses_from number processes
seen_from number [] = refl
seen_from number (process ∷ processes) =
    map-append use_seen (placed_in number [] process.body) (placed_from (number + 1) processes)
    ∙ ap (λ l. l ++ map use_seen (placed_from (number + 1) processes)) (seen_in number false false [] process.body refl refl)
    ∙ ap (λ l. uses_in number false false process.body ++ l) (seen_from (number + 1) processes)

-- the statements by line
pub seen_by_line : (net : Net) → map use_seen (statements net) ≡ by_line (λ found. found.line) (uses_from 0 net.processes)
seen_by_line net = by_line_seen (λ placed. placed.line) use_seen (λ found. found.line) (λ placed. refl) (placed_from 0 net.processes) ∙ ap (by_line (λ found. found.line)) (seen_from 0 net.processes)

-- ---- the first fault, looked at in another way

first_seen : {X Y : Type 0} (seen : X → Y) (one : List X → X → Option BrokenRule) (other : List Y → Y → Option BrokenRule) → ((earlier : List X) (x : X) → one earlier x ≡ other (map seen earlier) (seen x)) → (earlier xs : List X) → first_among one earlier xs ≡ first_among other (map seen earlier) (map seen xs)
first_seen seen one other same earlier [] = refl
first_seen seen one other same earlier (x ∷ xs) = ap (λ o. option_or o (first_among one (x ∷ earlier) xs)) (same earlier x) ∙ ap (λ o. option_or (other (map seen earlier) (seen x)) o) (first_seen seen one other same (x ∷ earlier) xs)

first_same : {X : Type 0} (one other : List X → X → Option BrokenRule) → ((earlier : List X) (x : X) → one earlier x ≡ other earlier x) → (earlier xs : List X) → first_among one earlier xs ≡ first_among other earlier xs
first_same one other same earlier [] = refl
first_same one other same earlier (x ∷ xs) = ap (λ o. option_or o (first_among one (x ∷ earlier) xs)) (same earlier x) ∙ ap (λ o. option_or (other earlier x) o) (first_same one other same (x ∷ earlier) xs)

any_seen : {X Y : Type 0} (seen : X → Y) (test : Y → Bool) (xs : List X) → list_any (λ x. test (seen x)) xs ≡ list_any test (map seen xs)
any_seen seen test [] = refl
any_seen seen test (x ∷ xs) = ap (λ b. test (seen x) || b) (any_seen seen test xs)

-- ---- the rule of statements

module _ (net : Net) (can_read can_write : Name → Bool) (reads : (name : Name) → can_read name ≡ is_among (readable net) name) (writes : (name : Name) → can_write name ≡ is_among (writable net) name) where
  by_names : (known : Name → Bool) (names : List Name) → ((name : Name) → known name ≡ is_among names name) → (used : Option Name) → isnt_among names used ≡ isnt_known known used
  by_names known names is None = refl
  by_names known names is (Some name) = ap not (sym (is name))

  used_seen : (use_in : Statement Name → Option Name) (use_on : Use → Option Name) → ((placed : Placed) → use_on (use_seen placed) ≡ use_in placed.statement) → (earlier : List Placed) (process : ℕ) (used : Option Name) → used_elsewhere use_in earlier process used ≡ is_used_among use_on (map use_seen earlier) process used
  used_seen use_in use_on same earlier process None = refl
  used_seen use_in use_on same earlier process (Some name) =
      any_as (λ other. ap (λ o. not (other.process == process) && is_name name o) (sym (same other))) earlier
      ∙ any_seen use_seen (λ other. not (other.process == process) && is_name name (use_on other)) earlier
    where
      any_as : ((x : Placed) → (not (x.process == process) && is_name name (use_in x.statement)) ≡ (not (x.process == process) && is_name name (use_on (use_seen x)))) → (xs : List Placed) → list_any (λ x. not (x.process == process) && is_name name (use_in x.statement)) xs ≡ list_any (λ x. not (x.process == process) && is_name name (use_on (use_seen x))) xs
      any_as same [] = refl
      any_as same (x ∷ xs) = ap (λ b. b || list_any (λ x. not (x.process == process) && is_name name (use_in x.statement)) xs) (same x) ∙ ap (λ b. (not (x.process == process) && is_name name (use_on (use_seen x))) || b) (any_as same xs)

  statement_seen : (earlier : List Placed) (placed : Placed) → statement_fault net earlier placed ≡ use_fault_among can_read can_write (map use_seen earlier) (use_seen placed)
  statement_seen earlier placed =
      let read : Option Name = read_of placed.statement in
      let written : Option Name = written_of placed.statement in
      let counter : Option BrokenRule = broken_where (list_any (λ c. changes c placed.statement) placed.counters) (CounterChanged placed.line) in
      let fault : Bool → Bool → Bool → Bool → Option BrokenRule = λ a b c d. option_or (broken_where a (Unknown placed.line)) (option_or (broken_where b (Unknown placed.line)) (option_or (broken_where c (ReadTwice placed.line)) (option_or (broken_where d (WrittenTwice placed.line)) counter))) in
      ap (λ b. fault b (isnt_among (writable net) written) (used_elsewhere read_of earlier placed.process read) (used_elsewhere written_of earlier placed.process written)) (by_names can_read (readable net) reads read)
      ∙ ap (λ b. fault (isnt_known can_read read) b (used_elsewhere read_of earlier placed.process read) (used_elsewhere written_of earlier placed.process written)) (by_names can_write (writable net) writes written)
      ∙ ap (λ b. fault (isnt_known can_read read) (isnt_known can_write written) b (used_elsewhere written_of earlier placed.process written)) (used_seen read_of (λ u. u.read) (λ p. refl) earlier placed.process read)
      ∙ ap (λ b. fault (isnt_known can_read read) (isnt_known can_write written) (is_used_among (λ u. u.read) (map use_seen earlier) placed.process read) b) (used_seen written_of (λ u. u.written) (λ p. refl) earlier placed.process written)

  pub statements_seen : first_fault (statement_fault net) (statements net) ≡ first_fault (use_fault_among can_read can_write) (by_line (λ found. found.line) (uses_from 0 net.processes))
  statements_seen = first_seen use_seen (statement_fault net) (use_fault_among can_read can_write) statement_seen [] (statements net) ∙ ap (first_fault (use_fault_among can_read can_write)) (seen_by_line net)

-- ---- users

-- each of these statements belongs to this process
abbrev AllOf : ℕ → List Use → Type 0
AllOf process [] = Unit {0}
AllOf process (found ∷ others) = (found.process ≡ process) × AllOf process others

both_of : (process : ℕ) (one other : List Use) → AllOf process one → AllOf process other → AllOf process (one ++ other)
both_of process [] other is also = also
both_of process (found ∷ one) other is also = (is.0, both_of process one other is.1 also)

mutual
  all_of : (process : ℕ) (in_x in_y : Bool) (block : Block Name) → AllOf process (uses_in process in_x in_y block)
  all_of process in_x in_y Empty = tt
  all_of process in_x in_y (Then line statement rest) = (refl, both_of process (uses_inside process in_x in_y statement) (uses_in process in_x in_y rest) (all_inside process in_x in_y statement) (all_of process in_x in_y rest))

  all_inside : (process : ℕ) (in_x in_y : Bool) (statement : Statement Name) → AllOf process (uses_inside process in_x in_y statement)
  all_inside process in_x in_y (If v test first second) = both_of process (uses_in process in_x in_y first) (uses_in process in_x in_y second) (all_of process in_x in_y first) (all_of process in_x in_y second)
  all_inside process in_x in_y (While v test body) = all_of process in_x in_y body
  all_inside process in_x in_y (Count v body) = all_of process (in_x || is_same_var X v) (in_y || is_same_var Y v) body
  all_inside process in_x in_y (Get read v) = tt
  all_inside process in_x in_y (GetAdd read v) = tt
  all_inside process in_x in_y (GetSub read v) = tt
  all_inside process in_x in_y (Put written v) = tt
  all_inside process in_x in_y (PutNumber written number) = tt
  all_inside process in_x in_y (Move read written) = tt
  all_inside process in_x in_y (Set v number) = tt
  all_inside process in_x in_y (Add v number) = tt
  all_inside process in_x in_y (Sub v number) = tt
  all_inside process in_x in_y (Neg v) = tt
  all_inside process in_x in_y (Double v) = tt
  all_inside process in_x in_y (Copy to from) = tt
  all_inside process in_x in_y Swap = tt

module _ (use_on : Use → Option Name) (name : Name) where
  none_used : (used : Option Name) (names : List Name) → is_among (as_list used ++ names) name ≡ (is_name name used || is_among names name)
  none_used None names = refl
  none_used (Some other) names = refl

  first_of : (process : ℕ) (uses rest : List Use) → AllOf process uses → first_user use_on (uses ++ rest) name ≡ cond (is_among (names_used use_on uses) name) (Some process) (first_user use_on rest name)
  first_of process [] rest is = refl
  first_of process (found ∷ uses) rest is =
      ap (λ p. cond (is_name name (use_on found)) (Some p) (first_user use_on (uses ++ rest) name)) is.0
      ∙ ap (λ o. cond (is_name name (use_on found)) (Some process) o) (first_of process uses rest is.1)
      ∙ by (is_name name (use_on found)) (is_among (names_used use_on uses) name) (first_user use_on rest name)
      ∙ ap (λ b. cond b (Some process) (first_user use_on rest name)) (sym (none_used (use_on found) (names_used use_on uses)))
    where
      by : (a b : Bool) (o : Option ℕ) → cond a (Some process) (cond b (Some process) o) ≡ cond (a || b) (Some process) o
      by true b o = refl
      by false b o = refl

  user_from : (names_in : Block Name → List Name) → ((process : ℕ) (block : Block Name) → names_used use_on (uses_in process false false block) ≡ names_in block) → (number : ℕ) (processes : List ProcessText) → first_user use_on (uses_from number processes) name ≡ position_from (λ process. is_among (names_in process.body) name) number processes
  user_from names_in same number [] = refl
  user_from names_in same number (process ∷ processes) =
      first_of number (uses_in number false false process.body) (uses_from (number + 1) processes) (all_of number false false process.body)
      ∙ ap (λ l. cond (is_among l name) (Some number) (first_user use_on (uses_from (number + 1) processes) name)) (same number process.body)
      ∙ ap (λ o. cond (is_among (names_in process.body) name) (Some number) o) (user_from names_in same (number + 1) processes)

found_some : {X : Type 0} (test : X → Bool) (number : ℕ) (xs : List X) → is_some (position_from test number xs) ≡ list_any test xs
found_some test number [] = refl
found_some test number (x ∷ xs) = by (test x) (found_some test (number + 1) xs)
  where
    by : (b : Bool) → is_some (position_from test (number + 1) xs) ≡ list_any test xs → is_some (cond b (Some number) (position_from test (number + 1) xs)) ≡ (b || list_any test xs)
    by true so = refl
    by false so = so

module _ (net : Net) (readers writers : Table) (has_readers : HasUsers readers (λ found. found.read) (uses_from 0 net.processes)) (has_writers : HasUsers writers (λ found. found.written) (uses_from 0 net.processes)) where
  reader_is : (name : Name) → has readers name ≡ is_read net name
  reader_is name = ap is_some (has_readers name ∙ user_from (λ u. u.read) name reads_in (λ process block. same_reads process false false block) 0 net.processes) ∙ found_some (λ process. is_among (reads_in process.body) name) 0 net.processes

  writer_at : (name : Name) → value_of writers name ≡ position_from (λ process. is_among (writes_in process.body) name) 0 net.processes
  writer_at name = has_writers name ∙ user_from (λ u. u.written) name writes_in (λ process block. same_writes process false false block) 0 net.processes

  writer_is : (name : Name) → has writers name ≡ is_written net name
  writer_is name = ap is_some (writer_at name) ∙ found_some (λ process. is_among (writes_in process.body) name) 0 net.processes

  -- the rule of used names
  unused_same : (kind : Kind) (d : Declaration) → unused_by net kind d.name d.line ≡ unused_by_tables readers writers d kind
  unused_same (Input position) d = ap (λ b. broken_where (not b) (Unread d.line)) (sym (reader_is d.name))
  unused_same Channel d = ap (λ b. option_or (broken_where (not b) (Unread d.line)) (broken_where (not (is_written net d.name)) (Unwritten d.line))) (sym (reader_is d.name)) ∙ ap (λ b. option_or (broken_where (not (has readers d.name)) (Unread d.line)) (broken_where (not b) (Unwritten d.line))) (sym (writer_is d.name))
  unused_same (Output position) d = ap (λ b. broken_where (not b) (Unwritten d.line)) (sym (writer_is d.name))
  unused_same Process d = refl

  pub unused_seen : first_fault (unused_fault net) (declarations net) ≡ first_fault (unused_fault_by readers writers) (declarations net)
  unused_seen = first_same (unused_fault net) (unused_fault_by readers writers) (λ earlier d. unused_same d.kind d) [] (declarations net)

  -- the rule of the order
  module _ (is_channel : Name → Bool) (has_channels : (name : Name) → is_channel name ≡ is_among (map (λ channel. channel.name) net.channels) name) where
    before_same : (writer : Option ℕ) (process : ℕ) → is_smaller writer process ≡ is_before writer process
    before_same None process = refl
    before_same (Some number) process = refl

    early_same : (process : ℕ) (used : Option Name) → reads_too_early net process used ≡ early_by_tables is_channel writers process used
    early_same process None = refl
    early_same process (Some name) =
        ap (λ b. b && not (is_before (writer_of net name) process)) (sym (has_channels name))
        ∙ ap (λ b. is_channel name && not b) (ap (λ o. is_before o process) (position_from-zero (λ process. is_among (writes_in process.body) name) net.processes ∙ sym (writer_at name)) ∙ sym (before_same (value_of writers name) process))

    pub order_seen : first_fault (order_fault net) (statements net) ≡ first_fault (order_fault_by is_channel writers) (by_line (λ found. found.line) (uses_from 0 net.processes))
    order_seen =
        first_seen use_seen (order_fault net) (order_fault_by is_channel writers) (λ earlier placed. ap (λ b. broken_where b (ReadBeforeWritten placed.line)) (early_same placed.process (read_of placed.statement))) [] (statements net)
        ∙ ap (first_fault (order_fault_by is_channel writers)) (seen_by_line net)
