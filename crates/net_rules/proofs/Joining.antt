-- Joins behind splits, by a set of numbers.
use Rattle.std.proofs.Common.{◌≡◌, ◌<◌, ◌≤◌, ℕ, ◌+◌, Bool, true, false, cond, List, [], ◌∷◌, ◌++◌, length, map, drop, get_or, Option, None, nat_eq, refl, sym, ap, ◌∙◌, arith}
use Rattle.std.specs.Prelude.{◌||◌, ◌&&◌, not, ◌==◌}
use Rattle.std.specs.List.{list_any}
use Rattle.std.proofs.Math.Path.{fun_ext}
use Rattle.std.proofs.lemmas.List.{drop_more, drop_all, map-append, append_assoc}
use Rattle.std.proofs.lemmas.Bool.Decides.{nat_tests}
use Rattle.net_tree.specs.Tree.{Name, Statement, Get, GetAdd, GetSub, Put, PutNumber, Move, Set, Add, Sub, Neg, Double, Copy, Swap, If, While, Count, Block, Empty, Then}
use Rattle.net_rules.specs.declared.statements.Use as held
use Rattle.net_rules.specs.Uses.{read_of, written_of, as_list, reads_in, reads_inside, writes_in, writes_inside, is_same_var}
use Rattle.net_tree.specs.declared.tree.Var.TheVariants.{X, Y}
use Rattle.net_rules.specs.Numbers.{block_with, statement_with}
use Rattle.std.specs.Option.{option_or}
use Rattle.net_tree.specs.declared.tree.ProcessText as held_process
use Rattle.net_tree.specs.View.{block_view, process_view}
use Rattle.net_rules.specs.Rules.{BrokenRule, JoinAfterSplit, broken_where, has_two, joins, joins_from, spread_behind}
use Rattle.net_rules.specs.Found.{Use, use_view, use_of, uses_in, uses_inside}
use Rattle.net_rules.specs.Known.{names_used}
use Rattle.net_rules.proofs.SureBodies.{IsIn, any_false}
use Rattle.net_rules.proofs.Members.{any_true, same_in, none_in, and_fixed}

-- ---- sets of numbers

added_or : (had here rest : Bool) → (had || (here || rest)) ≡ (cond here true had || rest)
added_or true true rest = refl
added_or true false rest = refl
added_or false true rest = refl
added_or false false rest = refl

-- one more number is in the set
pub one_added : (number : ℕ) (numbers : List ℕ) (index item : ℕ) (whole had has : Bool) → whole ≡ (had || list_any (λ other. other == number) (drop index numbers)) → index < length numbers → item ≡ get_or numbers index item → has ≡ cond (nat_eq item number) true had →
    whole ≡ (has || list_any (λ other. other == number) (drop (index + 1) numbers))
one_added number numbers index item whole had has so within is set =
    let rest : Bool = list_any (λ other. other == number) (drop (index + 1) numbers) in
    so ∙ ap (λ l. had || list_any (λ other. other == number) l) (drop_more numbers index item within)
    ∙ ap (λ x. had || ((x == number) || rest)) (sym is)
    ∙ added_or had (item == number) rest
    ∙ ap (λ b. b || rest) (sym set)

-- all are
pub all_added : (number : ℕ) (numbers : List ℕ) (index : ℕ) (whole has : Bool) → whole ≡ (has || list_any (λ other. other == number) (drop index numbers)) → length numbers ≤ index → has ≡ whole
all_added number numbers index whole has so past = sym (so ∙ ap (λ l. has || list_any (λ other. other == number) l) (drop_all index numbers past) ∙ no_more has)
  where
    no_more : (b : Bool) → (b || false) ≡ b
    no_more true = refl
    no_more false = refl

-- ---- the names that statements use

pub next_numbers : (number_of : Name → ℕ) (use_of : Use → Option Name) (uses : List held.Use) (index : ℕ) (item : held.Use) (whole found more : List ℕ) → whole ≡ found ++ map number_of (names_used use_of (map use_view (drop index uses))) → index < length uses → item ≡ get_or uses index item →
    more ≡ found ++ map number_of (as_list (use_of (use_view item))) → whole ≡ more ++ map number_of (names_used use_of (map use_view (drop (index + 1) uses)))
next_numbers number_of use_of uses index item whole found more so within is pushed =
    let rest : List Name = names_used use_of (map use_view (drop (index + 1) uses)) in
    so ∙ ap (λ l. found ++ map number_of (names_used use_of (map use_view l))) (drop_more uses index item within)
    ∙ ap (λ x. found ++ map number_of (as_list (use_of (use_view x)) ++ rest)) (sym is)
    ∙ ap (λ l. found ++ l) (map-append number_of (as_list (use_of (use_view item))) rest)
    ∙ sym (append_assoc found (map number_of (as_list (use_of (use_view item)))) (map number_of rest))
    ∙ ap (λ l. l ++ map number_of rest) (sym pushed)

names_joined : (use_of : Use → Option Name) (one other : List Use) → names_used use_of (one ++ other) ≡ names_used use_of one ++ names_used use_of other
names_joined use_of [] other = refl
names_joined use_of (found ∷ one) other = ap (λ l. as_list (use_of found) ++ l) (names_joined use_of one other) ∙ sym (append_assoc (as_list (use_of found)) (names_used use_of one) (names_used use_of other))

-- the names that are read are those that the statements read
mutual
  pub same_reads : (process : ℕ) (in_x in_y : Bool) (block : Block Name) → names_used (λ found. found.read) (uses_in process in_x in_y block) ≡ reads_in block
  same_reads process in_x in_y Empty = refl
  same_reads process in_x in_y (Then line statement rest) =
      ap (λ l. as_list (read_of statement) ++ l) (names_joined (λ found. found.read) (uses_inside process in_x in_y statement) (uses_in process in_x in_y rest))
      ∙ ap (λ l. as_list (read_of statement) ++ (l ++ names_used (λ found. found.read) (uses_in process in_x in_y rest))) (same_reads_inside process in_x in_y statement)
      ∙ ap (λ l. as_list (read_of statement) ++ (reads_inside statement ++ l)) (same_reads process in_x in_y rest)

  same_reads_inside : (process : ℕ) (in_x in_y : Bool) (statement : Statement Name) → names_used (λ found. found.read) (uses_inside process in_x in_y statement) ≡ reads_inside statement
  same_reads_inside process in_x in_y (If v test first second) =
      names_joined (λ found. found.read) (uses_in process in_x in_y first) (uses_in process in_x in_y second)
      ∙ ap (λ l. l ++ names_used (λ found. found.read) (uses_in process in_x in_y second)) (same_reads process in_x in_y first)
      ∙ ap (λ l. reads_in first ++ l) (same_reads process in_x in_y second)
  same_reads_inside process in_x in_y (While v test body) = same_reads process in_x in_y body
  same_reads_inside process in_x in_y (Count v body) = same_reads process (in_x || is_same_var X v) (in_y || is_same_var Y v) body
  same_reads_inside process in_x in_y (Get read v) = refl
  same_reads_inside process in_x in_y (GetAdd read v) = refl
  same_reads_inside process in_x in_y (GetSub read v) = refl
  same_reads_inside process in_x in_y (Put written v) = refl
  same_reads_inside process in_x in_y (PutNumber written number) = refl
  same_reads_inside process in_x in_y (Move read written) = refl
  same_reads_inside process in_x in_y (Set v number) = refl
  same_reads_inside process in_x in_y (Add v number) = refl
  same_reads_inside process in_x in_y (Sub v number) = refl
  same_reads_inside process in_x in_y (Neg v) = refl
  same_reads_inside process in_x in_y (Double v) = refl
  same_reads_inside process in_x in_y (Copy to from) = refl
  same_reads_inside process in_x in_y Swap = refl

-- and those that are written are those that they write
mutual
  pub same_writes : (process : ℕ) (in_x in_y : Bool) (block : Block Name) → names_used (λ found. found.written) (uses_in process in_x in_y block) ≡ writes_in block
  same_writes process in_x in_y Empty = refl
  same_writes process in_x in_y (Then line statement rest) =
      ap (λ l. as_list (written_of statement) ++ l) (names_joined (λ found. found.written) (uses_inside process in_x in_y statement) (uses_in process in_x in_y rest))
      ∙ ap (λ l. as_list (written_of statement) ++ (l ++ names_used (λ found. found.written) (uses_in process in_x in_y rest))) (same_writes_inside process in_x in_y statement)
      ∙ ap (λ l. as_list (written_of statement) ++ (writes_inside statement ++ l)) (same_writes process in_x in_y rest)

  same_writes_inside : (process : ℕ) (in_x in_y : Bool) (statement : Statement Name) → names_used (λ found. found.written) (uses_inside process in_x in_y statement) ≡ writes_inside statement
  same_writes_inside process in_x in_y (If v test first second) =
      names_joined (λ found. found.written) (uses_in process in_x in_y first) (uses_in process in_x in_y second)
      ∙ ap (λ l. l ++ names_used (λ found. found.written) (uses_in process in_x in_y second)) (same_writes process in_x in_y first)
      ∙ ap (λ l. writes_in first ++ l) (same_writes process in_x in_y second)
  same_writes_inside process in_x in_y (While v test body) = same_writes process in_x in_y body
  same_writes_inside process in_x in_y (Count v body) = same_writes process (in_x || is_same_var X v) (in_y || is_same_var Y v) body
  same_writes_inside process in_x in_y (Get read v) = refl
  same_writes_inside process in_x in_y (GetAdd read v) = refl
  same_writes_inside process in_x in_y (GetSub read v) = refl
  same_writes_inside process in_x in_y (Put written v) = refl
  same_writes_inside process in_x in_y (PutNumber written number) = refl
  same_writes_inside process in_x in_y (Move read written) = refl
  same_writes_inside process in_x in_y (Set v number) = refl
  same_writes_inside process in_x in_y (Add v number) = refl
  same_writes_inside process in_x in_y (Sub v number) = refl
  same_writes_inside process in_x in_y (Neg v) = refl
  same_writes_inside process in_x in_y (Double v) = refl
  same_writes_inside process in_x in_y (Copy to from) = refl
  same_writes_inside process in_x in_y Swap = refl

-- ---- with other names

module _ {N M : Type 0} (name : N → M) where
  both_with : (one other third : List N) (one' other' third' : List M) → one' ≡ map name one → other' ≡ map name other → third' ≡ map name third → (one' ++ (other' ++ third')) ≡ map name (one ++ (other ++ third))
  both_with one other third one' other' third' is also too =
      ap (λ l. l ++ (other' ++ third')) is ∙ ap (λ l. map name one ++ (l ++ third')) also ∙ ap (λ l. map name one ++ (map name other ++ l)) too
      ∙ ap (λ l. map name one ++ l) (sym (map-append name other third)) ∙ sym (map-append name one (other ++ third))

  two_with : (one other : List N) (one' other' : List M) → one' ≡ map name one → other' ≡ map name other → (one' ++ other') ≡ map name (one ++ other)
  two_with one other one' other' is also = ap (λ l. l ++ other') is ∙ ap (λ l. map name one ++ l) also ∙ sym (map-append name one other)

  mutual
    pub reads_with : (block : Block N) → reads_in (block_with name block) ≡ map name (reads_in block)
    reads_with Empty = refl
    reads_with (Then line statement rest) = both_with (as_list (read_of statement)) (reads_inside statement) (reads_in rest) _ _ _ (read_with statement) (reads_inside_with statement) (reads_with rest)

    reads_inside_with : (statement : Statement N) → reads_inside (statement_with name statement) ≡ map name (reads_inside statement)
    reads_inside_with (If v test first second) = two_with (reads_in first) (reads_in second) _ _ (reads_with first) (reads_with second)
    reads_inside_with (While v test body) = reads_with body
    reads_inside_with (Count v body) = reads_with body
    reads_inside_with (Get read v) = refl
    reads_inside_with (GetAdd read v) = refl
    reads_inside_with (GetSub read v) = refl
    reads_inside_with (Put written v) = refl
    reads_inside_with (PutNumber written number) = refl
    reads_inside_with (Move read written) = refl
    reads_inside_with (Set v number) = refl
    reads_inside_with (Add v number) = refl
    reads_inside_with (Sub v number) = refl
    reads_inside_with (Neg v) = refl
    reads_inside_with (Double v) = refl
    reads_inside_with (Copy to from) = refl
    reads_inside_with Swap = refl

    read_with : (statement : Statement N) → as_list (read_of (statement_with name statement)) ≡ map name (as_list (read_of statement))
    read_with (Get read v) = refl
    read_with (GetAdd read v) = refl
    read_with (GetSub read v) = refl
    read_with (Put written v) = refl
    read_with (PutNumber written number) = refl
    read_with (Move read written) = refl
    read_with (Set v number) = refl
    read_with (Add v number) = refl
    read_with (Sub v number) = refl
    read_with (Neg v) = refl
    read_with (Double v) = refl
    read_with (Copy to from) = refl
    read_with Swap = refl
    read_with (If v test first second) = refl
    read_with (While v test body) = refl
    read_with (Count v body) = refl

  mutual
    pub writes_with : (block : Block N) → writes_in (block_with name block) ≡ map name (writes_in block)
    writes_with Empty = refl
    writes_with (Then line statement rest) = both_with (as_list (written_of statement)) (writes_inside statement) (writes_in rest) _ _ _ (write_with statement) (writes_inside_with statement) (writes_with rest)

    writes_inside_with : (statement : Statement N) → writes_inside (statement_with name statement) ≡ map name (writes_inside statement)
    writes_inside_with (If v test first second) = two_with (writes_in first) (writes_in second) _ _ (writes_with first) (writes_with second)
    writes_inside_with (While v test body) = writes_with body
    writes_inside_with (Count v body) = writes_with body
    writes_inside_with (Get read v) = refl
    writes_inside_with (GetAdd read v) = refl
    writes_inside_with (GetSub read v) = refl
    writes_inside_with (Put written v) = refl
    writes_inside_with (PutNumber written number) = refl
    writes_inside_with (Move read written) = refl
    writes_inside_with (Set v number) = refl
    writes_inside_with (Add v number) = refl
    writes_inside_with (Sub v number) = refl
    writes_inside_with (Neg v) = refl
    writes_inside_with (Double v) = refl
    writes_inside_with (Copy to from) = refl
    writes_inside_with Swap = refl

    write_with : (statement : Statement N) → as_list (written_of (statement_with name statement)) ≡ map name (as_list (written_of statement))
    write_with (Get read v) = refl
    write_with (GetAdd read v) = refl
    write_with (GetSub read v) = refl
    write_with (Put written v) = refl
    write_with (PutNumber written number) = refl
    write_with (Move read written) = refl
    write_with (Set v number) = refl
    write_with (Add v number) = refl
    write_with (Sub v number) = refl
    write_with (Neg v) = refl
    write_with (Double v) = refl
    write_with (Copy to from) = refl
    write_with Swap = refl
    write_with (If v test first second) = refl
    write_with (While v test body) = refl
    write_with (Count v body) = refl

-- ---- joins

-- whether one of these numbers isn't this one
abbrev differs : List ℕ → ℕ → Bool
differs numbers one = list_any (λ other. not (other == one)) numbers

equal : (a b : ℕ) → not (a == b) ≡ false → a ≡ b
equal a b is = grind (arith, nat_tests)

-- each of some numbers tells whether there are two
pub tells_two : (numbers : List ℕ) (one : ℕ) → IsIn one numbers → differs numbers one ≡ has_two numbers
tells_two numbers one is = by (differs numbers one) refl
  where
    by : (b : Bool) → differs numbers one ≡ b → differs numbers one ≡ has_two numbers
    by true two = two ∙ sym (any_true (differs numbers) numbers one is two)
    by false same = same ∙ sym (none_in (differs numbers) numbers (λ other among. ap (differs numbers) (equal other one (any_false (λ x. not (x == one)) numbers same other among)) ∙ same))

pub joins_is : (spread : ℕ → Bool) (body : Block ℕ) (reads : List ℕ) → reads_in body ≡ reads → (list_any spread reads && has_two reads) ≡ joins spread body
joins_is spread body reads is =
    sym (and_fixed spread (has_two reads) reads) ∙ same_in (λ x. spread x && has_two reads) (λ x. spread x && differs reads x) reads (λ x among. ap (λ b. spread x && b) (sym (tells_two reads x among)))
    ∙ ap (λ l. list_any (λ x. spread x && differs l x) l) (sym is)

and_when : (a b : Bool) → a ≡ true → b ≡ (a && b)
and_when a b is = ap (λ x. x && b) (sym is)

and_not : (a b : Bool) → a ≡ false → a ≡ (a && b)
and_not true b is = absurd cc
and_not false b is = refl

pub joins_both : (spread : ℕ → Bool) (body : Block ℕ) (reads : List ℕ) (one other : Bool) → one ≡ list_any spread reads → other ≡ has_two reads → one ≡ true → reads_in body ≡ reads → other ≡ joins spread body
joins_both spread body reads one other one_is other_is passes is = other_is ∙ and_when (list_any spread reads) (has_two reads) (sym one_is ∙ passes) ∙ joins_is spread body reads is

pub joins_none : (spread : ℕ → Bool) (body : Block ℕ) (reads : List ℕ) (one : Bool) → one ≡ list_any spread reads → one ≡ false → reads_in body ≡ reads → one ≡ joins spread body
joins_none spread body reads one one_is fails is = one_is ∙ and_not (list_any spread reads) (has_two reads) (sym one_is ∙ fails) ∙ joins_is spread body reads is

-- ---- the numbers of a body

module _ (number_of : Name → ℕ) (process : ℕ) (body : Block Name) (uses : List held.Use) (found : map use_view uses ≡ uses_in process false false body) where
  pub reads_found : (reads : List ℕ) → reads ≡ map number_of (names_used (λ u. u.read) (map use_view uses)) → reads_in (block_with number_of body) ≡ reads
  reads_found reads is = reads_with number_of body ∙ ap (map number_of) (sym (same_reads process false false body)) ∙ ap (λ l. map number_of (names_used (λ u. u.read) l)) (sym found) ∙ sym is

  pub writes_found : (writes : List ℕ) → writes ≡ map number_of (names_used (λ u. u.written) (map use_view uses)) → writes_in (block_with number_of body) ≡ writes
  writes_found writes is = writes_with number_of body ∙ ap (map number_of) (sym (same_writes process false false body)) ∙ ap (λ l. map number_of (names_used (λ u. u.written) l)) (sym found) ∙ sym is

-- one more process was looked at
pub next_join : (number_of : Name → ℕ) (processes : List held_process.ProcessText) (index : ℕ) (item : held_process.ProcessText) (whole : Option BrokenRule) (spread new : ℕ → Bool) (number : ℕ) →
    whole ≡ joins_from spread number (map (λ process. block_with number_of process.body) (map process_view (drop index processes))) → index < length processes → item ≡ get_or processes index item →
    broken_where (joins spread (block_with number_of (block_view item.body))) (JoinAfterSplit number) ≡ None → ((name : ℕ) → new name ≡ spread_behind spread (block_with number_of (block_view item.body)) name) →
    whole ≡ joins_from new (number + 1) (map (λ process. block_with number_of process.body) (map process_view (drop (index + 1) processes)))
next_join number_of processes index item whole spread new number so within is none behind =
    let rest : List (Block ℕ) = map (λ process. block_with number_of process.body) (map process_view (drop (index + 1) processes)) in
    let body : Block ℕ = block_with number_of (block_view item.body) in
    let same : new ≡ spread_behind spread body = fun_ext behind in
    so ∙ ap (λ l. joins_from spread number (map (λ process. block_with number_of process.body) (map process_view l))) (drop_more processes index item within)
    ∙ ap (λ x. option_or (broken_where (joins spread (block_with number_of (block_view x.body))) (JoinAfterSplit number)) (joins_from (spread_behind spread (block_with number_of (block_view x.body))) (number + 1) rest)) (sym is)
    ∙ ap (λ o. option_or o (joins_from (spread_behind spread body) (number + 1) rest)) none
    ∙ ap (λ s. joins_from s (number + 1) rest) (sym same)
