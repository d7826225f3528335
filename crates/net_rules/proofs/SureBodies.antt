-- What it says of each body that no rule is broken.
use Rattle.std.proofs.Common.{◌≡◌, ℕ, ◌+◌, true, false, cond, Bool, List, [], ◌∷◌, ◌++◌, Option, Some, None, inl, inr, refl, sym, ap, subst, ◌∙◌}
use Rattle.std.specs.Prelude.{◌||◌, ◌⊎◌, not, nat_le}
use Rattle.std.specs.List.{list_any}
use Rattle.std.specs.Option.{option_or}
use Rattle.net_tree.specs.declared.tree.Var.{Var}
use Rattle.net_tree.specs.Tree.{Name, Statement, Get, GetAdd, GetSub, Put, PutNumber, Move, Set, Add, Sub, Neg, Double, Copy, Swap, If, While, Count, Block, Empty, Then, ProcessText, Net}
use Rattle.net_rules.specs.Uses.{read_of, written_of, changes, surely_reads}
use Rattle.net_rules.specs.Numbers.{readable, writable, numbered}
use Rattle.net_rules.specs.Rules.{BrokenRule, Unknown, ReadTwice, WrittenTwice, CounterChanged, NoSureRead, LoopWithoutRead, broken_where, used_elsewhere, joins_from, placed_by, by_line, first_among, first_fault, Placed, placed_in, placed_inside, placed_from, statements, isnt_among, is_among, statement_fault, loops_without_read, loop_fault, sure_read_fault, sure_reads_from, IsAccepted, declaration_fault, declarations, unused_fault, order_fault}
use Rattle.net_rules.specs.Sure.{changes_in, changes_inside, IsSureBlock, IsSure, HasValues, StatementHasValues}

-- ---- what stands in a list

-- an element stands first or behind the first
abbrev pub IsIn : {X : Type 0} → X → List X → Type 0
IsIn x [] = ⊥
IsIn x (first ∷ rest) = (first ≡ x) ⊎ IsIn x rest

in_left : {X : Type 0} (x : X) (xs ys : List X) → IsIn x xs → IsIn x (xs ++ ys)
in_left x [] ys is = absurd is
in_left x (first ∷ xs) ys (inl same) = inl same
in_left x (first ∷ xs) ys (inr later) = inr (in_left x xs ys later)

in_right : {X : Type 0} (x : X) (xs ys : List X) → IsIn x ys → IsIn x (xs ++ ys)
in_right x [] ys is = is
in_right x (first ∷ xs) ys is = inr (in_right x xs ys is)

still_placed : {X : Type 0} (line : X → ℕ) (x y : X) (xs : List X) → IsIn y (x ∷ xs) → IsIn y (placed_by line x xs)
still_placed line x y [] is = is
still_placed line x y (next ∷ rest) is =
    elim (nat_le (line x) (line next)) as (λ b. IsIn y (cond b (x ∷ next ∷ rest) (next ∷ placed_by line x rest))) [
      | true ↦ is
      | false ↦ elim is [
        | inl first ↦ inr (still_placed line x y rest (inl first))
        | inr other ↦ elim other [
          | inl here ↦ inl here
          | inr later ↦ inr (still_placed line x y rest (inr later))
        ]
      ]
    ]

-- what stands in a list stands in it by line
in_order : {X : Type 0} (line : X → ℕ) (y : X) (xs : List X) → IsIn y xs → IsIn y (by_line line xs)
in_order line y [] is = is
in_order line y (x ∷ xs) (inl same) = still_placed line x y (by_line line xs) (inl same)
in_order line y (x ∷ xs) (inr later) = still_placed line x y (by_line line xs) (inr (in_order line y xs later))

-- ---- where no rule is broken

pub neither : (one other : Option BrokenRule) → option_or one other ≡ None → (one ≡ None) × (other ≡ None)
neither None other is = (refl, is)
neither (Some rule) other is = absurd cc

pub no_test : (test : Bool) (rule : BrokenRule) → broken_where test rule ≡ None → test ≡ false
no_test true rule is = absurd cc
no_test false rule is = refl

each_among : {X : Type 0} (fault : List X → X → Option BrokenRule) (earlier xs : List X) → first_among fault earlier xs ≡ None → (x : X) → IsIn x xs → (before : List X) × (fault before x ≡ None)
each_among fault earlier [] none x is = absurd is
each_among fault earlier (first ∷ xs) none x is =
    let parts = neither (fault earlier first) (first_among fault (first ∷ earlier) xs) none in
    elim is [
      | inl same ↦ (earlier, ap (fault earlier) (sym same) ∙ parts.0)
      | inr later ↦ each_among fault (first ∷ earlier) xs parts.1 x later
    ]

pub any_false : {X : Type 0} (test : X → Bool) (xs : List X) → list_any test xs ≡ false → (x : X) → IsIn x xs → test x ≡ false
any_false test [] none x is = absurd is
any_false test (first ∷ xs) none x is =
    elim (test first) as (λ b. test first ≡ b → (b || list_any test xs) ≡ false → test x ≡ false) [
      | true ↦ λ passes some. absurd cc
      | false ↦ λ fails rest. elim is [
        | inl same ↦ ap test (sym same) ∙ fails
        | inr later ↦ any_false test xs rest x later
      ]
    ] refl none

no_loop : (placed : List Placed) → loop_fault placed ≡ None → (one : Placed) → IsIn one placed → loops_without_read one.statement ≡ false
no_loop [] none one is = absurd is
no_loop (first ∷ rest) none one is =
    elim (loops_without_read first.statement) as (λ b. loops_without_read first.statement ≡ b → cond b (Some (LoopWithoutRead first.line)) (loop_fault rest) ≡ None → loops_without_read one.statement ≡ false) [
      | true ↦ λ loops some. absurd cc
      | false ↦ λ reads later. elim is [
        | inl same ↦ ap (λ (p : Placed). loops_without_read p.statement) (sym same) ∙ reads
        | inr behind ↦ no_loop rest later one behind
      ]
    ] refl none

pub neither_false : (one other : Bool) → one ≡ false → other ≡ false → (one || other) ≡ false
neither_false one other first second = ap (λ b. b || other) first ∙ second

-- ---- one body

-- inside a `count` its variable isn't changed
abbrev KeepsCounters : Placed → Type 0
KeepsCounters placed = list_any (λ counter. changes counter placed.statement) placed.counters ≡ false

mutual
  unchanged : (var : Var) (block : Block Name) (process : ℕ) (counters : List Var) → IsIn var counters → ((placed : Placed) → IsIn placed (placed_in process counters block) → KeepsCounters placed) → changes_in var block ≡ false
  unchanged var Empty process counters is keeps = refl
  unchanged var (Then line statement rest) process counters is keeps =
      let here : Placed = record { line = line; process = process; counters = counters; statement = statement } in
      neither_false (changes var statement || changes_inside var statement) (changes_in var rest)
      (neither_false (changes var statement) (changes_inside var statement)
      (any_false (λ counter. changes counter statement) counters (keeps here (inl refl)) var is)
      (unchanged_inside var statement process counters is (λ placed among. keeps placed (inr (in_left placed _ _ among)))))
      (unchanged var rest process counters is (λ placed among. keeps placed (inr (in_right placed (placed_inside process counters statement) _ among))))

  unchanged_inside : (var : Var) (statement : Statement Name) (process : ℕ) (counters : List Var) → IsIn var counters → ((placed : Placed) → IsIn placed (placed_inside process counters statement) → KeepsCounters placed) → changes_inside var statement ≡ false
  unchanged_inside var (If v test first second) process counters is keeps =
      neither_false (changes_in var first) (changes_in var second)
      (unchanged var first process counters is (λ placed among. keeps placed (in_left placed _ _ among)))
      (unchanged var second process counters is (λ placed among. keeps placed (in_right placed (placed_in process counters first) _ among)))
  unchanged_inside var (While v test body) process counters is keeps = unchanged var body process counters is keeps
  unchanged_inside var (Count v body) process counters is keeps = unchanged var body process (v ∷ counters) (inr is) keeps
  unchanged_inside var (Get read v) process counters is keeps = refl
  unchanged_inside var (GetAdd read v) process counters is keeps = refl
  unchanged_inside var (GetSub read v) process counters is keeps = refl
  unchanged_inside var (Put written v) process counters is keeps = refl
  unchanged_inside var (PutNumber written number) process counters is keeps = refl
  unchanged_inside var (Move read written) process counters is keeps = refl
  unchanged_inside var (Set v number) process counters is keeps = refl
  unchanged_inside var (Add v number) process counters is keeps = refl
  unchanged_inside var (Sub v number) process counters is keeps = refl
  unchanged_inside var (Neg v) process counters is keeps = refl
  unchanged_inside var (Double v) process counters is keeps = refl
  unchanged_inside var (Copy to from) process counters is keeps = refl
  unchanged_inside var Swap process counters is keeps = refl

module _ (names : List Name) where
  -- what is known of a statement where it stands
  record IsGood (placed : Placed) : Type 0 where
    pub known : isnt_among names (read_of placed.statement) ≡ false
    pub keeps : KeepsCounters placed
    pub reads : loops_without_read placed.statement ≡ false

  abbrev pub CanRead : Name → Type 0
  CanRead name = is_among names name ≡ true

  not_false : (test : Bool) → not test ≡ false → test ≡ true
  not_false true is = refl
  not_false false is = absurd cc

  mutual
    sure_block : (block : Block Name) (process : ℕ) (counters : List Var) → ((placed : Placed) → IsIn placed (placed_in process counters block) → IsGood placed) → HasValues block → IsSureBlock CanRead block
    sure_block Empty process counters good values = tt
    sure_block (Then line statement rest) process counters good values =
        let here : Placed = record { line = line; process = process; counters = counters; statement = statement } in (
          sure_statement statement process counters line (good here (inl refl)) (λ placed among. good placed (inr (in_left placed _ _ among))) values.0,
          sure_block rest process counters (λ placed among. good placed (inr (in_right placed (placed_inside process counters statement) _ among))) values.1,
        )

    sure_statement : (statement : Statement Name) (process : ℕ) (counters : List Var) (line : ℕ) → IsGood (record { line = line; process = process; counters = counters; statement = statement }) →
        ((placed : Placed) → IsIn placed (placed_inside process counters statement) → IsGood placed) → StatementHasValues statement → IsSure CanRead statement
    sure_statement (Get read v) process counters line good inside values = not_false (is_among names read) good.known
    sure_statement (GetAdd read v) process counters line good inside values = not_false (is_among names read) good.known
    sure_statement (GetSub read v) process counters line good inside values = not_false (is_among names read) good.known
    sure_statement (Move read written) process counters line good inside values = not_false (is_among names read) good.known
    sure_statement (Put written v) process counters line good inside values = tt
    sure_statement (PutNumber written number) process counters line good inside values = values
    sure_statement (Set v number) process counters line good inside values = values
    sure_statement (Add v number) process counters line good inside values = values
    sure_statement (Sub v number) process counters line good inside values = values
    sure_statement (Neg v) process counters line good inside values = tt
    sure_statement (Double v) process counters line good inside values = tt
    sure_statement (Copy to from) process counters line good inside values = tt
    sure_statement Swap process counters line good inside values = tt
    sure_statement (If v test first second) process counters line good inside values = (
      sure_block first process counters (λ placed among. inside placed (in_left placed _ _ among)) values.0,
      sure_block second process counters (λ placed among. inside placed (in_right placed (placed_in process counters first) _ among)) values.1,
    )
    sure_statement (While v test body) process counters line good inside values = (not_false (surely_reads body) good.reads, sure_block body process counters inside values)
    sure_statement (Count v body) process counters line good inside values = (
      unchanged v body process (v ∷ counters) (inl refl) (λ placed among. (inside placed among).keeps),
      sure_block body process (v ∷ counters) inside values,
    )

-- ---- all bodies

-- a body is sure, and each of its rounds reads
pub record IsSureBody (names : List Name) (body : Block Name) : Type 0 where
  pub reads : surely_reads body ≡ true
  pub sure : IsSureBlock (CanRead names) body

module _ (net : Net) where
  -- what is known of each statement by the second rule
  good_by_rules : (placed : Placed) → first_fault (statement_fault net) (statements net) ≡ None → IsIn placed (placed_from 0 net.processes) → (isnt_among (readable net) (read_of placed.statement) ≡ false) × KeepsCounters placed
  good_by_rules placed none is =
      let found = each_among (statement_fault net) [] (statements net) none placed (in_order (λ (p : Placed). p.line) placed (placed_from 0 net.processes) is) in
      let earlier : List Placed = found.0 in
      let unknown : Option BrokenRule = broken_where (isnt_among (writable net) (written_of placed.statement)) (Unknown placed.line) in
      let twice_read : Option BrokenRule = broken_where (used_elsewhere read_of earlier placed.process (read_of placed.statement)) (ReadTwice placed.line) in
      let twice_written : Option BrokenRule = broken_where (used_elsewhere written_of earlier placed.process (written_of placed.statement)) (WrittenTwice placed.line) in
      let counter : Option BrokenRule = broken_where (list_any (λ c. changes c placed.statement) placed.counters) (CounterChanged placed.line) in
      let first = neither (broken_where (isnt_among (readable net) (read_of placed.statement)) (Unknown placed.line)) (option_or unknown (option_or twice_read (option_or twice_written counter))) found.1 in
      let second = neither unknown (option_or twice_read (option_or twice_written counter)) first.1 in
      let third = neither twice_read (option_or twice_written counter) second.1 in
      let fourth = neither twice_written counter third.1 in
      (no_test (isnt_among (readable net) (read_of placed.statement)) (Unknown placed.line) first.0, no_test (list_any (λ c. changes c placed.statement) placed.counters) (CounterChanged placed.line) fourth.1)

  sure_from : (number : ℕ) (processes : List ProcessText) → sure_reads_from number processes ≡ None →
      ((placed : Placed) → IsIn placed (placed_from number processes) → (isnt_among (readable net) (read_of placed.statement) ≡ false) × KeepsCounters placed) →
      (process : ProcessText) → IsIn process processes → HasValues process.body → IsSureBody (readable net) process.body
  sure_from number [] none good process is values = absurd is
  sure_from number (first ∷ processes) none good process is values =
      let parts = neither (sure_read_fault number first.body) (sure_reads_from (number + 1) processes) none in
      let reads = neither (broken_where (not (surely_reads first.body)) (NoSureRead number)) (loop_fault (by_line (λ p. p.line) (placed_in number [] first.body))) parts.0 in
      elim is [
        | inl same ↦ subst (λ (p : ProcessText). HasValues p.body → IsSureBody (readable net) p.body) same (λ has. record {
          reads = is_true (surely_reads first.body) (no_test (not (surely_reads first.body)) (NoSureRead number) reads.0);
          sure = sure_block (readable net) first.body number [] (λ placed among.
              let known = good placed (in_left placed _ _ among) in
              record { known = known.0; keeps = known.1; reads = no_loop (by_line (λ p. p.line) (placed_in number [] first.body)) reads.1 placed (in_order (λ (p : Placed). p.line) placed (placed_in number [] first.body) among) }) has;
        }) values
        | inr later ↦ sure_from (number + 1) processes parts.1 (λ placed among. good placed (in_right placed (placed_in number [] first.body) _ among)) process later values
      ]
    where
      is_true : (test : Bool) → not test ≡ false → test ≡ true
      is_true true is = refl
      is_true false is = absurd cc

  pub bodies_are_sure : IsAccepted net → (process : ProcessText) → IsIn process net.processes → HasValues process.body → IsSureBody (readable net) process.body
  bodies_are_sure accepted process is values =
      let joins : Option BrokenRule = joins_from (λ name. false) 0 (numbered net).processes in
      let sure : Option BrokenRule = option_or (sure_reads_from 0 net.processes) joins in
      let order : Option BrokenRule = option_or (first_fault (order_fault net) (statements net)) sure in
      let unused : Option BrokenRule = option_or (first_fault (unused_fault net) (declarations net)) order in
      let first = neither (first_fault declaration_fault (declarations net)) (option_or (first_fault (statement_fault net) (statements net)) unused) accepted in
      let second = neither (first_fault (statement_fault net) (statements net)) unused first.1 in
      let third = neither (first_fault (unused_fault net) (declarations net)) order second.1 in
      let fourth = neither (first_fault (order_fault net) (statements net)) sure third.1 in
      let fifth = neither (sure_reads_from 0 net.processes) joins fourth.1 in
      sure_from 0 net.processes fifth.0 (λ placed among. good_by_rules placed second.0 among) process is values
