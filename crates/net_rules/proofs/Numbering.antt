-- A body with numbers in place of its names, and the law that it waits.
use Rattle.std.proofs.Common.{◌≡◌, ℕ, zero, suc, ◌+◌, ◌*◌, ◌<◌, true, false, cond, Bool, List, [], ◌∷◌, ◌++◌, length, map, Some, None, inl, inr, refl, ap, subst, ◌∙◌, arith, length-append, lt-ltb, eq-eqb}
use Rattle.std.specs.Prelude.{◌||◌, ◌&&◌, not, All, unwrap_or, ◌==◌, slice_index_or}
use Rattle.std.specs.List.{list_any, position_or_len, range_with_len}
use Rattle.std.specs.Str.{bytes_eq}
use Rattle.std.proofs.lemmas.List.{length-map}
use Rattle.std.proofs.lemmas.List.Elements.{All-head, All-tail}
use Rattle.tis_base.specs.Saturation.{IsValue}
use Rattle.net_tree.specs.declared.tree.Var.{Var}
use Rattle.net_tree.specs.Tree.{Name, Statement, Get, GetAdd, GetSub, Put, PutNumber, Move, Set, Add, Sub, Neg, Double, Copy, Swap, If, While, Count, Block, Empty, Then, PortLine, ChannelLine, ProcessText, Net}
use Rattle.net_rules.specs.Uses.{read_of, as_list, reads_in, reads_inside, changes, surely_reads, reads_itself, reads_either_way}
use Rattle.net_rules.specs.Numbers.{readable, all_names, number_in, numbered, readable_count, block_with, statement_with}
use Rattle.net_rules.specs.Rules.{IsAccepted}
use Rattle.net_rules.specs.Process.{Streams, cost, process_run}
use Rattle.net_rules.specs.Sure.{changes_in, changes_inside, IsSureBlock, IsSure, HasValues}
use Rattle.net_rules.specs.Laws.{Waits, ProcessesWait}
use Rattle.net_rules.proofs.SureBodies.{IsIn, CanRead, bodies_are_sure}
use Rattle.net_rules.proofs.Counted.{stand_in, one_less}
use Rattle.net_rules.proofs.Rounds.{waits}

-- ---- other names

module _ {N M : Type 0} (name : N → M) where
  mutual
    same_sure : (block : Block N) → surely_reads (block_with name block) ≡ surely_reads block
    same_sure Empty = refl
    same_sure (Then line statement rest) =
        ap (λ b. (b || reads_either_way (statement_with name statement)) || surely_reads (block_with name rest)) (same_itself statement)
        ∙ ap (λ b. (reads_itself statement || b) || surely_reads (block_with name rest)) (same_either statement)
        ∙ ap (λ b. (reads_itself statement || reads_either_way statement) || b) (same_sure rest)

    same_either : (statement : Statement N) → reads_either_way (statement_with name statement) ≡ reads_either_way statement
    same_either (If v test first second) = ap (λ b. b && surely_reads (block_with name second)) (same_sure first) ∙ ap (λ b. surely_reads first && b) (same_sure second)
    same_either (Get read v) = refl
    same_either (GetAdd read v) = refl
    same_either (GetSub read v) = refl
    same_either (Put written v) = refl
    same_either (PutNumber written number) = refl
    same_either (Move read written) = refl
    same_either (Set v number) = refl
    same_either (Add v number) = refl
    same_either (Sub v number) = refl
    same_either (Neg v) = refl
    same_either (Double v) = refl
    same_either (Copy to from) = refl
    same_either Swap = refl
    same_either (While v test body) = refl
    same_either (Count v body) = refl

    same_itself : (statement : Statement N) → reads_itself (statement_with name statement) ≡ reads_itself statement
    same_itself (Get read v) = refl
    same_itself (GetAdd read v) = refl
    same_itself (GetSub read v) = refl
    same_itself (Put written v) = refl
    same_itself (PutNumber written number) = refl
    same_itself (Move read written) = refl
    same_itself (Set v number) = refl
    same_itself (Add v number) = refl
    same_itself (Sub v number) = refl
    same_itself (Neg v) = refl
    same_itself (Double v) = refl
    same_itself (Copy to from) = refl
    same_itself Swap = refl
    same_itself (If v test first second) = refl
    same_itself (While v test body) = refl
    same_itself (Count v body) = refl

  same_change : (var : Var) (statement : Statement N) → changes var (statement_with name statement) ≡ changes var statement
  same_change var (Get read v) = refl
  same_change var (GetAdd read v) = refl
  same_change var (GetSub read v) = refl
  same_change var (Put written v) = refl
  same_change var (PutNumber written number) = refl
  same_change var (Move read written) = refl
  same_change var (Set v number) = refl
  same_change var (Add v number) = refl
  same_change var (Sub v number) = refl
  same_change var (Neg v) = refl
  same_change var (Double v) = refl
  same_change var (Copy to from) = refl
  same_change var Swap = refl
  same_change var (If v test first second) = refl
  same_change var (While v test body) = refl
  same_change var (Count v body) = refl

  mutual
    same_changes : (var : Var) (block : Block N) → changes_in var (block_with name block) ≡ changes_in var block
    same_changes var Empty = refl
    same_changes var (Then line statement rest) =
        ap (λ b. (b || changes_inside var (statement_with name statement)) || changes_in var (block_with name rest)) (same_change var statement)
        ∙ ap (λ b. (changes var statement || b) || changes_in var (block_with name rest)) (same_inside var statement)
        ∙ ap (λ b. (changes var statement || changes_inside var statement) || b) (same_changes var rest)

    same_inside : (var : Var) (statement : Statement N) → changes_inside var (statement_with name statement) ≡ changes_inside var statement
    same_inside var (If v test first second) = ap (λ b. b || changes_in var (block_with name second)) (same_changes var first) ∙ ap (λ b. changes_in var first || b) (same_changes var second)
    same_inside var (While v test body) = same_changes var body
    same_inside var (Count v body) = same_changes var body
    same_inside var (Get read v) = refl
    same_inside var (GetAdd read v) = refl
    same_inside var (GetSub read v) = refl
    same_inside var (Put written v) = refl
    same_inside var (PutNumber written number) = refl
    same_inside var (Move read written) = refl
    same_inside var (Set v number) = refl
    same_inside var (Add v number) = refl
    same_inside var (Sub v number) = refl
    same_inside var (Neg v) = refl
    same_inside var (Double v) = refl
    same_inside var (Copy to from) = refl
    same_inside var Swap = refl

  -- a sure block with other names, of which each that could be read can be read now
  module _ (Can : N → Type 0) (Could : M → Type 0) (still : (n : N) → Can n → Could (name n)) where
    mutual
      sure_with : (block : Block N) → IsSureBlock Can block → IsSureBlock Could (block_with name block)
      sure_with Empty sure = tt
      sure_with (Then line statement rest) sure = (sure_statement_with statement sure.0, sure_with rest sure.1)

      sure_statement_with : (statement : Statement N) → IsSure Can statement → IsSure Could (statement_with name statement)
      sure_statement_with (Get read v) sure = still read sure
      sure_statement_with (GetAdd read v) sure = still read sure
      sure_statement_with (GetSub read v) sure = still read sure
      sure_statement_with (Move read written) sure = still read sure
      sure_statement_with (Put written v) sure = tt
      sure_statement_with (PutNumber written number) sure = sure
      sure_statement_with (Set v number) sure = sure
      sure_statement_with (Add v number) sure = sure
      sure_statement_with (Sub v number) sure = sure
      sure_statement_with (Neg v) sure = tt
      sure_statement_with (Double v) sure = tt
      sure_statement_with (Copy to from) sure = tt
      sure_statement_with Swap sure = tt
      sure_statement_with (If v test first second) sure = (sure_with first sure.0, sure_with second sure.1)
      sure_statement_with (While v test body) sure = (same_sure body ∙ sure.0, sure_with body sure.1)
      sure_statement_with (Count v body) sure = (same_changes v body ∙ sure.0, sure_with body sure.1)

-- ---- the number of a name that can be read

-- the first that passes stands among the first names, where one of them passes
first_within : {X : Type 0} (test : X → Bool) (xs ys : List X) → list_any test xs ≡ true → position_or_len test (xs ++ ys) < length xs
first_within test [] ys is = absurd cc
first_within test (x ∷ xs) ys is =
    elim (test x) as (λ b. test x ≡ b → (b || list_any test xs) ≡ true → cond (not b) (1 + position_or_len test (xs ++ ys)) 0 < length (x ∷ xs)) [
      | true ↦ λ passes some. omega arith
      | false ↦ λ fails later. let behind = first_within test xs ys later in omega (arith, behind)
    ] refl is

pub readable_number : (net : Net) (name : Name) → CanRead (readable net) name → number_in net name < readable_count (numbered net)
readable_number net name can =
    let outputs : List Name = map (λ output. output.name) net.outputs in
    let test : Name → Bool = bytes_eq name in
    let place : ℕ = position_or_len test (readable net ++ outputs) in
    let within : place < length (readable net) = first_within test (readable net) outputs can in
    let count : length (readable net) ≡ readable_count (numbered net) = omega (arith, length-append (map (λ input. input.name) net.inputs) (map (λ channel. channel.name) net.channels), length-map net.inputs (λ (input : PortLine). input.name), length-map net.inputs (λ (input : PortLine). input.position), length-map net.channels (λ (channel : ChannelLine). channel.name)) in
    let below : place < length (readable net ++ outputs) = omega (arith, within, length-append (readable net) outputs) in
    let found : number_in net name ≡ place = ap (λ b. unwrap_or (cond b (Some place) None) (length (all_names net))) (lt-ltb place (length (readable net ++ outputs)) below) in
    omega (arith, found, within, count)

-- ---- what a body reads is among its reads

in_left : {X : Type 0} (x : X) (xs ys : List X) → IsIn x xs → IsIn x (xs ++ ys)
in_left x [] ys is = absurd is
in_left x (first ∷ xs) ys (inl same) = inl same
in_left x (first ∷ xs) ys (inr later) = inr (in_left x xs ys later)

in_right : {X : Type 0} (x : X) (xs ys : List X) → IsIn x ys → IsIn x (xs ++ ys)
in_right x [] ys is = is
in_right x (first ∷ xs) ys is = inr (in_right x xs ys is)

module _ (Can Also : ℕ → Type 0) where
  mutual
    also : (block : Block ℕ) → IsSureBlock Can block → ((name : ℕ) → IsIn name (reads_in block) → Also name) → IsSureBlock (λ name. Can name × Also name) block
    also Empty sure reads = tt
    also (Then line statement rest) sure reads = (
      also_statement statement sure.0 (λ name is. reads name (in_left name (as_list (read_of statement)) _ is)) (λ name is. reads name (in_right name (as_list (read_of statement)) _ (in_left name (reads_inside statement) _ is))),
      also rest sure.1 (λ name is. reads name (in_right name (as_list (read_of statement)) _ (in_right name (reads_inside statement) _ is))),
    )

    also_statement : (statement : Statement ℕ) → IsSure Can statement → ((name : ℕ) → IsIn name (as_list (read_of statement)) → Also name) → ((name : ℕ) → IsIn name (reads_inside statement) → Also name) → IsSure (λ name. Can name × Also name) statement
    also_statement (Get read v) sure own inside = (sure, own read (inl refl))
    also_statement (GetAdd read v) sure own inside = (sure, own read (inl refl))
    also_statement (GetSub read v) sure own inside = (sure, own read (inl refl))
    also_statement (Move read written) sure own inside = (sure, own read (inl refl))
    also_statement (Put written v) sure own inside = tt
    also_statement (PutNumber written number) sure own inside = sure
    also_statement (Set v number) sure own inside = sure
    also_statement (Add v number) sure own inside = sure
    also_statement (Sub v number) sure own inside = sure
    also_statement (Neg v) sure own inside = tt
    also_statement (Double v) sure own inside = tt
    also_statement (Copy to from) sure own inside = tt
    also_statement Swap sure own inside = tt
    also_statement (If v test first second) sure own inside = (
      also first sure.0 (λ name is. inside name (in_left name (reads_in first) _ is)),
      also second sure.1 (λ name is. inside name (in_right name (reads_in first) _ is)),
    )
    also_statement (While v test body) sure own inside = (sure.0, also body sure.1 inside)
    also_statement (Count v body) sure own inside = (sure.0, also body sure.1 inside)

any_true : (numbers : List ℕ) (name : ℕ) → IsIn name numbers → list_any (λ read. read == name) numbers ≡ true
any_true [] name is = absurd is
any_true (first ∷ rest) name (inl same) = ap (λ b. b || list_any (λ read. read == name) rest) (eq-eqb first name same)
any_true (first ∷ rest) name (inr later) = elim (first == name) as (λ b. (b || list_any (λ read. read == name) rest) ≡ true) [ true ↦ refl | false ↦ any_true rest name later ]

-- ---- the law

stands_at : {X : Type 0} (x : X) (xs : List X) (place : ℕ) → place < length xs → slice_index_or xs place x ≡ x → IsIn x xs
stands_at x [] place within is = absurd (omega arith)
stands_at x (first ∷ rest) zero within is = inl is
stands_at x (first ∷ rest) (suc place) within is = inr (stands_at x rest place (omega arith) is)

pub of_map : {X Y : Type 0} (f : X → Y) (y : Y) (xs : List X) → IsIn y (map f xs) → (x : X) × IsIn x xs × (f x ≡ y)
of_map f y [] is = absurd is
of_map f y (first ∷ xs) (inl same) = (first, inl refl, same)
of_map f y (first ∷ xs) (inr later) = let found = of_map f y xs later in (found.0, inr found.1, found.2)

pub values_of : (processes : List ProcessText) → All (λ (process : ProcessText). HasValues process.body) processes → (process : ProcessText) → IsIn process processes → HasValues process.body
values_of [] all process is = absurd is
values_of (first ∷ rest) all process (inl same) = subst (λ (p : ProcessText). HasValues p.body) same (All-head (λ (p : ProcessText). HasValues p.body) first rest all)
values_of (first ∷ rest) all process (inr later) = values_of rest (All-tail (λ (p : ProcessText). HasValues p.body) first rest all) process later

-- a numbered body of an accepted network is sure, and reads what it can
pub numbered_sure : (net : Net) (process : ProcessText) → IsAccepted net → IsIn process net.processes → HasValues process.body →
    (surely_reads (block_with (number_in net) process.body) ≡ true) × IsSureBlock (λ name. name < readable_count (numbered net)) (block_with (number_in net) process.body)
numbered_sure net process accepted is values =
    let sure = bodies_are_sure net accepted process is values in (
      same_sure (number_in net) process.body ∙ sure.reads,
      sure_with (number_in net) (CanRead (readable net)) (λ name. name < readable_count (numbered net)) (readable_number net) process.body sure.sure,
    )

waits_over : (count : ℕ) (body : Block ℕ) (streams : Streams) (fuel : ℕ) → surely_reads body ≡ true → IsSureBlock (λ name. name < count) body → ((name : ℕ) → All IsValue (streams name)) →
    (1 + stand_in (λ name. list_any (λ read. read == name) (reads_in body)) streams (range_with_len 0 count)) * cost body < fuel → Waits (process_run body streams fuel)
waits_over count body streams fuel reads sure values enough =
    let counted : ℕ → Bool = λ name. list_any (λ read. read == name) (reads_in body) in
    waits (λ s. stand_in counted s (range_with_len 0 count)) (λ name. (name < count) × (counted name ≡ true))
    (λ s name value rest can stands. one_less counted s name value rest stands can.1 count 0 (omega arith) (omega (arith, can.0)))
    body (also (λ name. name < count) (λ name. counted name ≡ true) body sure (λ name is. any_true (reads_in body) name is)) reads streams values fuel enough

pub processes_wait : ProcessesWait
processes_wait net streams body fuel accepted values all is enough =
    let found = of_map (λ (process : ProcessText). block_with (number_in net) process.body) body net.processes (stands_at body (numbered net).processes is.0 is.1 is.2) in
    let sure = numbered_sure net found.0 accepted found.1 (values_of net.processes values found.0 found.1) in
    let count : ℕ = readable_count (numbered net) in
    waits_over count body streams fuel
    (subst (λ (b : Block ℕ). surely_reads b ≡ true) found.2 sure.0)
    (subst (λ (b : Block ℕ). IsSureBlock (λ name. name < count) b) found.2 sure.1) all enough
