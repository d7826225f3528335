-- How many instructions a block has, counted by a walk through it, and that they are few where the statements are.
use Rattle.std.proofs.Common.{◌≡◌, ◌≤◌, ◌<◌, ℕ, zero, suc, ◌+◌, ◌*◌, ◌^◌, Bool, true, false, cond, List, [], ◌∷◌, length, drop, map, get_or, refl, sym, ap, ◌∙◌, arith}
use Rattle.std.specs.Prelude.{Some, slice_get, option_map, sum_by}
use Rattle.std.specs.Prelude.{◌==◌}
use Rattle.std.proofs.lemmas.Bool.{ne_eqb}
use Rattle.std.proofs.lemmas.List.{drop_all}
use Rattle.std.proofs.lemmas.List.Sums.{sum_by-cons}
use Rattle.tis_asm.specs.declared.instr.Instr.TheVariants.{Nop}
use Rattle.net_tree.specs.declared.tree.Var.{Var}
use Rattle.net_tree.specs.declared.tree.Var.TheVariants.{X, Y}
use Rattle.net_tree.specs.declared.tree.Test.{Test}
use Rattle.net_tree.specs.Tree.{Name, Statement, Get, GetAdd, GetSub, Put, PutNumber, Move, Set, Add, Sub, Neg, Double, Copy, Swap, If, While, Count, Block, Empty, Then, statements_of, ProcessText, Net}
use Rattle.net_rules.specs.Numbers.{block_with, statement_with, number_in, numbered}
use Rattle.net_rules.specs.Sizes.{statements_in, statements_inside, statement_count, held_count}
use Rattle.net_rules.proofs.Walks.{next_sum}
use Rattle.net_rules.proofs.Counting.{Counts, counts_on, counts_end}
use Rattle.net_select.specs.Selection.{on, copy_code, jumps_where_held, if_frame, leaving_frame, entering_frame, while_frame, count_frame, jumped, statement_lines, block_lines}

-- ---- by a walk

-- how many instructions these statements have
abbrev pub lines_in : List (ℕ × Statement ℕ) → ℕ
lines_in statements = sum_by (λ s. statement_lines s.1) statements

pub lines_in_all : (block : Block ℕ) → block_lines block ≡ lines_in (statements_of block)
lines_in_all Empty = refl
lines_in_all (Then line statement rest) = ap (λ (n : ℕ). statement_lines statement + n) (lines_in_all rest) ∙ sym (sum_by-cons (λ (s : ℕ × Statement ℕ). statement_lines s.1) (line, statement) (statements_of rest))

-- one more statement was counted
pub lines_next : (block : Block ℕ) (index : ℕ) (statement : Statement ℕ) (lines one new : ℕ) → Counts (block_lines block) (lines_in (drop index (statements_of block))) lines → option_map (λ s. s.1) (slice_get (statements_of block) index) ≡ Some statement →
    one ≡ held_count (statement_lines statement) → new ≡ held_count (lines + one) → Counts (block_lines block) (lines_in (drop (index + 1) (statements_of block))) new
lines_next block index statement lines one new counts here one_is new_is =
    counts_on (block_lines block) (lines_in (drop index (statements_of block))) (lines_in (drop (index + 1) (statements_of block))) (statement_lines statement) lines one new counts (next_sum statement_lines (statements_of block) index statement here) one_is new_is

-- all were counted
pub lines_done : (block : Block ℕ) (index lines : ℕ) → Counts (block_lines block) (lines_in (drop index (statements_of block))) lines → length (statements_of block) ≤ index → lines ≡ held_count (block_lines block)
lines_done block index lines counts past = counts_end (block_lines block) (lines_in (drop index (statements_of block))) lines counts (ap lines_in (drop_all index (statements_of block) past))

-- ---- an `if`

-- a block with code that is jumped to
pub reached_some : (lines : ℕ) → 0 < lines → if_frame X lines ≡ 2
reached_some lines some = ap (λ (b : Bool). cond b 1 2) (ne_eqb lines 0 (λ e. omega arith))

-- a count that stops at the greatest number is none exactly where the count is
frame_held : (var : Var) (n : ℕ) → if_frame var (held_count n) ≡ if_frame var n
frame_held X zero = refl
frame_held X (suc n) = reached_some (held_count (suc n)) (omega arith) ∙ sym (reached_some (suc n) (omega arith))
frame_held Y n = refl

-- counts that stop at the greatest number give the count that does
pub if_held : (var : Var) (test : Test) (first second : ℕ) → held_count (if_frame var (jumped test (held_count first) (held_count second)) + (held_count first + held_count second)) ≡ held_count (if_frame var (jumped test first second) + (first + second))
if_held var test first second = by (jumps_where_held test)
  where
    by : (b : Bool) → held_count (if_frame var (cond b (held_count first) (held_count second)) + (held_count first + held_count second)) ≡ held_count (if_frame var (cond b first second) + (first + second))
    by true = let same = frame_held var first in omega (arith, same)
    by false = let same = frame_held var second in omega (arith, same)

-- ---- few statements have few instructions

on_few : (var : Var) → length (on var (Nop ∷ [])) ≤ 9
on_few X = omega arith
on_few Y = omega arith

copy_few : (to from : Var) → length (copy_code to from) ≤ 9
copy_few X X = omega arith
copy_few X Y = omega arith
copy_few Y X = omega arith
copy_few Y Y = omega arith

if_few : (var : Var) (n : ℕ) → if_frame var n ≤ 9
if_few X n = by (n == 0)
  where
    by : (b : Bool) → cond b 1 2 ≤ 9
    by true = omega arith
    by false = omega arith
if_few Y n = omega arith

while_few : (var : Var) (test : Test) → while_frame var test ≤ 9
while_few var test = by (jumps_where_held test) var
  where
    by : (b : Bool) (v : Var) → cond b (entering_frame v) (leaving_frame v) ≤ 9
    by true X = omega arith
    by true Y = omega arith
    by false X = omega arith
    by false Y = omega arith

count_few : (var : Var) → count_frame var ≤ 9
count_few X = omega arith
count_few Y = omega arith

mutual
  statement_few : (statement : Statement ℕ) → statement_lines statement ≤ 9 * (1 + statements_inside statement)
  statement_few (Get read var) = let few = on_few var in omega (arith, few)
  statement_few (GetAdd read var) = let few = on_few var in omega (arith, few)
  statement_few (GetSub read var) = let few = on_few var in omega (arith, few)
  statement_few (Put written var) = let few = on_few var in omega (arith, few)
  statement_few (PutNumber written number) = omega arith
  statement_few (Move read written) = omega arith
  statement_few (Set var number) = let few = on_few var in omega (arith, few)
  statement_few (Add var number) = let few = on_few var in omega (arith, few)
  statement_few (Sub var number) = let few = on_few var in omega (arith, few)
  statement_few (Neg var) = let few = on_few var in omega (arith, few)
  statement_few (Double var) = let few = on_few var in omega (arith, few)
  statement_few (Copy to from) = let few = copy_few to from in omega (arith, few)
  statement_few Swap = omega arith
  statement_few (If var test first second) =
      let few = if_few var (jumped test (block_lines first) (block_lines second)) in
      let one = block_few first in
      let other = block_few second in
      omega (arith, few, one, other)
  statement_few (While var test body) = let few = while_few var test in let more = block_few body in omega (arith, few, more)
  statement_few (Count var body) = let few = count_few var in let more = block_few body in omega (arith, few, more)

  pub block_few : (block : Block ℕ) → block_lines block ≤ 9 * statements_in block
  block_few Empty = omega arith
  block_few (Then line statement rest) = let one = statement_few statement in let more = block_few rest in omega (arith, one, more)

-- ---- the statements of a network

mutual
  -- other names leave the number of statements
  inside_with : {N M : Type 0} (name : N → M) (statement : Statement N) → statements_inside (statement_with name statement) ≡ statements_inside statement
  inside_with name (Get read var) = refl
  inside_with name (GetAdd read var) = refl
  inside_with name (GetSub read var) = refl
  inside_with name (Put written var) = refl
  inside_with name (PutNumber written number) = refl
  inside_with name (Move read written) = refl
  inside_with name (Set var number) = refl
  inside_with name (Add var number) = refl
  inside_with name (Sub var number) = refl
  inside_with name (Neg var) = refl
  inside_with name (Double var) = refl
  inside_with name (Copy to from) = refl
  inside_with name Swap = refl
  inside_with name (If var test first second) = let one = in_with name first in let other = in_with name second in omega (arith, one, other)
  inside_with name (While var test body) = in_with name body
  inside_with name (Count var body) = in_with name body

  in_with : {N M : Type 0} (name : N → M) (block : Block N) → statements_in (block_with name block) ≡ statements_in block
  in_with name Empty = refl
  in_with name (Then line statement rest) = let one = inside_with name statement in let more = in_with name rest in omega (arith, one, more)

-- a process has no more statements than all have
few_at : (name : Name → ℕ) (processes : List ProcessText) (index : ℕ) → statements_in (get_or (map (λ process. block_with name process.body) processes) index Empty) ≤ sum_by (λ (process : ProcessText). statements_in process.body) processes
few_at name [] index = omega arith
few_at name (process ∷ processes) zero =
    let same = in_with name process.body in
    let all = sum_by-cons (λ (p : ProcessText). statements_in p.body) process processes in
    omega (arith, same, all)
few_at name (process ∷ processes) (suc index) =
    let few = few_at name processes index in
    let all = sum_by-cons (λ (p : ProcessText). statements_in p.body) process processes in
    omega (arith, few, all)

-- the code of a process of a network of fewer than 2^31 statements is no longer than 64 bits tell
pub lines_held : (net : Net) (index : ℕ) → statement_count net < 2 ^ 31 → held_count (block_lines (get_or (numbered net).processes index Empty)) ≡ block_lines (get_or (numbered net).processes index Empty)
lines_held net index small =
    let few = few_at (number_in net) net.processes index in
    let lines = block_few (get_or (numbered net).processes index Empty) in
    omega (arith, few, lines)
