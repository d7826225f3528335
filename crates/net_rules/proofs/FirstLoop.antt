-- The least line of a `while` without a read, found by a walk, is that of the first one by line.
use Rattle.std.proofs.Common.{◌≡◌, ◌≤◌, ℕ, zero, suc, ◌+◌, Bool, true, false, cond, List, [], ◌∷◌, ◌++◌, length, drop, refl, sym, ap, ◌∙◌, arith}
use Rattle.std.specs.Prelude.{Option, Some, None, slice_get, option_map}
use Rattle.std.proofs.lemmas.List.{drop_all}
use Rattle.net_tree.specs.declared.tree.Var.{Var}
use Rattle.net_tree.specs.Tree.{Name, Statement, Get, GetAdd, GetSub, Put, PutNumber, Move, Set, Add, Sub, Neg, Double, Copy, Swap, If, While, Count, Block, Empty, Then, statements_of}
use Rattle.net_rules.specs.Rules.{LoopWithoutRead, Placed, placed_in, placed_inside, by_line, loops_without_read, loop_fault}
use Rattle.net_rules.specs.Loops.{lesser, own_loop, block_loop, inner_loop, IsFirstLoop}
use Rattle.net_rules.proofs.LineOrder.{first_line, least_line, first_is_least}
use Rattle.net_rules.proofs.Walks.{no_statement}

lesser_none : (a : Option ℕ) → lesser a None ≡ a
lesser_none None = refl
lesser_none (Some n) = refl

lesser_both : (a b c : Option ℕ) → lesser (lesser a b) c ≡ lesser a (lesser b c)
lesser_both None b c = refl
lesser_both (Some n) None c = refl
lesser_both (Some n) (Some m) None = refl
lesser_both (Some n) (Some m) (Some k) = ap (λ (l : ℕ). Some l) (omega arith)

-- ---- by line

abbrev line_of : Placed → ℕ
line_of placed = placed.line

abbrev loops : Placed → Bool
loops placed = loops_without_read placed.statement

fault_is : (xs : List Placed) → loop_fault xs ≡ option_map LoopWithoutRead (first_line line_of loops xs)
fault_is [] = refl
fault_is (x ∷ xs) = by (loops x) (fault_is xs)
  where
    by : (b : Bool) → loop_fault xs ≡ option_map LoopWithoutRead (first_line line_of loops xs) → cond b (Some (LoopWithoutRead x.line)) (loop_fault xs) ≡ option_map LoopWithoutRead (cond b (Some x.line) (first_line line_of loops xs))
    by true more = refl
    by false more = more

least_both : (xs ys : List Placed) → least_line line_of loops (xs ++ ys) ≡ lesser (least_line line_of loops xs) (least_line line_of loops ys)
least_both [] ys = refl
least_both (x ∷ xs) ys = ap (lesser (cond (loops x) (Some x.line) None)) (least_both xs ys) ∙ sym (lesser_both (cond (loops x) (Some x.line) None) (least_line line_of loops xs) (least_line line_of loops ys))

mutual
  block_least : (block : Block Name) (process : ℕ) (counters : List Var) → least_line line_of loops (placed_in process counters block) ≡ block_loop block
  block_least Empty process counters = refl
  block_least (Then line statement rest) process counters =
      ap (lesser (own_loop line statement)) (least_both (placed_inside process counters statement) (placed_in process counters rest)
      ∙ ap (λ (o : Option ℕ). lesser o (least_line line_of loops (placed_in process counters rest))) (inner_least statement process counters)
      ∙ ap (lesser (inner_loop statement)) (block_least rest process counters))

  inner_least : (statement : Statement Name) (process : ℕ) (counters : List Var) → least_line line_of loops (placed_inside process counters statement) ≡ inner_loop statement
  inner_least (If var test first second) process counters =
      least_both (placed_in process counters first) (placed_in process counters second)
      ∙ ap (λ (o : Option ℕ). lesser o (least_line line_of loops (placed_in process counters second))) (block_least first process counters)
      ∙ ap (lesser (block_loop first)) (block_least second process counters)
  inner_least (While var test body) process counters = block_least body process counters
  inner_least (Count var body) process counters = block_least body process (var ∷ counters)
  inner_least (Get read var) process counters = refl
  inner_least (GetAdd read var) process counters = refl
  inner_least (GetSub read var) process counters = refl
  inner_least (Put name var) process counters = refl
  inner_least (PutNumber name k) process counters = refl
  inner_least (Move read name) process counters = refl
  inner_least (Set var k) process counters = refl
  inner_least (Add var k) process counters = refl
  inner_least (Sub var k) process counters = refl
  inner_least (Neg var) process counters = refl
  inner_least (Double var) process counters = refl
  inner_least (Copy to from) process counters = refl
  inner_least Swap process counters = refl

pub first_loop_is : (found : Option ℕ) (body : Block Name) → found ≡ block_loop body → IsFirstLoop found body
first_loop_is found body is = λ process.
    fault_is (by_line line_of (placed_in process [] body)) ∙ ap (option_map LoopWithoutRead) (first_is_least line_of loops (placed_in process [] body) ∙ block_least body process [] ∙ sym is)

-- ---- as the walk meets them

-- the least line in these statements
abbrev pub loops_from : List (ℕ × Statement Name) → Option ℕ
loops_from [] = None
loops_from (s ∷ others) = lesser (own_loop s.0 s.1) (lesser (inner_loop s.1) (loops_from others))

pub loops_of : (block : Block Name) → block_loop block ≡ loops_from (statements_of block)
loops_of Empty = refl
loops_of (Then line statement rest) = ap (λ (o : Option ℕ). lesser (own_loop line statement) (lesser (inner_loop statement) o)) (loops_of rest)

next_loop : (statements : List (ℕ × Statement Name)) (index line : ℕ) (statement : Statement Name) → option_map (λ s. s.1) (slice_get statements index) ≡ Some statement → option_map (λ s. s.0) (slice_get statements index) ≡ Some line → loops_from (drop index statements) ≡ lesser (own_loop line statement) (lesser (inner_loop statement) (loops_from (drop (index + 1) statements)))
next_loop [] index line statement is line_is = absurd (no_statement (λ (s : ℕ × Statement Name). s.1) index statement is)
next_loop (s ∷ statements) zero line statement is line_is =
    let one = same s.1 statement is in
    let two = same_line s.0 line line_is in
    ap (λ (st : Statement Name). lesser (own_loop s.0 st) (lesser (inner_loop st) (loops_from statements))) one ∙ ap (λ (l : ℕ). lesser (own_loop l statement) (lesser (inner_loop statement) (loops_from statements))) two
  where
    same : (x y : Statement Name) → Some x ≡ Some y → x ≡ y
    same x y e = cc

    same_line : (x y : ℕ) → Some x ≡ Some y → x ≡ y
    same_line x y e = cc
next_loop (s ∷ statements) (suc index) line statement is line_is =
    let more : suc (index + 1) ≡ suc index + 1 = omega arith in
    next_loop statements index line statement is line_is ∙ ap (λ (n : ℕ). lesser (own_loop line statement) (lesser (inner_loop statement) (loops_from (drop n (s ∷ statements))))) more

-- one more statement was looked at
pub looked : (block : Block Name) (index line : ℕ) (statement : Statement Name) (least own inner both new : Option ℕ) → block_loop block ≡ lesser least (loops_from (drop index (statements_of block))) → option_map (λ s. s.1) (slice_get (statements_of block) index) ≡ Some statement → option_map (λ s. s.0) (slice_get (statements_of block) index) ≡ Some line → own ≡ own_loop line statement → inner ≡ inner_loop statement → both ≡ lesser own inner → new ≡ lesser least both → block_loop block ≡ lesser new (loops_from (drop (index + 1) (statements_of block)))
looked block index line statement least own inner both new so here line_is own_is inner_is both_is new_is =
    let rest = loops_from (drop (index + 1) (statements_of block)) in
    so ∙ ap (lesser least) (next_loop (statements_of block) index line statement here line_is)
    ∙ ap (lesser least) (sym (lesser_both (own_loop line statement) (inner_loop statement) rest))
    ∙ sym (lesser_both least (lesser (own_loop line statement) (inner_loop statement)) rest)
    ∙ ap (λ (o : Option ℕ). lesser (lesser least o) rest) (ap (λ (o : Option ℕ). lesser o (inner_loop statement)) (sym own_is) ∙ ap (lesser own) (sym inner_is) ∙ sym both_is)
    ∙ ap (λ (o : Option ℕ). lesser o rest) (sym new_is)

-- all were looked at
pub all_looked : (block : Block Name) (index : ℕ) (least : Option ℕ) → block_loop block ≡ lesser least (loops_from (drop index (statements_of block))) → length (statements_of block) ≤ index → least ≡ block_loop block
all_looked block index least so past = sym (so ∙ ap (λ (l : List (ℕ × Statement Name)). lesser least (loops_from l)) (drop_all index (statements_of block) past) ∙ lesser_none least)
