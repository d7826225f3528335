-- A walk through the statements of a block.
use Rattle.std.proofs.Common.{◌≡◌, ◌<◌, ◌≤◌, ◌⊎◌, inl, inr, ℕ, zero, suc, ◌+◌, Bool, true, false, List, [], ◌∷◌, drop, refl, sym, ap, subst, ◌∙◌, arith}
use Rattle.std.specs.Prelude.{Some, slice_get, option_map, sum_by, ◌||◌}
use Rattle.std.proofs.lemmas.List.Sums.{sum_by-cons}
use Rattle.net_tree.specs.declared.tree.Statement.TheVariants as held_as
use Rattle.net_tree.specs.declared.tree.Statement.TheFolds as folds
use Rattle.net_tree.specs.declared.tree.Statement.TheOpen as level
use Rattle.net_tree.specs.declared.tree.Block as held_block
use Rattle.net_tree.specs.declared.tree.Var.{Var}
use Rattle.net_tree.specs.declared.tree.Test.{Test}
use Rattle.net_tree.specs.Tree.{Name, Statement, If, Block, Empty, Then, statements_of}
use Rattle.net_tree.specs.View.{Numbered, statement_level, block_level, numbered_level, statement_view, block_view}
use Rattle.net_rules.specs.Sizes.{block_size, statement_size}
use Rattle.net_rules.specs.Uses.{reads_itself, reads_either_way, surely_reads}

-- an `if` as it is seen
pub if_seen : (var : Var) (test : Test) (first second : held_block.Block) → statement_view (held_as.If var test first second) ≡ If var test (block_view first) (block_view second)
if_seen var test first second = ap statement_view (sym (held_as.rolls-If var test first second)) ∙ folds.fold-roll-Statement (Statement Name) (Block Name) Numbered statement_level block_level numbered_level (level.If var test first second)

-- no statement stands in a block without any
pub no_statement : {N X : Type 0} (f : ℕ × Statement N → X) (index : ℕ) (x : X) → option_map f (slice_get [] index) ≡ Some x → ⊥
no_statement f zero x is = absurd cc
no_statement f (suc index) x is = absurd cc

same_statement : {N : Type 0} (x y : Statement N) → Some x ≡ Some y → x ≡ y
same_statement x y e = cc

block_positive : {N : Type 0} (block : Block N) → 1 ≤ block_size block
block_positive Empty = omega arith
block_positive (Then line statement rest) = let more = block_positive rest in omega (arith, more)

-- a statement of a block is smaller than the block
pub smaller : {N : Type 0} (block : Block N) (index : ℕ) (statement : Statement N) → option_map (λ s. s.1) (slice_get (statements_of block) index) ≡ Some statement → statement_size statement < block_size block
smaller {N = N} Empty index statement is = absurd (no_statement (λ (s : ℕ × Statement N). s.1) index statement is)
smaller {N = N} (Then line first rest) zero statement is =
    let positive = block_positive rest in
    subst (λ (s : Statement N). statement_size s < statement_size first + block_size rest) (same_statement first statement is) (omega (arith, positive))
smaller (Then line first rest) (suc index) statement is = let more = smaller rest index statement is in omega (arith, more)

-- what is summed over the statements of a block, the next of them first
pub next_sum : {N : Type 0} (f : Statement N → ℕ) (statements : List (ℕ × Statement N)) (index : ℕ) (statement : Statement N) → option_map (λ s. s.1) (slice_get statements index) ≡ Some statement →
    sum_by (λ s. f s.1) (drop index statements) ≡ f statement + sum_by (λ s. f s.1) (drop (index + 1) statements)
next_sum {N = N} f [] index statement is = absurd (no_statement (λ (s : ℕ × Statement N). s.1) index statement is)
next_sum {N = N} f (s ∷ statements) zero statement is =
    sum_by-cons (λ (x : ℕ × Statement N). f x.1) s statements ∙ ap (λ (st : Statement N). f st + sum_by (λ (x : ℕ × Statement N). f x.1) statements) (same_statement s.1 statement is)
next_sum {N = N} f (s ∷ statements) (suc index) statement is =
    let more : suc (index + 1) ≡ suc index + 1 = omega arith in
    next_sum f statements index statement is ∙ ap (λ (n : ℕ). f statement + sum_by (λ (x : ℕ × Statement N). f x.1) (drop n (s ∷ statements))) more

-- whether one of these statements reads, or an `if` among them does either way
abbrev pub any_reads : List (ℕ × Statement Name) → Bool
any_reads [] = false
any_reads (s ∷ others) = (reads_itself s.1 || reads_either_way s.1) || any_reads others

pub any_of : (block : Block Name) → surely_reads block ≡ any_reads (statements_of block)
any_of Empty = refl
any_of (Then line statement rest) = ap (λ (b : Bool). (reads_itself statement || reads_either_way statement) || b) (any_of rest)

-- what is looked at next
pub next_read : (statements : List (ℕ × Statement Name)) (index : ℕ) (statement : Statement Name) → option_map (λ s. s.1) (slice_get statements index) ≡ Some statement → any_reads (drop index statements) ≡ ((reads_itself statement || reads_either_way statement) || any_reads (drop (index + 1) statements))
next_read [] index statement is = absurd (nothing index is)
  where
    nothing : (index : ℕ) → option_map (λ (s : ℕ × Statement Name). s.1) (slice_get [] index) ≡ Some statement → ⊥
    nothing zero is = absurd cc
    nothing (suc index) is = absurd cc
next_read (s ∷ statements) zero statement is =
    let same : s.1 ≡ statement = some s.1 statement is in
    ap (λ (st : Statement Name). (reads_itself st || reads_either_way st) || any_reads statements) same
  where
    some : (x y : Statement Name) → Some x ≡ Some y → x ≡ y
    some x y e = cc
next_read (s ∷ statements) (suc index) statement is =
    let more : suc (index + 1) ≡ suc index + 1 = omega arith in
    next_read statements index statement is ∙ ap (λ (n : ℕ). (reads_itself statement || reads_either_way statement) || any_reads (drop n (s ∷ statements))) more

-- the first read that is found
pub found_read : (block : Block Name) (index : ℕ) (statement : Statement Name) → surely_reads block ≡ any_reads (drop index (statements_of block)) → option_map (λ s. s.1) (slice_get (statements_of block) index) ≡ Some statement → (reads_itself statement || reads_either_way statement) ≡ true → true ≡ surely_reads block
found_read block index statement is here reads =
    sym (is ∙ next_read (statements_of block) index statement here ∙ ap (λ (b : Bool). b || any_reads (drop (index + 1) (statements_of block))) reads)

-- a statement that doesn't read is passed
pub passed_read : (block : Block Name) (index : ℕ) (statement : Statement Name) → surely_reads block ≡ any_reads (drop index (statements_of block)) → option_map (λ s. s.1) (slice_get (statements_of block) index) ≡ Some statement → (reads_itself statement || reads_either_way statement) ≡ false → surely_reads block ≡ any_reads (drop (index + 1) (statements_of block))
passed_read block index statement is here reads =
    is ∙ next_read (statements_of block) index statement here ∙ ap (λ (b : Bool). b || any_reads (drop (index + 1) (statements_of block))) reads

-- one or the other, and neither
pub either_is : (a b : Bool) → (a ≡ true) ⊎ (b ≡ true) → (a || b) ≡ true
either_is true b is = refl
either_is false b (inl is) = absurd cc
either_is false b (inr is) = is

pub neither_is : (a b : Bool) → a ≡ false → b ≡ false → (a || b) ≡ false
neither_is true b is and_is = absurd cc
neither_is false b is and_is = and_is
