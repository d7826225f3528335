-- How many statements a block has, counted by a walk through it.
use Rattle.std.proofs.Common.{◌≡◌, ◌≤◌, ◌<◌, ℕ, ◌+◌, ◌-◌, ◌^◌, List, length, drop, map, get_or, refl, sym, ap, ◌∙◌, arith}
use Rattle.std.specs.Prelude.{Some, slice_get, option_map, sum_by}
use Rattle.std.proofs.lemmas.List.{drop_all, drop_more}
use Rattle.std.proofs.lemmas.List.Sums.{sum_by-cons}
use Rattle.net_tree.specs.declared.tree.ProcessText as held_process
use Rattle.net_tree.specs.Tree.{Statement, Block, Empty, Then, statements_of, ProcessText}
use Rattle.net_tree.specs.View.{block_view, process_view}
use Rattle.net_rules.specs.Sizes.{statements_in, statements_inside, held_count}
use Rattle.net_rules.proofs.Walks.{next_sum}

-- a statement with those of its blocks
abbrev pub each : {N : Type 0} → Statement N → ℕ
each statement = 1 + statements_inside statement

-- the statements of a block, with those of their blocks
abbrev pub counted : {N : Type 0} → List (ℕ × Statement N) → ℕ
counted statements = sum_by (λ s. each s.1) statements

pub counted_of : {N : Type 0} (block : Block N) → statements_in block ≡ counted (statements_of block)
counted_of Empty = refl
counted_of {N = N} (Then line statement rest) = ap (λ (n : ℕ). each statement + n) (counted_of rest) ∙ sym (sum_by-cons (λ (s : ℕ × Statement N). each s.1) (line, statement) (statements_of rest))

-- what a walk keeps: what was counted, and what is left, is all; and the count is one of 64 bits
pub record Counts (whole rest count : ℕ) : Type 0 where
  pub same : held_count whole ≡ held_count (count + rest)
  pub held : count ≤ 2 ^ 64 - 1

pub counts_start : (whole rest : ℕ) → whole ≡ rest → Counts whole rest 0
counts_start whole rest is = record { same = omega (arith, is); held = omega arith }

pub counts_end : (whole rest count : ℕ) → Counts whole rest count → rest ≡ 0 → count ≡ held_count whole
counts_end whole rest count counts none = let same = counts.same in let held = counts.held in omega (arith, same, held, none)

-- one more was counted
pub counts_on : (whole rest less one count inside new : ℕ) → Counts whole rest count → rest ≡ one + less → inside ≡ held_count one → new ≡ held_count (count + inside) → Counts whole less new
counts_on whole rest less one count inside new counts next inside_is new_is =
    let same = counts.same in
    record { same = omega (arith, same, next, inside_is, new_is); held = omega (arith, new_is) }

-- one more statement, with those of its blocks
pub statement_counted : {N : Type 0} (block : Block N) (index : ℕ) (statement : Statement N) (count inside more new : ℕ) → Counts (statements_in block) (counted (drop index (statements_of block))) count → option_map (λ s. s.1) (slice_get (statements_of block) index) ≡ Some statement →
    inside ≡ held_count (statements_inside statement) → more ≡ held_count (count + inside) → new ≡ held_count (more + 1) → Counts (statements_in block) (counted (drop (index + 1) (statements_of block))) new
statement_counted block index statement count inside more new counts here inside_is more_is new_is =
    let both : new ≡ held_count (count + held_count (inside + 1)) = omega (arith, more_is, new_is) in
    counts_on (statements_in block) (counted (drop index (statements_of block))) (counted (drop (index + 1) (statements_of block))) (each statement) count (held_count (inside + 1)) new counts
    (next_sum each (statements_of block) index statement here) (omega (arith, inside_is)) both

-- all were counted
pub block_counted : {N : Type 0} (block : Block N) (index count : ℕ) → Counts (statements_in block) (counted (drop index (statements_of block))) count → length (statements_of block) ≤ index → count ≡ held_count (statements_in block)
block_counted block index count counts past = counts_end (statements_in block) (counted (drop index (statements_of block))) count counts (ap counted (drop_all index (statements_of block) past))

-- ---- processes

-- how many statements these processes have
abbrev pub all_statements : List held_process.ProcessText → ℕ
all_statements processes = sum_by (λ (p : ProcessText). statements_in p.body) (map process_view processes)

pub next_process : (processes : List held_process.ProcessText) (index : ℕ) (item : held_process.ProcessText) → index < length processes → item ≡ get_or processes index item → all_statements (drop index processes) ≡ statements_in (block_view item.body) + all_statements (drop (index + 1) processes)
next_process processes index item within is =
    ap all_statements (drop_more processes index item within)
    ∙ sum_by-cons (λ (p : ProcessText). statements_in p.body) (process_view (get_or processes index item)) (map process_view (drop (index + 1) processes))
    ∙ ap (λ (x : held_process.ProcessText). statements_in (block_view x.body) + all_statements (drop (index + 1) processes)) (sym is)
