-- A walk through a block that puts numbers in place of its names.
use Rattle.std.proofs.Common.{◌≡◌, ◌<◌, ◌≤◌, ℕ, zero, suc, ◌+◌, List, [], ◌∷◌, ◌++◌, length, drop, map, get_or, refl, sym, ap, subst, ◌∙◌, arith}
use Rattle.std.specs.Prelude.{Some, slice_get, option_map, All}
use Rattle.std.proofs.lemmas.List.{append_assoc, map-append, drop_all, drop_more}
use Rattle.std.proofs.lemmas.List.Elements.{All-cons}
use Rattle.net_tree.specs.Tree.{Name, Statement, Block, Empty, Then, joined, with_last, statements_of, ProcessText}
use Rattle.net_tree.specs.View.{block_with as block_of, block_view, process_view}
use Rattle.net_tree.specs.declared.tree.ProcessText as held_process
use Rattle.net_numbered.specs.declared.tree.NumberedBlock as held_block
use Rattle.net_numbered.specs.View.{numbered_block}
use Rattle.net_rules.specs.Numbers.{block_with, statement_with}
use Rattle.net_rules.specs.Sure.{HasValues, StatementHasValues}
use Rattle.net_rules.proofs.Walks.{no_statement}

pub whole_block : (block : Block Name) → block_of (statements_of block) ≡ block
whole_block Empty = refl
whole_block (Then line statement rest) = ap (Then line statement) (whole_block rest)

pub next_statement : (statements : List (ℕ × Statement Name)) (index line : ℕ) (statement : Statement Name) → option_map (λ s. s.1) (slice_get statements index) ≡ Some statement → option_map (λ s. s.0) (slice_get statements index) ≡ Some line →
    block_of (drop index statements) ≡ Then line statement (block_of (drop (index + 1) statements))
next_statement [] index line statement is line_is = absurd (no_statement (λ (s : ℕ × Statement Name). s.1) index statement is)
next_statement (s ∷ statements) zero line statement is line_is =
    ap (λ (st : Statement Name). Then s.0 st (block_of statements)) (same s.1 statement is) ∙ ap (λ (l : ℕ). Then l statement (block_of statements)) (same_line s.0 line line_is)
  where
    same : (x y : Statement Name) → Some x ≡ Some y → x ≡ y
    same x y e = cc

    same_line : (x y : ℕ) → Some x ≡ Some y → x ≡ y
    same_line x y e = cc
next_statement (s ∷ statements) (suc index) line statement is line_is =
    let more : suc (index + 1) ≡ suc index + 1 = omega arith in
    next_statement statements index line statement is line_is ∙ ap (λ (n : ℕ). Then line statement (block_of (drop n (s ∷ statements)))) more

last_joined : (block : Block ℕ) (line : ℕ) (statement : Statement ℕ) (rest : Block ℕ) → joined block (Then line statement rest) ≡ joined (with_last block line statement) rest
last_joined Empty line statement rest = refl
last_joined (Then first one others) line statement rest = ap (Then first one) (last_joined others line statement rest)

joined_empty : (block : Block ℕ) → joined block Empty ≡ block
joined_empty Empty = refl
joined_empty (Then line statement rest) = ap (Then line statement) (joined_empty rest)

module _ (name : Name → ℕ) (block : Block Name) (index line : ℕ) (statement : Statement Name) (here : option_map (λ s. s.1) (slice_get (statements_of block) index) ≡ Some statement) (line_is : option_map (λ s. s.0) (slice_get (statements_of block) index) ≡ Some line) where
  -- a statement was numbered
  pub numbered_next : (whole found more : Block ℕ) (one : Statement ℕ) → whole ≡ joined found (block_with name (block_of (drop index (statements_of block)))) → one ≡ statement_with name statement → more ≡ with_last found line one → whole ≡ joined more (block_with name (block_of (drop (index + 1) (statements_of block))))
  numbered_next whole found more one so one_is more_is =
      let rest : Block ℕ = block_with name (block_of (drop (index + 1) (statements_of block))) in
      so ∙ ap (λ b. joined found (block_with name b)) (next_statement (statements_of block) index line statement here line_is)
      ∙ ap (λ s. joined found (Then line s rest)) (sym one_is)
      ∙ last_joined found line one rest
      ∙ ap (λ b. joined b rest) (sym more_is)

  -- its numbers are values
  pub values_next : {Whole : Type 0} → (HasValues (block_of (drop index (statements_of block))) → Whole) → StatementHasValues statement → HasValues (block_of (drop (index + 1) (statements_of block))) → Whole
  values_next so has more = so (subst (λ (b : Block Name). HasValues b) (sym (next_statement (statements_of block) index line statement here line_is)) (has, more))

-- all were
pub numbered_all : (name : Name → ℕ) (block : Block Name) (index : ℕ) (whole found : Block ℕ) → whole ≡ joined found (block_with name (block_of (drop index (statements_of block)))) → length (statements_of block) ≤ index → found ≡ whole
numbered_all name block index whole found so past = sym (so ∙ ap (λ l. joined found (block_with name (block_of l))) (drop_all index (statements_of block) past) ∙ joined_empty found)

pub values_all : (block : Block Name) (index : ℕ) {Whole : Type 0} → (HasValues (block_of (drop index (statements_of block))) → Whole) → length (statements_of block) ≤ index → Whole
values_all block index so past = so (subst (λ (l : List (ℕ × Statement Name)). HasValues (block_of l)) (sym (drop_all index (statements_of block) past)) tt)

-- ---- processes

module _ (name : Name → ℕ) (processes : List held_process.ProcessText) (index : ℕ) where
  pub process_next : (item : held_process.ProcessText) (whole : List (Block ℕ)) (found : List held_block.NumberedBlock) (one : held_block.NumberedBlock) (more : List held_block.NumberedBlock) → whole ≡ map numbered_block found ++ map (λ p. block_with name p.body) (map process_view (drop index processes)) → index < length processes → item ≡ get_or processes index item →
      numbered_block one ≡ block_with name (block_view item.body) → more ≡ found ++ one ∷ [] → whole ≡ map numbered_block more ++ map (λ p. block_with name p.body) (map process_view (drop (index + 1) processes))
  process_next item whole found one more so within is one_is more_is =
      let rest : List (Block ℕ) = map (λ p. block_with name p.body) (map process_view (drop (index + 1) processes)) in
      so ∙ ap (λ l. map numbered_block found ++ map (λ p. block_with name p.body) (map process_view l)) (drop_more processes index item within)
      ∙ ap (λ x. map numbered_block found ++ (block_with name (block_view x.body) ∷ rest)) (sym is)
      ∙ ap (λ b. map numbered_block found ++ (b ∷ rest)) (sym one_is)
      ∙ sym (append_assoc (map numbered_block found) (numbered_block one ∷ []) rest)
      ∙ ap (λ l. l ++ rest) (sym (map-append numbered_block found (one ∷ [])))
      ∙ ap (λ l. map numbered_block l ++ rest) (sym more_is)

  pub process_values : {Whole : Type 0} (item : held_process.ProcessText) → (All (λ (p : ProcessText). HasValues p.body) (map process_view (drop index processes)) → Whole) → index < length processes → item ≡ get_or processes index item → HasValues (block_view item.body) →
      All (λ (p : ProcessText). HasValues p.body) (map process_view (drop (index + 1) processes)) → Whole
  process_values {Whole} item so within is has more =
      let P : ProcessText → Type 0 = λ p. HasValues p.body in
      so (subst (λ l. All P (map process_view l)) (sym (drop_more processes index item within)) (All-cons P _ _ (subst (λ (x : held_process.ProcessText). HasValues (block_view x.body)) is has) more))
