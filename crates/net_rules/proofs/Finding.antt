-- A walk through a block that finds its statements.
use Rattle.std.proofs.Common.{◌≡◌, ℕ, zero, suc, ◌+◌, ◌≤◌, Bool, List, [], ◌∷◌, ◌++◌, length, drop, map, refl, sym, ap, ◌∙◌, arith}
use Rattle.std.specs.Prelude.{Some, slice_get, option_map}
use Rattle.std.proofs.lemmas.List.{append-nil, append_assoc, map-append, drop_all}
use Rattle.net_tree.specs.Tree.{Name, Statement, Block, Empty, Then, statements_of}
use Rattle.net_rules.specs.declared.statements.Use as held
use Rattle.net_rules.specs.Found.{Use, use_view, use_of, uses_in, uses_inside}
use Rattle.net_rules.proofs.Walks.{no_statement}

module _ (process : ℕ) (in_x in_y : Bool) where
  -- the uses in these statements
  abbrev pub uses_of : List (ℕ × Statement Name) → List Use
  uses_of [] = []
  uses_of (s ∷ others) = use_of process in_x in_y s.0 s.1 ∷ (uses_inside process in_x in_y s.1 ++ uses_of others)

  pub all_of : (block : Block Name) → uses_in process in_x in_y block ≡ uses_of (statements_of block)
  all_of Empty = refl
  all_of (Then line statement rest) = ap (λ (l : List Use). use_of process in_x in_y line statement ∷ (uses_inside process in_x in_y statement ++ l)) (all_of rest)

  next_use : (statements : List (ℕ × Statement Name)) (index line : ℕ) (statement : Statement Name) → option_map (λ s. s.1) (slice_get statements index) ≡ Some statement → option_map (λ s. s.0) (slice_get statements index) ≡ Some line →
      uses_of (drop index statements) ≡ use_of process in_x in_y line statement ∷ (uses_inside process in_x in_y statement ++ uses_of (drop (index + 1) statements))
  next_use [] index line statement is line_is = absurd (no_statement (λ (s : ℕ × Statement Name). s.1) index statement is)
  next_use (s ∷ statements) zero line statement is line_is =
      let one = same s.1 statement is in
      let two = same_line s.0 line line_is in
      ap (λ (st : Statement Name). use_of process in_x in_y s.0 st ∷ (uses_inside process in_x in_y st ++ uses_of statements)) one ∙ ap (λ (l : ℕ). use_of process in_x in_y l statement ∷ (uses_inside process in_x in_y statement ++ uses_of statements)) two
    where
      same : (x y : Statement Name) → Some x ≡ Some y → x ≡ y
      same x y e = cc

      same_line : (x y : ℕ) → Some x ≡ Some y → x ≡ y
      same_line x y e = cc
  next_use (s ∷ statements) (suc index) line statement is line_is =
      let more : suc (index + 1) ≡ suc index + 1 = omega arith in
      next_use statements index line statement is line_is ∙ ap (λ (n : ℕ). use_of process in_x in_y line statement ∷ (uses_inside process in_x in_y statement ++ uses_of (drop n (s ∷ statements)))) more

  -- a statement is found, and then those in its blocks
  pub found_next : (block : Block Name) (index line : ℕ) (statement : Statement Name) (whole found behind : List Use) (pushed : List held.Use) (one : held.Use) →
      whole ≡ map use_view pushed ++ uses_of (drop index (statements_of block)) → option_map (λ s. s.1) (slice_get (statements_of block) index) ≡ Some statement → option_map (λ s. s.0) (slice_get (statements_of block) index) ≡ Some line →
      use_view one ≡ use_of process in_x in_y line statement → found ≡ map use_view (pushed ++ one ∷ []) → behind ≡ found ++ uses_inside process in_x in_y statement → whole ≡ behind ++ uses_of (drop (index + 1) (statements_of block))
  found_next block index line statement whole found behind pushed one so here line_is one_is found_is behind_is =
      let rest : List Use = uses_of (drop (index + 1) (statements_of block)) in
      let inside : List Use = uses_inside process in_x in_y statement in
      so ∙ ap (λ l. map use_view pushed ++ l) (next_use (statements_of block) index line statement here line_is)
      ∙ ap (λ u. map use_view pushed ++ (u ∷ (inside ++ rest))) (sym one_is)
      ∙ sym (append_assoc (map use_view pushed) (use_view one ∷ []) (inside ++ rest))
      ∙ ap (λ l. l ++ (inside ++ rest)) (sym (map-append use_view pushed (one ∷ [])))
      ∙ ap (λ l. l ++ (inside ++ rest)) (sym found_is)
      ∙ sym (append_assoc found inside rest)
      ∙ ap (λ l. l ++ rest) (sym behind_is)

  -- all statements were found
  pub all_found : (block : Block Name) (index : ℕ) (whole found : List Use) → whole ≡ found ++ uses_of (drop index (statements_of block)) → length (statements_of block) ≤ index → found ≡ whole
  all_found block index whole found so past = sym (so ∙ ap (λ l. found ++ uses_of l) (drop_all index (statements_of block) past) ∙ append-nil found)
