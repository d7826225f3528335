-- Code that was put behind a program in parts.
use Rattle.std.proofs.Common.{◌≡◌, ◌≤◌, ℕ, zero, suc, ◌+◌, List, [], ◌∷◌, ◌++◌, length, drop, refl, sym, ap, ◌∙◌, arith}
use Rattle.std.specs.Prelude.{Some, slice_get, option_map}
use Rattle.std.proofs.lemmas.List.{append_assoc, append-nil, length-append, length-map, map-append, drop_all}
use Rattle.tis_asm.specs.declared.program.MarkedInstr.{MarkedInstr}
use Rattle.net_tree.specs.Tree.{Statement, Block, Empty, Then, statements_of}
use Rattle.net_rules.proofs.Walks.{no_statement, next_sum}
use Rattle.net_select.specs.Selection.{Ports, Code, unmarked, as_program, with_code, statement_code, statement_lines, block_code, block_lines}
use Rattle.net_select.proofs.Lengths.{statement_has, block_has}
use Rattle.net_select.proofs.Counting.{lines_in, lines_in_all}

abbrev pub Program : Type 0
Program = List MarkedInstr

-- a program is longer by what was put behind it
pub longer : (before after : Program) (code : Code) → after ≡ before ++ as_program code → length after ≡ length before + length code
longer before after code is = ap length is ∙ length-append before (as_program code) ∙ ap (λ (n : ℕ). length before + n) (length-map code unmarked)

-- and by the lines of a block
pub grown : (ports : Ports) (total : ℕ) (before after : Program) (block : Block ℕ) → after ≡ with_code before (block_code ports total block) → length after ≡ length before + block_lines block
grown ports total before after block is = longer before after (block_code ports total block (length before)) is ∙ ap (λ (n : ℕ). length before + n) (block_has ports total block (length before))

-- two codes, one behind the other
pub two : (before between after : Program) (one other : Code) → between ≡ before ++ as_program one → after ≡ between ++ as_program other → after ≡ before ++ as_program (one ++ other)
two before between after one other first second =
    second ∙ ap (λ (p : Program). p ++ as_program other) first ∙ append_assoc before (as_program one) (as_program other)
    ∙ ap (λ (c : Program). before ++ c) (sym (map-append unmarked one other))

-- ---- the statements of a block

module _ (ports : Ports) (total : ℕ) where
  -- the code of these statements, one behind the other
  abbrev pub codes : List (ℕ × Statement ℕ) → ℕ → Code
  codes [] at = []
  codes (s ∷ others) at = statement_code ports total s.1 at ++ codes others (at + statement_lines s.1)

  pub codes_all : (block : Block ℕ) (at : ℕ) → block_code ports total block at ≡ codes (statements_of block) at
  codes_all Empty at = refl
  codes_all (Then line statement rest) at = ap (λ (c : Code). statement_code ports total statement at ++ c) (codes_all rest (at + statement_lines statement))

  -- the code of the next statement, and that of those behind it
  next_code : (statements : List (ℕ × Statement ℕ)) (index : ℕ) (statement : Statement ℕ) (at : ℕ) → option_map (λ s. s.1) (slice_get statements index) ≡ Some statement → codes (drop index statements) at ≡ statement_code ports total statement at ++ codes (drop (index + 1) statements) (at + statement_lines statement)
  next_code [] index statement at is = absurd (no_statement (λ (s : ℕ × Statement ℕ). s.1) index statement is)
  next_code (s ∷ statements) zero statement at is = ap (λ (st : Statement ℕ). statement_code ports total st at ++ codes statements (at + statement_lines st)) (same s.1 statement is)
    where
      same : (x y : Statement ℕ) → Some x ≡ Some y → x ≡ y
      same x y e = cc
  next_code (s ∷ statements) (suc index) statement at is =
      let more : suc (index + 1) ≡ suc index + 1 = omega arith in
      next_code statements index statement at is ∙ ap (λ (n : ℕ). statement_code ports total statement at ++ codes (drop n (s ∷ statements)) (at + statement_lines statement)) more

  -- what a walk keeps: the program with the code of the rest is the whole, and there is room for the rest
  pub record Walked (statements : List (ℕ × Statement ℕ)) (index : ℕ) (whole program : Program) : Type 0 where
    pub same : whole ≡ with_code program (codes (drop index statements))
    pub room : length program + lines_in (drop index statements) ≤ total

  pub walk_starts : (block : Block ℕ) (program : Program) → length program + block_lines block ≤ total → Walked (statements_of block) 0 (with_code program (block_code ports total block)) program
  walk_starts block program room = record {
    same = ap (λ (c : Code). program ++ as_program c) (codes_all block (length program));
    room = let all = lines_in_all block in omega (arith, all);
  }

  -- there is room for the next statement
  pub walk_room : (statements : List (ℕ × Statement ℕ)) (index : ℕ) (statement : Statement ℕ) (whole program : Program) → Walked statements index whole program → option_map (λ s. s.1) (slice_get statements index) ≡ Some statement → length program + statement_lines statement ≤ total
  walk_room statements index statement whole program walked here =
      let next = next_sum statement_lines statements index statement here in
      let room = walked.room in
      omega (arith, next, room)

  pub walk_on : (statements : List (ℕ × Statement ℕ)) (index : ℕ) (statement : Statement ℕ) (whole program more : Program) → Walked statements index whole program → option_map (λ s. s.1) (slice_get statements index) ≡ Some statement → more ≡ with_code program (statement_code ports total statement) → Walked statements (index + 1) whole more
  walk_on statements index statement whole program more walked here more_is =
      let long : length more ≡ length program + statement_lines statement = longer program more (statement_code ports total statement (length program)) more_is ∙ ap (λ (n : ℕ). length program + n) (statement_has ports total statement (length program)) in
      let next = next_sum statement_lines statements index statement here in
      let room = walked.room in
      let behind : Code = codes (drop (index + 1) statements) (length more) in
      record {
        same =
            walked.same ∙ ap (λ (c : Code). program ++ as_program c) (next_code statements index statement (length program) here
            ∙ ap (λ (n : ℕ). statement_code ports total statement (length program) ++ codes (drop (index + 1) statements) n) (sym long))
            ∙ sym (two program more (more ++ as_program behind) (statement_code ports total statement (length program)) behind more_is refl);
        room = omega (arith, next, room, long);
      }

  pub walk_ends : (statements : List (ℕ × Statement ℕ)) (index : ℕ) (whole program : Program) → Walked statements index whole program → length statements ≤ index → program ≡ whole
  walk_ends statements index whole program walked past =
      sym (walked.same ∙ ap (λ (l : List (ℕ × Statement ℕ)). with_code program (codes l)) (drop_all index statements past) ∙ append-nil program)
