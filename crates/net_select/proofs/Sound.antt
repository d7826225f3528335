-- Each jump of the code of a process goes to one of its instructions.
use Rattle.std.proofs.Common.{◌≡◌, ℕ, ◌+◌, ◌<◌, ◌≤◌, Bool, true, false, cond, pos, [], ◌∷◌, ◌++◌, length, refl, sym, subst, ◌∙◌, arith}
use Rattle.std.specs.Prelude.{◌==◌}
use Rattle.std.proofs.lemmas.Bool.{eqb-false}
use Rattle.std.proofs.lemmas.List.{length-map}
use Rattle.tis_asm.specs.declared.instr.Jump.{Jump as JumpKind}
use Rattle.tis_asm.specs.declared.instr.Jump.TheVariants.{Always, IfPositive}
use Rattle.tis_asm.specs.declared.instr.Source.TheVariants as from
use Rattle.tis_asm.specs.declared.instr.Instr.{Instr}
use Rattle.tis_asm.specs.declared.instr.Instr.TheVariants as instr
use Rattle.tis_asm.specs.Programs.{IsSound, JumpsWithin, JumpWithin}
use Rattle.net_tree.specs.declared.tree.Var.{Var}
use Rattle.net_tree.specs.declared.tree.Var.TheVariants.{X, Y}
use Rattle.net_tree.specs.Tree.{Statement, Get, GetAdd, GetSub, Put, PutNumber, Move, Set, Add, Sub, Neg, Double, Copy, Swap, If, While, Count, Block, Empty, Then}
use Rattle.net_select.specs.Selection.{Ports, Code, Placed, unmarked, as_program, on, copy_code, jump_of, jumps_where_held, if_frame, leaving_frame, entering_frame, count_frame, jump_to, if_code, leaving_code, entering_code, with_one_less, count_code, statement_lines, block_lines, statement_code, block_code, code_of, program_of}
use Rattle.net_select.proofs.Lengths.{lines_are_told}

module _ (total : ℕ) where
  -- each jump goes to one of so many instructions
  abbrev Within : Code → Type 0
  Within code = JumpWithin total (as_program code)

  both : (one other : Code) → Within one → Within other → Within (one ++ other)
  both [] other first second = second
  both (i ∷ one) other first second = (first.0, both one other first.1 second)

  -- a place of a program of so many instructions, or the one behind it
  goes : (place : ℕ) → place ≤ total → 0 < total → cond (place == total) 0 place < total
  goes place within some = by (place == total) refl
    where
      by : (b : Bool) → (place == total) ≡ b → cond b 0 place < total
      by true is = some
      by false is = let apart = eqb-false place total is in omega (arith, apart)

  on_within : (var : Var) (i : Instr) → JumpsWithin total i → Within (on var (i ∷ []))
  on_within X i is = (is, tt)
  on_within Y i is = (tt, (is, (tt, tt)))

  copy_within : (to from : Var) → Within (copy_code to from)
  copy_within X X = tt
  copy_within X Y = (tt, (tt, tt))
  copy_within Y X = (tt, tt)
  copy_within Y Y = tt

  -- code of so many instructions, wherever it fits
  abbrev Stays : Placed → ℕ → Type 0
  Stays code lines = (at : ℕ) → at + lines ≤ total → Within (code at)

  leaving_within : (var : Var) (jump : JumpKind) (lines : ℕ) (body : Placed) → Stays body lines → Stays (leaving_code total var jump lines body) (leaving_frame var + lines)
  leaving_within X jump lines body stays at room = (
    goes (at + 2 + lines) (omega arith) (omega arith),
    both (body (at + 1)) (jump_to total Always at ∷ []) (stays (at + 1) (omega arith)) (goes at (omega arith) (omega arith), tt),
  )
  leaving_within Y jump lines body stays at room = (
    tt,
    (
      goes (at + 4 + lines) (omega arith) (omega arith),
      (tt, both (body (at + 3)) (jump_to total Always at ∷ instr.Swp ∷ []) (stays (at + 3) (omega arith)) (goes at (omega arith) (omega arith), (tt, tt))),
    ),
  )

  entering_within : (var : Var) (jump : JumpKind) (lines : ℕ) (body : Placed) → Stays body lines → Stays (entering_code total var jump lines body) (entering_frame var + lines)
  entering_within X jump lines body stays at room = (
    goes (at + 2) (omega arith) (omega arith),
    (
      goes (at + 3 + lines) (omega arith) (omega arith),
      both (body (at + 2)) (jump_to total Always at ∷ []) (stays (at + 2) (omega arith)) (goes at (omega arith) (omega arith), tt),
    ),
  )
  entering_within Y jump lines body stays at room = (
    tt,
    (
      goes (at + 4) (omega arith) (omega arith),
      (
        tt,
        (
          goes (at + 6 + lines) (omega arith) (omega arith),
          (tt, both (body (at + 5)) (jump_to total Always at ∷ []) (stays (at + 5) (omega arith)) (goes at (omega arith) (omega arith), tt)),
        ),
      ),
    ),
  )

  while_within : (enters : Bool) (var : Var) (jump : JumpKind) (lines : ℕ) (body : Placed) → Stays body lines → (at : ℕ) → at + (cond enters (entering_frame var) (leaving_frame var) + lines) ≤ total → Within (cond enters (entering_code total var jump lines body at) (leaving_code total var jump lines body at))
  while_within true var jump lines body stays at room = entering_within var jump lines body stays at room
  while_within false var jump lines body stays at room = leaving_within var jump lines body stays at room

  less_within : (var : Var) (body : Placed) (lines : ℕ) → Stays body lines → Stays (with_one_less var body) (lines + length (on var (instr.Nop ∷ [])))
  less_within var body lines stays at room = both (body at) (on var (instr.Sub (from.Number (pos 1)) ∷ [])) (stays at (omega arith)) (on_within var (instr.Sub (from.Number (pos 1))) tt)

  count_within : (var : Var) (lines : ℕ) (body : Placed) → Stays body lines → Stays (count_code total var lines body) (count_frame var + lines)
  count_within X lines body stays at room = entering_within X IfPositive (lines + 1) (with_one_less X body) (less_within X body lines stays) at (omega arith)
  count_within Y lines body stays at room = entering_within Y IfPositive (lines + 3) (with_one_less Y body) (less_within Y body lines stays) at (omega arith)

  if_on_x : (none : Bool) (jump : JumpKind) (f_lines g_lines : ℕ) (f g : Placed) → Stays f f_lines → Stays g g_lines → (at : ℕ) → at + (cond none 1 2 + (f_lines + g_lines)) ≤ total →
      Within (cond none (jump_to total jump (at + 1 + f_lines) ∷ f (at + 1)) (jump_to total jump (at + 2 + f_lines) ∷ (f (at + 1) ++ jump_to total Always (at + 2 + f_lines + g_lines) ∷ g (at + 2 + f_lines))))
  if_on_x true jump f_lines g_lines f g f_stays g_stays at room = (goes (at + 1 + f_lines) (omega arith) (omega arith), f_stays (at + 1) (omega arith))
  if_on_x false jump f_lines g_lines f g f_stays g_stays at room = (
    goes (at + 2 + f_lines) (omega arith) (omega arith),
    both (f (at + 1)) (jump_to total Always (at + 2 + f_lines + g_lines) ∷ g (at + 2 + f_lines)) (f_stays (at + 1) (omega arith)) (goes (at + 2 + f_lines + g_lines) (omega arith) (omega arith), g_stays (at + 2 + f_lines) (omega arith)),
  )

  if_within : (var : Var) (jump : JumpKind) (f_lines g_lines : ℕ) (f g : Placed) → Stays f f_lines → Stays g g_lines → Stays (if_code total var jump f_lines g_lines f g) (if_frame var g_lines + (f_lines + g_lines))
  if_within X jump f_lines g_lines f g f_stays g_stays at room = if_on_x (g_lines == 0) jump f_lines g_lines f g f_stays g_stays at room
  if_within Y jump f_lines g_lines f g f_stays g_stays at room = (
    tt,
    (
      goes (at + 4 + f_lines) (omega arith) (omega arith),
      (
        tt,
        both (f (at + 3)) (jump_to total Always (at + 5 + f_lines + g_lines) ∷ instr.Swp ∷ g (at + 5 + f_lines)) (f_stays (at + 3) (omega arith))
            (goes (at + 5 + f_lines + g_lines) (omega arith) (omega arith), (tt, g_stays (at + 5 + f_lines) (omega arith))),
      ),
    ),
  )

  either_within : (held : Bool) (var : Var) (jump : JumpKind) (one other : ℕ) (first second : Placed) → Stays first one → Stays second other → (at : ℕ) → at + (if_frame var (cond held one other) + (one + other)) ≤ total →
      Within (if_code total var jump (cond held other one) (cond held one other) (cond held second first) (cond held first second) at)
  either_within true var jump one other first second one_stays other_stays at room = if_within var jump other one second first other_stays one_stays at (omega arith)
  either_within false var jump one other first second one_stays other_stays at room = if_within var jump one other first second one_stays other_stays at room

  module _ (ports : Ports) where
    mutual
      statement_within : (statement : Statement ℕ) → Stays (statement_code ports total statement) (statement_lines statement)
      statement_within (Get read var) at room = on_within var _ tt
      statement_within (GetAdd read var) at room = on_within var _ tt
      statement_within (GetSub read var) at room = on_within var _ tt
      statement_within (Put written var) at room = on_within var _ tt
      statement_within (PutNumber written number) at room = (tt, tt)
      statement_within (Move read written) at room = (tt, tt)
      statement_within (Set var number) at room = on_within var _ tt
      statement_within (Add var number) at room = on_within var _ tt
      statement_within (Sub var number) at room = on_within var _ tt
      statement_within (Neg var) at room = on_within var _ tt
      statement_within (Double var) at room = on_within var _ tt
      statement_within (Copy to from) at room = copy_within to from
      statement_within Swap at room = (tt, tt)
      statement_within (If var test first second) at room =
          either_within (jumps_where_held test) var (jump_of test) (block_lines first) (block_lines second) (block_code ports total first) (block_code ports total second) (block_within first) (block_within second) at room
      statement_within (While var test body) at room = while_within (jumps_where_held test) var (jump_of test) (block_lines body) (block_code ports total body) (block_within body) at room
      statement_within (Count var body) at room = count_within var (block_lines body) (block_code ports total body) (block_within body) at room

      block_within : (block : Block ℕ) → Stays (block_code ports total block) (block_lines block)
      block_within Empty at room = tt
      block_within (Then line statement rest) at room =
          both (statement_code ports total statement at) (block_code ports total rest (at + statement_lines statement)) (statement_within statement at (omega arith)) (block_within rest (at + statement_lines statement) (omega arith))

pub code_is_sound : (ports : Ports) (body : Block ℕ) → IsSound (program_of ports body)
code_is_sound ports body =
    let all : block_lines body ≡ length (program_of ports body) = sym (length-map (code_of ports body) unmarked ∙ lines_are_told ports body) in
    subst (λ (n : ℕ). JumpWithin n (program_of ports body)) all (block_within (block_lines body) ports body 0 (omega arith))
