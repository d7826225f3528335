-- The code of a statement has as many instructions as its lines tell.
use Rattle.std.proofs.Common.{◌≡◌, ℕ, ◌+◌, true, false, cond, Bool, pos, [], ◌∷◌, ◌++◌, length, refl, arith, length-append, eqb-true}
use Rattle.std.specs.Prelude.{◌==◌}
use Rattle.tis_asm.specs.declared.instr.Instr.{Instr}
use Rattle.tis_asm.specs.declared.instr.Jump.{Jump as JumpKind}
use Rattle.tis_asm.specs.declared.instr.Jump.TheVariants.{Always, IfPositive}
use Rattle.tis_asm.specs.declared.instr.Instr.TheVariants as instr
use Rattle.tis_asm.specs.declared.instr.Source.TheVariants as from
use Rattle.net_tree.specs.declared.tree.Var.{Var}
use Rattle.net_tree.specs.declared.tree.Var.TheVariants.{X, Y}
use Rattle.net_tree.specs.Tree.{Statement, Get, GetAdd, GetSub, Put, PutNumber, Move, Set, Add, Sub, Neg, Double, Copy, Swap, If, While, Count, Block, Empty, Then}
use Rattle.net_select.specs.Selection.{Ports, Placed, on, jump_of, jumps_where_held, if_frame, leaving_frame, entering_frame, count_frame, statement_lines, block_lines, jump_to, if_code, leaving_code, entering_code, with_one_less, count_code, statement_code, block_code}
use Rattle.net_select.specs.Laws.{LinesAreTold}

-- one instruction on a variable, whatever it is
pub one_on : (var : Var) (i : Instr) → length (on var (i ∷ [])) ≡ length (on var (instr.Nop ∷ []))
one_on X i = refl
one_on Y i = refl

-- code of so many instructions, wherever it stands
abbrev pub HasLines : Placed → ℕ → Type 0
HasLines code lines = (at : ℕ) → length (code at) ≡ lines

-- on x, by whether the block that is jumped to has code
if_on_x : (none : Bool) (total : ℕ) (jump : JumpKind) (f_lines g_lines : ℕ) (f g : Placed) → HasLines f f_lines → HasLines g g_lines → (at : ℕ) → (none ≡ true → g_lines ≡ 0) →
    length (cond none (jump_to total jump (at + 1 + f_lines) ∷ f (at + 1)) (jump_to total jump (at + 2 + f_lines) ∷ (f (at + 1) ++ jump_to total Always (at + 2 + f_lines + g_lines) ∷ g (at + 2 + f_lines))))
    ≡ cond none 1 2 + (f_lines + g_lines)
if_on_x true total jump f_lines g_lines f g f_has g_has at is = omega (arith, f_has (at + 1), is refl)
if_on_x false total jump f_lines g_lines f g f_has g_has at is =
    omega (arith, f_has (at + 1), g_has (at + 2 + f_lines), length-append (f (at + 1)) (jump_to total Always (at + 2 + f_lines + g_lines) ∷ g (at + 2 + f_lines)))

if_lines : (total : ℕ) (var : Var) (jump : JumpKind) (f_lines g_lines : ℕ) (f g : Placed) → HasLines f f_lines → HasLines g g_lines → (at : ℕ) → length (if_code total var jump f_lines g_lines f g at) ≡ if_frame var g_lines + (f_lines + g_lines)
if_lines total X jump f_lines g_lines f g f_has g_has at = if_on_x (g_lines == 0) total jump f_lines g_lines f g f_has g_has at (eqb-true g_lines 0)
if_lines total Y jump f_lines g_lines f g f_has g_has at =
    omega (arith, f_has (at + 3), g_has (at + 5 + f_lines), length-append (f (at + 3)) (jump_to total Always (at + 5 + f_lines + g_lines) ∷ instr.Swp ∷ g (at + 5 + f_lines)))

leaving_lines : (total : ℕ) (var : Var) (jump : JumpKind) (lines : ℕ) (body : Placed) → HasLines body lines → (at : ℕ) → length (leaving_code total var jump lines body at) ≡ leaving_frame var + lines
leaving_lines total X jump lines body has at = omega (arith, has (at + 1), length-append (body (at + 1)) (jump_to total Always at ∷ []))
leaving_lines total Y jump lines body has at = omega (arith, has (at + 3), length-append (body (at + 3)) (jump_to total Always at ∷ instr.Swp ∷ []))

entering_lines : (total : ℕ) (var : Var) (jump : JumpKind) (lines : ℕ) (body : Placed) → HasLines body lines → (at : ℕ) → length (entering_code total var jump lines body at) ≡ entering_frame var + lines
entering_lines total X jump lines body has at = omega (arith, has (at + 2), length-append (body (at + 2)) (jump_to total Always at ∷ []))
entering_lines total Y jump lines body has at = omega (arith, has (at + 5), length-append (body (at + 5)) (jump_to total Always at ∷ []))

while_by : (enters : Bool) (total : ℕ) (var : Var) (jump : JumpKind) (lines : ℕ) (body : Placed) → HasLines body lines → (at : ℕ) →
    length (cond enters (entering_code total var jump lines body at) (leaving_code total var jump lines body at)) ≡ cond enters (entering_frame var) (leaving_frame var) + lines
while_by true total var jump lines body has at = entering_lines total var jump lines body has at
while_by false total var jump lines body has at = leaving_lines total var jump lines body has at

pub one_less_lines : (var : Var) (body : Placed) (lines : ℕ) → HasLines body lines → HasLines (with_one_less var body) (lines + length (on var (instr.Nop ∷ [])))
one_less_lines var body lines has at =
    omega (arith, length-append (body at) (on var (instr.Sub (from.Number (pos 1)) ∷ [])), has at, one_on var (instr.Sub (from.Number (pos 1))))

count_lines : (total : ℕ) (var : Var) (lines : ℕ) (body : Placed) → HasLines body lines → (at : ℕ) → length (count_code total var lines body at) ≡ count_frame var + lines
count_lines total X lines body has at = omega (arith, entering_lines total X IfPositive (lines + 1) (with_one_less X body) (one_less_lines X body lines has) at)
count_lines total Y lines body has at = omega (arith, entering_lines total Y IfPositive (lines + 3) (with_one_less Y body) (one_less_lines Y body lines has) at)

-- an `if` by which of its blocks is jumped to
if_by : (held : Bool) (total : ℕ) (var : Var) (jump : JumpKind) (one other : ℕ) (first second : Placed) → HasLines first one → HasLines second other → (at : ℕ) →
    length (if_code total var jump (cond held other one) (cond held one other) (cond held second first) (cond held first second) at) ≡ if_frame var (cond held one other) + (one + other)
if_by true total var jump one other first second one_has other_has at = omega (arith, if_lines total var jump other one second first other_has one_has at)
if_by false total var jump one other first second one_has other_has at = if_lines total var jump one other first second one_has other_has at

module _ (ports : Ports) (total : ℕ) where
  mutual
    pub statement_has : (statement : Statement ℕ) (at : ℕ) → length (statement_code ports total statement at) ≡ statement_lines statement
    statement_has (Get read var) at = one_on var _
    statement_has (GetAdd read var) at = one_on var _
    statement_has (GetSub read var) at = one_on var _
    statement_has (Put written var) at = one_on var _
    statement_has (PutNumber written number) at = refl
    statement_has (Move read written) at = refl
    statement_has (Set var number) at = one_on var _
    statement_has (Add var number) at = one_on var _
    statement_has (Sub var number) at = one_on var _
    statement_has (Neg var) at = one_on var _
    statement_has (Double var) at = one_on var _
    statement_has (Copy v w) at = refl
    statement_has Swap at = refl
    statement_has (If var test first second) at =
        if_by (jumps_where_held test) total var (jump_of test) (block_lines first) (block_lines second) (block_code ports total first) (block_code ports total second) (block_has first) (block_has second) at
    statement_has (While var test body) at =
        while_by (jumps_where_held test) total var (jump_of test) (block_lines body) (block_code ports total body) (block_has body) at
    statement_has (Count var body) at = count_lines total var (block_lines body) (block_code ports total body) (block_has body) at

    pub block_has : (block : Block ℕ) (at : ℕ) → length (block_code ports total block at) ≡ block_lines block
    block_has Empty at = refl
    block_has (Then line statement rest) at =
        omega (arith, length-append (statement_code ports total statement at) (block_code ports total rest (at + statement_lines statement)), statement_has statement at, block_has rest (at + statement_lines statement))

pub lines_are_told : LinesAreTold
lines_are_told ports body = block_has ports (block_lines body) body 0
