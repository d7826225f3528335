-- Instruction selection: the code of a process. x is ACC and y is BAK; the code of a statement that names y stands between two SWP.
use Rattle.std.specs.Prelude.{ℕ, ◌+◌, pos, Bool, true, false, List, [], ◌∷◌, ◌++◌, length, map, ◌==◌, if◌then◌else◌}
use Rattle.tis_base.specs.declared.tiles.Dir.{Dir}
use Rattle.tis_asm.specs.declared.instr.Source.TheVariants as from
use Rattle.tis_asm.specs.declared.instr.Dest.TheVariants as to
use Rattle.tis_asm.specs.declared.instr.Jump.{Jump as JumpKind}
use Rattle.tis_asm.specs.declared.instr.Jump.TheVariants.{Always, IfZero, IfNotZero, IfPositive, IfNegative}
use Rattle.tis_asm.specs.declared.instr.Instr.{Instr}
use Rattle.tis_asm.specs.declared.instr.Instr.TheVariants as instr
use Rattle.tis_asm.specs.declared.instr.Instr.TheVariants.{Swp, Sav, Jump}
use Rattle.tis_asm.specs.declared.program.MarkedInstr.{MarkedInstr}
use Rattle.net_tree.specs.declared.tree.Var.{Var}
use Rattle.net_tree.specs.declared.tree.Var.TheVariants.{X, Y}
use Rattle.net_tree.specs.declared.tree.Test.{Test}
use Rattle.net_tree.specs.declared.tree.Test.TheVariants.{Zero, NotZero, Negative, Positive, NotPositive, NotNegative}
use Rattle.net_tree.specs.Tree.{Statement, Get, GetAdd, GetSub, Put, PutNumber, Move, Set, Add, Sub, Neg, Double, Copy, Swap, If, While, Count, Block, Empty, Then}

-- the direction in which the link of each name lies
abbrev pub Ports : Type 0
Ports = ℕ → Dir

-- a list of instructions without marks
abbrev pub Code : Type 0
Code = List Instr

-- ---- statements without blocks

-- what is done on x is done on y between two SWP
abbrev pub on : Var → Code → Code
on X code = code
on Y code = Swp ∷ (code ++ Swp ∷ [])

-- the first variable gets the value of the second
abbrev pub copy_code : Var → Var → Code
copy_code X Y = Swp ∷ Sav ∷ []
copy_code Y X = Sav ∷ []
copy_code X X = []
copy_code Y Y = []

-- ---- tests

-- the jump of a test: some jump where the test fails, and some where it holds
abbrev pub jump_of : Test → JumpKind
jump_of Zero = IfNotZero
jump_of NotZero = IfZero
jump_of NotNegative = IfNegative
jump_of NotPositive = IfPositive
jump_of Positive = IfPositive
jump_of Negative = IfNegative

-- whether it jumps where the test holds
abbrev pub jumps_where_held : Test → Bool
jumps_where_held Zero = false
jumps_where_held NotZero = false
jumps_where_held NotNegative = false
jumps_where_held NotPositive = false
jumps_where_held Positive = true
jumps_where_held Negative = true

-- ---- lengths

-- how many instructions an `if` has besides those of its blocks: on x a block without code that is jumped to needs no jump over it
abbrev pub if_frame : Var → ℕ → ℕ
if_frame X reached = if reached == 0 then 1 else 2
if_frame Y reached = 5

-- which block is reached without the jump, and which by it
abbrev pub straight : {T : Type 0} → Test → T → T → T
straight test first second = if jumps_where_held test then second else first

abbrev pub jumped : {T : Type 0} → Test → T → T → T
jumped test first second = if jumps_where_held test then first else second

-- how many instructions a loop has besides those of its body: where its jump leaves it, and where its jump enters it
abbrev pub leaving_frame : Var → ℕ
leaving_frame X = 2
leaving_frame Y = 5

abbrev pub entering_frame : Var → ℕ
entering_frame X = 3
entering_frame Y = 6

abbrev pub while_frame : Var → Test → ℕ
while_frame var test = if jumps_where_held test then entering_frame var else leaving_frame var

abbrev pub count_frame : Var → ℕ
count_frame X = 4
count_frame Y = 9

abbrev mutual
  -- how many instructions a statement has, and a block
  pub statement_lines : Statement ℕ → ℕ
  statement_lines (Get read var) = length (on var (instr.Nop ∷ []))
  statement_lines (GetAdd read var) = length (on var (instr.Nop ∷ []))
  statement_lines (GetSub read var) = length (on var (instr.Nop ∷ []))
  statement_lines (Put written var) = length (on var (instr.Nop ∷ []))
  statement_lines (PutNumber written number) = 1
  statement_lines (Move read written) = 1
  statement_lines (Set var number) = length (on var (instr.Nop ∷ []))
  statement_lines (Add var number) = length (on var (instr.Nop ∷ []))
  statement_lines (Sub var number) = length (on var (instr.Nop ∷ []))
  statement_lines (Neg var) = length (on var (instr.Nop ∷ []))
  statement_lines (Double var) = length (on var (instr.Nop ∷ []))
  statement_lines (Copy v w) = length (copy_code v w)
  statement_lines Swap = 1
  statement_lines (If var test first second) = if_frame var (jumped test (block_lines first) (block_lines second)) + (block_lines first + block_lines second)
  statement_lines (While var test body) = while_frame var test + block_lines body
  statement_lines (Count var body) = count_frame var + block_lines body

  pub block_lines : Block ℕ → ℕ
  block_lines Empty = 0
  block_lines (Then line statement rest) = statement_lines statement + block_lines rest

-- ---- blocks

-- code that may stand anywhere: what it is, by the place at which it begins
abbrev pub Placed : Type 0
Placed = ℕ → Code

-- a jump to a place; the place behind the last instruction is the first one
abbrev pub jump_to : ℕ → JumpKind → ℕ → Instr
jump_to total kind place = Jump kind (if place == total then 0 else place)

-- `J X`, F, `JMP E`, `X:` G, `E:`, where F is reached without the jump and G by it. On x, where G has no code, `J E`, F, `E:`. On y each of the two has a SWP in front, and J too
abbrev pub if_code : ℕ → Var → JumpKind → ℕ → ℕ → Placed → Placed → Placed
if_code total X jump f_lines g_lines f g at =
    if g_lines == 0 then jump_to total jump (at + 1 + f_lines) ∷ f (at + 1)
    else jump_to total jump (at + 2 + f_lines) ∷ (f (at + 1) ++ jump_to total Always (at + 2 + f_lines + g_lines) ∷ g (at + 2 + f_lines))
if_code total Y jump f_lines g_lines f g at =
    Swp ∷ jump_to total jump (at + 4 + f_lines) ∷ Swp ∷ (f (at + 3) ++ jump_to total Always (at + 5 + f_lines + g_lines) ∷ Swp ∷ g (at + 5 + f_lines))

-- a loop whose jump leaves it: on x `T: J E`, body, `JMP T`, `E:`, and on y `T: SWP`, `J X`, `SWP`, body, `JMP T`, `X: SWP`
abbrev pub leaving_code : ℕ → Var → JumpKind → ℕ → Placed → Placed
leaving_code total X jump lines body at = jump_to total jump (at + 2 + lines) ∷ (body (at + 1) ++ jump_to total Always at ∷ [])
leaving_code total Y jump lines body at = Swp ∷ jump_to total jump (at + 4 + lines) ∷ Swp ∷ (body (at + 3) ++ jump_to total Always at ∷ Swp ∷ [])

-- a loop whose jump enters it: on x `T: J B`, `JMP E`, `B:` body, `JMP T`, `E:`, and on y `T: SWP`, `J B`, `SWP`, `JMP E`, `B: SWP`, body, `JMP T`, `E:`
abbrev pub entering_code : ℕ → Var → JumpKind → ℕ → Placed → Placed
entering_code total X jump lines body at = jump_to total jump (at + 2) ∷ jump_to total Always (at + 3 + lines) ∷ (body (at + 2) ++ jump_to total Always at ∷ [])
entering_code total Y jump lines body at =
    Swp ∷ jump_to total jump (at + 4) ∷ Swp ∷ jump_to total Always (at + 6 + lines) ∷ Swp ∷ (body (at + 5) ++ jump_to total Always at ∷ [])

abbrev pub while_code : ℕ → Var → Test → ℕ → Placed → Placed
while_code total var test lines body at = if jumps_where_held test then entering_code total var (jump_of test) lines body at else leaving_code total var (jump_of test) lines body at

-- a `count` is such a loop while its variable is positive, whose body takes 1 from it at the end
abbrev pub with_one_less : Var → Placed → Placed
with_one_less var body at = body at ++ on var (instr.Sub (from.Number (pos 1)) ∷ [])

abbrev pub count_code : ℕ → Var → ℕ → Placed → Placed
count_code total var lines body at = entering_code total var IfPositive (lines + length (on var (instr.Nop ∷ []))) (with_one_less var body) at

abbrev mutual
  -- the code of a statement that begins at a place, in a program of so many instructions
  pub statement_code : Ports → ℕ → Statement ℕ → Placed
  statement_code ports total (Get read var) at = on var (instr.Mov (from.Port (ports read)) to.Acc ∷ [])
  statement_code ports total (GetAdd read var) at = on var (instr.Add (from.Port (ports read)) ∷ [])
  statement_code ports total (GetSub read var) at = on var (instr.Sub (from.Port (ports read)) ∷ [])
  statement_code ports total (Put written var) at = on var (instr.Mov from.Acc (to.Port (ports written)) ∷ [])
  statement_code ports total (PutNumber written number) at = instr.Mov (from.Number number) (to.Port (ports written)) ∷ []
  statement_code ports total (Move read written) at = instr.Mov (from.Port (ports read)) (to.Port (ports written)) ∷ []
  statement_code ports total (Set var number) at = on var (instr.Mov (from.Number number) to.Acc ∷ [])
  statement_code ports total (Add var number) at = on var (instr.Add (from.Number number) ∷ [])
  statement_code ports total (Sub var number) at = on var (instr.Sub (from.Number number) ∷ [])
  statement_code ports total (Neg var) at = on var (instr.Neg ∷ [])
  statement_code ports total (Double var) at = on var (instr.Add from.Acc ∷ [])
  statement_code ports total (Copy v w) at = copy_code v w
  statement_code ports total Swap at = Swp ∷ []
  statement_code ports total (If var test first second) at =
      if_code total var (jump_of test) (straight test (block_lines first) (block_lines second)) (jumped test (block_lines first) (block_lines second))
      (straight test (block_code ports total first) (block_code ports total second)) (jumped test (block_code ports total first) (block_code ports total second)) at
  statement_code ports total (While var test body) at = while_code total var test (block_lines body) (block_code ports total body) at
  statement_code ports total (Count var body) at = count_code total var (block_lines body) (block_code ports total body) at

  -- the code of a block: that of its statements one behind the other
  pub block_code : Ports → ℕ → Block ℕ → Placed
  block_code ports total Empty at = []
  block_code ports total (Then line statement rest) at = statement_code ports total statement at ++ block_code ports total rest (at + statement_lines statement)

-- the code of a process with this body
abbrev pub code_of : Ports → Block ℕ → Code
code_of ports body = block_code ports (block_lines body) body 0

-- code as a program, without marks
abbrev pub unmarked : Instr → MarkedInstr
unmarked instruction = record { instr = instruction; mark = false }

abbrev pub as_program : Code → List MarkedInstr
as_program code = map unmarked code

-- the code of a process as a program
abbrev pub program_of : Ports → Block ℕ → List MarkedInstr
program_of ports body = as_program (code_of ports body)

-- a program, and behind it the code that begins there
abbrev pub with_code : List MarkedInstr → Placed → List MarkedInstr
with_code program code = program ++ as_program (code (length program))
