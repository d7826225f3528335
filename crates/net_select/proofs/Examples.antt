-- The code of small processes, worked out by hand.
use Rattle.std.proofs.Common.{◌≡◌, ℕ, pos, negsuc, List, [], ◌∷◌, ◌++◌, length, replicate, refl}
use Rattle.std.specs.Prelude.{◌==◌, if◌then◌else◌}
use Rattle.tis_base.specs.declared.tiles.Dir.TheVariants.{Up, Down}
use Rattle.tis_asm.specs.declared.instr.Source.TheVariants as from
use Rattle.tis_asm.specs.declared.instr.Dest.TheVariants as to
use Rattle.tis_asm.specs.declared.instr.Jump.TheVariants.{Always, IfZero, IfPositive}
use Rattle.tis_asm.specs.declared.instr.Instr.TheVariants.{Mov, Swp, Sav, Sub, Jump}
use Rattle.net_tree.specs.declared.tree.Var.TheVariants.{X, Y}
use Rattle.net_tree.specs.declared.tree.Test.TheVariants.{Positive, NotZero, NotNegative}
use Rattle.net_tree.specs.Tree.{Statement, Get, GetAdd, Put, PutNumber, Add as AddTo, Copy, Swap, If, While, Count, Block, Empty, Then}
use Rattle.net_select.specs.Selection.{Ports, code_of, block_lines}

-- name 0 lies above, and name 1 below
abbrev ports : Ports
ports name = if name == 0 then Up else Down

abbrev of : List (Statement ℕ) → Block ℕ
of [] = Empty
of (statement ∷ rest) = Then 0 statement (of rest)

-- a sequence that is ended by 0
ended_by_zero : code_of ports (of (Get 0 X ∷ While X NotZero (of (Put 1 X ∷ Get 0 X ∷ [])) ∷ PutNumber 1 (negsuc 0) ∷ [])) ≡
    Mov (from.Port Up) to.Acc ∷ Jump IfZero 5 ∷ Mov from.Acc (to.Port Down) ∷ Mov (from.Port Up) to.Acc ∷ Jump Always 1 ∷ Mov (from.Number (negsuc 0)) (to.Port Down) ∷ []
ended_by_zero = refl

-- a test on y, whose `else` has no statement
test_on_y : code_of ports (of (Get 0 Y ∷ If Y Positive (of (PutNumber 1 (pos 1) ∷ [])) Empty ∷ Put 1 Y ∷ [])) ≡
    Swp ∷ Mov (from.Port Up) to.Acc ∷ Swp ∷
    Swp ∷ Jump IfPositive 7 ∷ Swp ∷ Jump Always 9 ∷ Swp ∷ Mov (from.Number (pos 1)) (to.Port Down) ∷
    Swp ∷ Mov from.Acc (to.Port Down) ∷ Swp ∷ []
test_on_y = refl

-- on x a block without code that is jumped to needs no jump over it; behind the last instruction the first one follows
no_else : code_of ports (of (Get 0 X ∷ If X NotZero (of (Put 1 X ∷ [])) Empty ∷ [])) ≡
    Mov (from.Port Up) to.Acc ∷ Jump IfZero 0 ∷ Mov from.Acc (to.Port Down) ∷ []
no_else = refl

counted_on_x : code_of ports (of (Get 0 X ∷ Count X (of (PutNumber 1 (pos 7) ∷ [])) ∷ Put 1 X ∷ [])) ≡
    Mov (from.Port Up) to.Acc ∷ Jump IfPositive 3 ∷ Jump Always 6 ∷ Mov (from.Number (pos 7)) (to.Port Down) ∷ Sub (from.Number (pos 1)) ∷ Jump Always 1 ∷ Mov from.Acc (to.Port Down) ∷ []
counted_on_x = refl

counted_on_y : code_of ports (of (Count Y (of (PutNumber 1 (pos 7) ∷ [])) ∷ [])) ≡
    Swp ∷ Jump IfPositive 4 ∷ Swp ∷ Jump Always 0 ∷ Swp ∷ Mov (from.Number (pos 7)) (to.Port Down) ∷ Swp ∷ Sub (from.Number (pos 1)) ∷ Swp ∷ Jump Always 0 ∷ []
counted_on_y = refl

copies : code_of ports (of (Copy X Y ∷ Copy Y X ∷ Copy X X ∷ Copy Y Y ∷ Swap ∷ [])) ≡ Swp ∷ Sav ∷ Sav ∷ Swp ∷ []
copies = refl

-- fifteen instructions, and one more
fifteen : block_lines (of (Get 0 X ∷ (replicate 13 (AddTo X (pos 1)) ++ Put 1 X ∷ []))) ≡ 15
fifteen = refl

sixteen : block_lines (of (Get 0 X ∷ (replicate 14 (AddTo X (pos 1)) ++ Put 1 X ∷ []))) ≡ 16
sixteen = refl

-- the lines are as many as told
as_told : length (code_of ports (of (Get 0 Y ∷ While Y NotNegative (of (GetAdd 0 Y ∷ [])) ∷ Count X (of (Put 1 Y ∷ [])) ∷ []))) ≡ block_lines (of (Get 0 Y ∷ While Y NotNegative (of (GetAdd 0 Y ∷ [])) ∷ Count X (of (Put 1 Y ∷ [])) ∷ []))
as_told = refl
