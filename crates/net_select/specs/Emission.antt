-- Code that is put together from its parts.
use Rattle.std.specs.Prelude.{ℕ, ◌+◌, [], ◌∷◌}
use Rattle.tis_asm.specs.declared.instr.Jump.{Jump}
use Rattle.tis_asm.specs.declared.instr.Jump.TheVariants.{Always}
use Rattle.tis_asm.specs.declared.instr.Instr.TheVariants.{Swp}
use Rattle.net_tree.specs.declared.tree.Var.{Var}
use Rattle.net_tree.specs.declared.tree.Var.TheVariants.{X, Y}
use Rattle.net_select.specs.Selection.{Code, jump_to}

-- what stands before the body of a loop whose jump enters it
abbrev pub entering_head : ℕ → Var → Jump → ℕ → ℕ → Code
entering_head total X jump lines at = jump_to total jump (at + 2) ∷ jump_to total Always (at + 3 + lines) ∷ []
entering_head total Y jump lines at = Swp ∷ jump_to total jump (at + 4) ∷ Swp ∷ jump_to total Always (at + 6 + lines) ∷ Swp ∷ []
