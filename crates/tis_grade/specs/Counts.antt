-- How large a solution is.
use Rattle.std.specs.Prelude.{ℕ, Bool, List, length, count_by, sum_by, nat_lt}
use Rattle.tis_asm.specs.declared.program.MarkedInstr.{MarkedInstr}

-- whether a program has an instruction
abbrev pub has_some : List MarkedInstr → Bool
has_some program = nat_lt 0 (length program)

-- how many nodes have at least one instruction
abbrev pub node_count : List (List MarkedInstr) → ℕ
node_count programs = count_by has_some programs

-- how many instructions all nodes have together
abbrev pub instruction_count : List (List MarkedInstr) → ℕ
instruction_count programs = sum_by (λ program. length program) programs
