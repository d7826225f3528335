-- Lines of code are read one after the other: the instructions, whose jumps go nowhere yet, the jumps, and the labels.
use Rattle.std.specs.Prelude.{ℕ, ◌+◌, Bool, false, List, [], ◌∷◌, ◌++◌, length, is_some, Option, Some, None, option_map, Result, Ok, Err, if◌then◌else◌, slice_set}
use Rattle.std.specs.Map.{lookup}
use Rattle.std.specs.Str.{bytes_eq}
use Rattle.tis_asm.specs.declared.instr.Jump.{Jump as JumpKind}
use Rattle.tis_asm.specs.declared.instr.Instr.TheVariants.{Jump}
use Rattle.tis_asm.specs.declared.program.MarkedInstr.{MarkedInstr}
use Rattle.tis_asm.specs.Assembling.{AsmRefusal, RepeatedLabel, UnknownLabel, NamedInstr, Plain, JumpTo, CodeLine, wrapped}
use Rattle.tis_asm.specs.LineView.{Source, source_read}

-- the labels so far, each with the number of instructions above it
abbrev pub Labels : Type 0
Labels = List (List ℕ × ℕ)

-- how many instructions stand above a label
abbrev pub label_in : Labels → List ℕ → Option ℕ
label_in labels label = lookup (bytes_eq label) labels

-- a jump, with the number of its line, its place among the instructions, its mark, and its label
pub record NamedJump : Type 0 where
  pub line : ℕ
  pub place : ℕ
  pub mark : Bool
  pub jump : JumpKind
  pub label : List ℕ

-- what was read
pub record ReadCode : Type 0 where
  pub program : List MarkedInstr
  pub jumps : List NamedJump
  pub labels : Labels

abbrev pub nothing_read : ReadCode
nothing_read = record { program = []; jumps = []; labels = [] }

-- whether a label stands above
abbrev pub is_above : Labels → Option (List ℕ) → Bool
is_above labels None = false
is_above labels (Some label) = is_some (label_in labels label)

-- one label more, below so many instructions
abbrev pub label_added : Labels → Option (List ℕ) → ℕ → Labels
label_added labels None count = labels
label_added labels (Some label) count = labels ++ (label, count) ∷ []

-- one instruction more, on the line with this number
abbrev pub instr_added : ℕ → Bool → Option NamedInstr → ReadCode → ReadCode
instr_added number mark None code = code
instr_added number mark (Some (Plain instr)) code = record code { program = code.program ++ record { instr = instr; mark = mark } ∷ [] }
instr_added number mark (Some (JumpTo jump label)) code =
    record code {
      program = code.program ++ record { instr = Jump jump 0; mark = mark } ∷ [];
      jumps = code.jumps ++ record { line = number; place = length code.program; mark = mark; jump = jump; label = label } ∷ [];
    }

-- one line more, with this number, where its label doesn't stand above
abbrev pub line_added : ℕ → ReadCode → Result CodeLine AsmRefusal → Result ReadCode AsmRefusal
line_added number code (Err refusal) = Err refusal
line_added number code (Ok line) =
    if is_above code.labels line.label
    then Err (RepeatedLabel number)
    else Ok (instr_added number line.mark line.instr (record code { labels = label_added code.labels line.label (length code.program) }))

-- lines below what was read, the first of which has this number
abbrev pub code_read : ℕ → Result ReadCode AsmRefusal → List Source → Result ReadCode AsmRefusal
code_read number code [] = code
code_read number (Err refusal) (source ∷ sources) = Err refusal
code_read number (Ok code) (source ∷ sources) = code_read (number + 1) (line_added number code (source_read number source)) sources

-- a jump that goes to an instruction, where its label stands somewhere
abbrev pub jump_set : NamedJump → List MarkedInstr → Option ℕ → Result (List MarkedInstr) AsmRefusal
jump_set jump program None = Err (UnknownLabel jump.line)
jump_set jump program (Some number) = Ok (slice_set program jump.place (record { instr = Jump jump.jump number; mark = jump.mark }))

-- the instruction that a label names, among so many
abbrev pub number_in : Labels → ℕ → List ℕ → Option ℕ
number_in labels count label = option_map (wrapped count) (label_in labels label)

-- the program, once each of these jumps goes to the instruction that its label names
abbrev pub jumps_set : Labels → Result (List MarkedInstr) AsmRefusal → List NamedJump → Result (List MarkedInstr) AsmRefusal
jumps_set labels program [] = program
jumps_set labels (Err refusal) (jump ∷ jumps) = Err refusal
jumps_set labels (Ok program) (jump ∷ jumps) = jumps_set labels (jump_set jump program (number_in labels (length program) jump.label)) jumps

abbrev pub program_read : ReadCode → Result (List MarkedInstr) AsmRefusal
program_read code = jumps_set code.labels (Ok code.program) code.jumps

abbrev pub program_where_read : Result ReadCode AsmRefusal → Result (List MarkedInstr) AsmRefusal
program_where_read (Err refusal) = Err refusal
program_where_read (Ok code) = program_read code
