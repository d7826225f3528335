-- Lines of code are taken one after the other, and what they spell together with those behind them.
use Rattle.std.specs.Prelude.{ℕ, ◌+◌, List, [], ◌∷◌, ◌++◌, map, take, min, nat_lt, Result, Ok, Err, if◌then◌else◌}
use Rattle.tis_asm.specs.declared.assembler.Assembler.{Assembler}
use Rattle.tis_asm.specs.declared.program.MarkedInstr.{MarkedInstr}
use Rattle.tis_asm.specs.Assembling.{AsmRefusal, TooManyLines, is_blank}
use Rattle.tis_asm.specs.LineView.{Source, source_of, source_view}
use Rattle.tis_asm.specs.ReadCode.{nothing_read, code_read, program_where_read}

-- how many lines there are up to the last one that isn't blank, and how many in all, neither counted past 16, with the first fifteen
pub record Gathered : Type 0 where
  pub count : ℕ
  pub index : ℕ
  pub sources : List Source

-- no line
abbrev pub none_gathered : Gathered
none_gathered = record { count = 0; index = 0; sources = [] }

-- one line more
abbrev pub gathered_with : Gathered → List ℕ → Gathered
gathered_with g line =
    record {
      count = if is_blank line then g.count else min 16 (g.index + 1);
      index = min 16 (g.index + 1);
      sources = if nat_lt g.index 15 then g.sources ++ source_of line ∷ [] else g.sources;
    }

-- what these lines spell
abbrev pub gathered_program : Gathered → Result (List MarkedInstr) AsmRefusal
gathered_program g = if nat_lt 15 g.count then Err TooManyLines else program_where_read (code_read 1 (Ok nothing_read) (take g.count g.sources))

-- what they and those behind them spell
abbrev pub program_behind : Gathered → List (List ℕ) → Result (List MarkedInstr) AsmRefusal
program_behind g [] = gathered_program g
program_behind g (line ∷ lines) = program_behind (gathered_with g line) lines

-- what is seen of an assembler
abbrev pub gathered : Assembler → Gathered
gathered assembler = record { count = assembler.count; index = assembler.index; sources = map source_view assembler.sources.items }

-- what the lines that an assembler has taken, and then these, spell
unfoldable pub assembled_with : Assembler → List (List ℕ) → Result (List MarkedInstr) AsmRefusal
assembled_with assembler lines = program_behind (gathered assembler) lines
