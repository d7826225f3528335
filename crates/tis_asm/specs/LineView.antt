-- What contracts see of a line, before and after it is read.
use Rattle.std.specs.Prelude.{ℕ, Bool, List, length, map, nat_lt, Option, option_map, Result, Err, if◌then◌else◌}
use Rattle.tis_asm.specs.declared.line.NamedInstr.{NamedInstr as HeldInstr}
use Rattle.tis_asm.specs.declared.line.NamedInstr.TheVariants as held
use Rattle.tis_asm.specs.declared.line.CodeLine.{CodeLine as HeldLine}
use Rattle.tis_asm.specs.declared.source_line.SourceLine.{SourceLine as HeldSource}
use Rattle.tis_asm.specs.Assembling.{AsmRefusal, LongLine, NamedInstr, Plain, JumpTo, CodeLine, capital, without_comment, line_of, or_bad}

-- an instruction with the bytes of its label
abbrev pub named_view : HeldInstr → NamedInstr
named_view (held.Plain instr) = Plain instr
named_view (held.JumpTo jump label) = JumpTo jump label.now

-- a line with the bytes of its labels
abbrev pub line_view : HeldLine → CodeLine
line_view line = record { label = option_map (λ label. label.now) line.label; mark = line.mark; instr = option_map named_view line.instr }

-- a line of these parts
abbrev pub line_with : Bool → Option (List ℕ) → Option NamedInstr → CodeLine
line_with mark label instr = record { label = label; mark = mark; instr = instr }

-- a line before it is read: whether it has more than 80 bytes, and its bytes in capitals, without the comment
pub record Source : Type 0 where
  pub long : Bool
  pub code : List ℕ

abbrev pub source_of : List ℕ → Source
source_of line = record { long = nat_lt 80 (length line); code = map capital (without_comment line) }

abbrev pub source_view : HeldSource → Source
source_view source = record { long = source.long; code = source.code.items }

-- what such a line says
abbrev pub source_read : ℕ → Source → Result CodeLine AsmRefusal
source_read number source = if source.long then Err (LongLine number) else or_bad number (line_of source.code)
