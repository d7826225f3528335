-- Programs, and one for each tile.
use Rattle.std.specs.Prelude.{◌≡◌, ◌≢◌, ℕ, ◌<◌, ◌≤◌, List, [], ◌∷◌, length, Some, slice_get, get_or}
use Rattle.tis_base.specs.Saturation.{IsValue}
use Rattle.tis_base.specs.Tiles.{Tiles}
use Rattle.tis_base.specs.declared.tiles.TileKind.TheVariants.{Compute}
use Rattle.tis_asm.specs.declared.instr.Source.{Source}
use Rattle.tis_asm.specs.declared.instr.Source.TheVariants as from
use Rattle.tis_asm.specs.declared.instr.Instr.{Instr}
use Rattle.tis_asm.specs.declared.instr.Instr.TheVariants.{Nop, Mov, Swp, Sav, Add, Sub, Neg, Jump, Jro}
use Rattle.tis_asm.specs.declared.program.MarkedInstr.{MarkedInstr}

-- a source that is a number is one that the machine holds
abbrev pub SourceHasValue : Source → Type 0
SourceHasValue (from.Number number) = IsValue number
SourceHasValue from.Acc = Unit {0}
SourceHasValue from.Nil = Unit {0}
SourceHasValue (from.Port dir) = Unit {0}
SourceHasValue from.Any = Unit {0}
SourceHasValue from.Last = Unit {0}

-- so is the number of an instruction, where it has one
abbrev pub InstrHasValue : Instr → Type 0
InstrHasValue Nop = Unit {0}
InstrHasValue (Mov source dest) = SourceHasValue source
InstrHasValue Swp = Unit {0}
InstrHasValue Sav = Unit {0}
InstrHasValue (Add source) = SourceHasValue source
InstrHasValue (Sub source) = SourceHasValue source
InstrHasValue Neg = Unit {0}
InstrHasValue (Jump jump number) = Unit {0}
InstrHasValue (Jro source) = SourceHasValue source

-- each number in the program is one that the machine holds
abbrev pub HasValues : List MarkedInstr → Type 0
HasValues [] = Unit {0}
HasValues (marked ∷ program) = InstrHasValue marked.instr × HasValues program

-- a jump, where the instruction is one, goes to one of so many instructions
abbrev pub JumpsWithin : ℕ → Instr → Type 0
JumpsWithin count Nop = Unit {0}
JumpsWithin count (Mov source dest) = Unit {0}
JumpsWithin count Swp = Unit {0}
JumpsWithin count Sav = Unit {0}
JumpsWithin count (Add source) = Unit {0}
JumpsWithin count (Sub source) = Unit {0}
JumpsWithin count Neg = Unit {0}
JumpsWithin count (Jump jump number) = number < count
JumpsWithin count (Jro source) = Unit {0}

-- so does each jump in these
abbrev pub JumpWithin : ℕ → List MarkedInstr → Type 0
JumpWithin count [] = Unit {0}
JumpWithin count (marked ∷ program) = JumpsWithin count marked.instr × JumpWithin count program

-- each jump of the program goes to one of its instructions
abbrev pub IsSound : List MarkedInstr → Type 0
IsSound program = JumpWithin (length program) program

-- the tiles, and one program for each of them
pub record Programs : Type 0 where
  pub tiles : Tiles
  pub programs : List (List MarkedInstr)

-- the program of a tile
abbrev pub program_at : List (List MarkedInstr) → ℕ → List MarkedInstr
program_at programs tile = get_or programs tile []

-- there is one program for each tile, each has at most fifteen instructions, its numbers are values of the machine, and only compute tiles have any
pub record ArePrograms (programs : Programs) : Type 0 where
  pub one_each : length programs.programs ≡ length programs.tiles.kinds
  pub short : (tile : ℕ) → length (program_at programs.programs tile) ≤ 15
  pub values : (tile : ℕ) → HasValues (program_at programs.programs tile)
  pub elsewhere : (tile : ℕ) → slice_get programs.tiles.kinds tile ≢ Some Compute → program_at programs.programs tile ≡ []
