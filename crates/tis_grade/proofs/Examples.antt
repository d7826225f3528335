-- Worked examples of verdicts.
use Rattle.std.proofs.Common.{◌≡◌, ℕ, ℤ, pos, false, List, [], ◌∷◌, ◌++◌, replicate, refl}
use Rattle.tis_base.specs.declared.tiles.Dir.TheVariants.{Up, Down, Right}
use Rattle.tis_base.specs.declared.tiles.TileKind.TheVariants.{Compute, Memory}
use Rattle.tis_asm.specs.declared.instr.Source.{Source}
use Rattle.tis_asm.specs.declared.instr.Source.TheVariants as from
use Rattle.tis_asm.specs.declared.instr.Dest.{Dest}
use Rattle.tis_asm.specs.declared.instr.Dest.TheVariants as to
use Rattle.tis_asm.specs.declared.instr.Instr.TheVariants.{Mov}
use Rattle.tis_asm.specs.declared.program.MarkedInstr.{MarkedInstr}
use Rattle.tis_grid.specs.declared.puzzle.OutKind.TheVariants.{Stream, Image}
use Rattle.tis_grid.specs.Puzzle.{Output}
use Rattle.tis_grid.specs.State.{Grid}
use Rattle.tis_grade.specs.declared.verdict.Verdict.TheVariants.{Passed, Wrong, Extra, Stuck, Late}
use Rattle.tis_grade.specs.Verdict.{verdict_of}

-- a program that passes values on
abbrev moving : Source → Dest → List MarkedInstr
moving source dest = record { instr = Mov source dest; mark = false } ∷ []

abbrev passing : List MarkedInstr
passing = moving (from.Port Up) (to.Port Down)

-- the values 5 and 7 come in above column 1, whose three tiles pass them on
abbrev column : List Output → Grid
column outputs =
    record {
      puzzle = record {
        tiles = record { shape = record { columns = 4; rows = 3 }; kinds = replicate 12 Compute };
        inputs = record { position = 1; values = pos 5 ∷ pos 7 ∷ [] } ∷ [];
        outputs = outputs;
      };
      programs = [] ∷ passing ∷ [] ∷ [] ∷ [] ∷ passing ∷ [] ∷ [] ∷ [] ∷ passing ∷ [] ∷ [] ∷ [];
    }

-- these values are wanted at a position
abbrev wanted : ℕ → List ℤ → Output
wanted position values = record { position = position; kind = Stream; expected = values }

other_value : verdict_of (column (wanted 1 (pos 5 ∷ pos 8 ∷ []) ∷ [])) 100 ≡ Wrong 1 1 (pos 8) (pos 7)
other_value = refl

one_more : verdict_of (column (wanted 1 (pos 5 ∷ []) ∷ wanted 2 (pos 9 ∷ []) ∷ [])) 100 ≡ Extra 1
one_more = refl

-- when the first value is out, all is as wanted, although another would come
first_alone : verdict_of (column (wanted 1 (pos 5 ∷ []) ∷ [])) 100 ≡ Passed 4
first_alone = refl

one_cycle_short : verdict_of (column (wanted 1 (pos 5 ∷ pos 7 ∷ []) ∷ [])) 5 ≡ Late 5
one_cycle_short = refl

just_enough : verdict_of (column (wanted 1 (pos 5 ∷ pos 7 ∷ []) ∷ [])) 6 ≡ Passed 6
just_enough = refl

-- tile 0 gives sixteen values to the stack at its right, which holds fifteen
abbrev filling : Grid
filling =
    record {
      puzzle = record {
        tiles = record { shape = record { columns = 4; rows = 3 }; kinds = Compute ∷ Memory ∷ replicate 10 Compute };
        inputs = record { position = 0; values = replicate 16 (pos 1) } ∷ [];
        outputs = wanted 3 (pos 1 ∷ []) ∷ [];
      };
      programs = moving (from.Port Up) (to.Port Right) ∷ replicate 11 [];
    }

sixteenth_waits : verdict_of filling 100 ≡ Stuck 31
sixteenth_waits = refl

-- ---- the order in which outputs are looked at

-- the columns 1 and 2 pass on what comes in above them, 5 and then 7 on the left, 6 and then 8 on the right
abbrev two_columns : List Output → Grid
two_columns outputs =
    record {
      puzzle = record {
        tiles = record { shape = record { columns = 4; rows = 3 }; kinds = replicate 12 Compute };
        inputs = record { position = 1; values = pos 5 ∷ pos 7 ∷ [] } ∷ record { position = 2; values = pos 6 ∷ pos 8 ∷ [] } ∷ [];
        outputs = outputs;
      };
      programs = [] ∷ passing ∷ passing ∷ [] ∷ [] ∷ passing ∷ passing ∷ [] ∷ [] ∷ passing ∷ passing ∷ [] ∷ [];
    }

-- of two wrong values that come in one cycle the left one is told, however the puzzle lists its outputs
left_first : verdict_of (two_columns (wanted 2 (pos 9 ∷ []) ∷ wanted 1 (pos 9 ∷ []) ∷ [])) 100 ≡ Wrong 1 0 (pos 9) (pos 5)
left_first = refl

-- a value too many on the left comes before a wrong one on the right
left_extra_first : verdict_of (two_columns (wanted 1 (pos 5 ∷ []) ∷ wanted 2 (pos 6 ∷ pos 9 ∷ []) ∷ [])) 100 ≡ Extra 1
left_extra_first = refl

-- and a wrong one on the left before a value too many on the right
left_wrong_first : verdict_of (two_columns (wanted 2 (pos 6 ∷ []) ∷ wanted 1 (pos 5 ∷ pos 9 ∷ []) ∷ [])) 100 ≡ Wrong 1 1 (pos 9) (pos 7)
left_wrong_first = refl

-- ---- before the first cycle

-- where nothing is wanted of any output, it is passed before the first cycle
nothing_wanted : verdict_of (column (wanted 1 [] ∷ [])) 0 ≡ Passed 0
nothing_wanted = refl

-- and stuck where something is, and nothing can happen
nothing_happens : verdict_of (record (column (wanted 1 (pos 1 ∷ []) ∷ [])) { programs = replicate 12 [] }) 0 ≡ Stuck 0
nothing_happens = refl

-- ---- pictures

-- these colours are wanted below column 1
abbrev drawn : List ℤ → Output
drawn colours = record { position = 1; kind = Image; expected = colours }

-- a black picture is there before the first cycle
black_picture : verdict_of (column (drawn (replicate 540 (pos 0)) ∷ [])) 100 ≡ Passed 0
black_picture = refl

-- column 1 draws a red point at the lower right
abbrev drawing : List Output → Grid
drawing outputs = record (column outputs) { puzzle = record (column outputs).puzzle { inputs = record { position = 1; values = pos 29 ∷ pos 17 ∷ pos 4 ∷ [] } ∷ [] } }

red_point : verdict_of (drawing (drawn (replicate 539 (pos 0) ++ pos 4 ∷ []) ∷ [])) 100 ≡ Passed 8
red_point = refl

-- another colour is no fault of a picture, which could still become the one wanted
white_point : verdict_of (drawing (drawn (replicate 539 (pos 0) ++ pos 3 ∷ []) ∷ [])) 100 ≡ Stuck 8
white_point = refl
