-- Worked examples of cycles.
use Rattle.std.proofs.Common.{◌≡◌, pos, false, List, [], ◌∷◌, replicate, refl}
use Rattle.tis_base.specs.declared.tiles.Dir.TheVariants.{Up, Down}
use Rattle.tis_base.specs.declared.tiles.TileKind.TheVariants.{Compute}
use Rattle.tis_asm.specs.declared.instr.Source.{Source}
use Rattle.tis_asm.specs.declared.instr.Source.TheVariants as from
use Rattle.tis_asm.specs.declared.instr.Dest.{Dest}
use Rattle.tis_asm.specs.declared.instr.Dest.TheVariants as to
use Rattle.tis_asm.specs.declared.instr.Instr.TheVariants.{Mov}
use Rattle.tis_asm.specs.declared.program.MarkedInstr.{MarkedInstr}
use Rattle.tis_grid.specs.declared.event.Event.TheVariants.{Meet, In, Out}
use Rattle.tis_grid.specs.declared.puzzle.OutKind.TheVariants.{Stream}
use Rattle.tis_grid.specs.State.{Grid, outs, start}
use Rattle.tis_grid.specs.Choices.{enabled_events}
use Rattle.tis_clock.specs.Cycle.{cycle_events, cycles_events, after_cycles}

-- a program that passes values on
abbrev moving : Source → Dest → List MarkedInstr
moving source dest = record { instr = Mov source dest; mark = false } ∷ []

abbrev passing : List MarkedInstr
passing = moving (from.Port Up) (to.Port Down)

-- the values 5 and 7 come in above column 1, whose three tiles pass them on
abbrev column : Grid
column =
    record {
      puzzle = record {
        tiles = record { shape = record { columns = 4; rows = 3 }; kinds = replicate 12 Compute };
        inputs = record { position = 1; values = pos 5 ∷ pos 7 ∷ [] } ∷ [];
        outputs = record { position = 1; kind = Stream; expected = pos 5 ∷ pos 7 ∷ [] } ∷ [];
      };
      programs = [] ∷ passing ∷ [] ∷ [] ∷ [] ∷ passing ∷ [] ∷ [] ∷ [] ∷ passing ∷ [] ∷ [] ∷ [];
    }

-- a value goes one tile further in a cycle, and the next one comes in as soon as the first tile has given its value
first_cycle : cycle_events column (start column) ≡ In 1 ∷ []
first_cycle = refl

six_cycles : cycles_events column (start column) 6 ≡
    In 1
    ∷ Meet (record { number = 1 }) Down
    ∷ In 1 ∷ Meet (record { number = 5 }) Down
    ∷ Meet (record { number = 1 }) Down ∷ Out 1
    ∷ Meet (record { number = 5 }) Down
    ∷ Out 1
    ∷ []
six_cycles = refl

-- after five cycles the second value isn't out yet, and after six nothing can happen
five_cycles : outs (after_cycles column (start column) 5) 1 ≡ pos 5 ∷ []
five_cycles = refl

then_rest : enabled_events column (after_cycles column (start column) 6) ≡ []
then_rest = refl

then_nothing : cycle_events column (after_cycles column (start column) 6) ≡ []
then_nothing = refl
