-- Worked examples of sessions.
use Rattle.std.proofs.Common.{◌≡◌, ℕ, zero, suc, ◌<◌, pos, false, true, List, [], ◌∷◌, replicate, Some, None, refl, arith}
use Rattle.std.specs.Prelude.{codes, Ok, Err, Bool}
use Rattle.std.specs.Fmt.{digits}
use Rattle.tis_base.specs.declared.tiles.Dir.TheVariants.{Up, Down}
use Rattle.tis_base.specs.declared.tiles.TileKind.TheVariants.{Compute}
use Rattle.tis_asm.specs.declared.instr.Source.TheVariants as from
use Rattle.tis_asm.specs.declared.instr.Dest.TheVariants as to
use Rattle.tis_asm.specs.declared.instr.Instr.TheVariants.{Mov, Jump}
use Rattle.tis_asm.specs.declared.instr.Jump.TheVariants.{Always}
use Rattle.tis_asm.specs.declared.program.MarkedInstr.{MarkedInstr}
use Rattle.tis_words.specs.Numerals.{number_of}
use Rattle.tis_grid.specs.declared.puzzle.OutKind.TheVariants.{Stream}
use Rattle.tis_grid.specs.State.{Grid}
use Rattle.tis_debug.specs.declared.script.Action.TheVariants.{Step, Go, Break, Back, Show}
use Rattle.tis_debug.specs.declared.session.Stop.TheVariants as stop
use Rattle.tis_debug.specs.Sessions.{Session, LAST_CYCLE, GO_CYCLES, marks_in, first_session, after_mark, step_count, stop_after, go_count, go_stop}
use Rattle.tis_debug.specs.Scripts.{script_of, debug_text}
use Rattle.tis_debug.proofs.Going.{count_is, stop_is, go_most}

abbrev passing : List MarkedInstr
passing = record { instr = Mov (from.Port Up) (to.Port Down); mark = false } ∷ []

-- the values 5 and 7 come in above column 1, whose three tiles pass them on
abbrev column : Grid
column =
    record {
      puzzle = record {
        tiles = record { shape = record { columns = 4; rows = 3 }; kinds = replicate 12 Compute };
        inputs = record { position = 1; values = pos 5 ∷ pos 7 ∷ [] } ∷ [];
        outputs = record { position = 1; kind = Stream; expected = pos 5 ∷ pos 7 ∷ [] } ∷ [];
      };
      programs = [] ∷ passing ∷ [] ∷ [] ∷ [] ∷ passing ∷ [] ∷ [] ∷ [] ∷ passing ∷ [] ∷ [] ∷ [];
    }

-- ---- scripts are read

read_script : script_of (codes "step 3\nshow\n\nback 2\r\nbreak 5 0\ngo") ≡ Ok (Step 3 ∷ Show ∷ Back 2 ∷ Break 5 0 ∷ Go ∷ [])
unfolding number_of
read_script = refl

first_wrong_line : script_of (codes "go\n\njump 3\nshow x\n") ≡ Err 3
unfolding number_of
first_wrong_line = refl

too_many_cycles : script_of (codes "step 1000001") ≡ Err 1
unfolding number_of
too_many_cycles = refl

-- ---- a session that steps, shows and goes back

session_text : debug_text column (Step 3 ∷ Show ∷ Back 2 ∷ Step 2 ∷ Back 65 ∷ Break 0 0 ∷ Break 1 1 ∷ Break 5 0 ∷ []) ≡
    codes "cycle 3\ncycle 3\ntile 1 pc 0 acc 0 bak 0 last none writing 7 down\ntile 5 pc 0 acc 0 bak 0 last none ready\ntile 9 pc 0 acc 0 bak 0 last none writing 5 down\nin 1 left 0\nout 1\ncycle 1\ncycle 3\nno history 3\nno node 0\nno line 1\nbreak 5 0\n"
unfolding digits marks_in LAST_CYCLE
session_text = refl

-- a step of more cycles than there are ends at rest
step_to_rest : step_count (first_session column) 9 ≡ 6
unfolding marks_in LAST_CYCLE
step_to_rest = refl

-- ---- a session that goes on

none_before : (k : ℕ) → k < 6 → stop_after (first_session column) k ≡ None
unfolding marks_in LAST_CYCLE GO_CYCLES
none_before zero less = refl
none_before (suc zero) less = refl
none_before (suc (suc zero)) less = refl
none_before (suc (suc (suc zero))) less = refl
none_before (suc (suc (suc (suc zero)))) less = refl
none_before (suc (suc (suc (suc (suc zero))))) less = refl
none_before (suc (suc (suc (suc (suc (suc k)))))) less = absurd (omega (arith, less))

rest_then : stop_after (first_session column) 6 ≡ Some stop.Rest
unfolding marks_in LAST_CYCLE GO_CYCLES
rest_then = refl

-- without a mark it comes to rest
go_to_rest : go_stop (first_session column) ≡ stop.Rest
go_to_rest = stop_is (first_session column) 6 stop.Rest (go_most 6 (omega arith)) none_before rest_then

six_cycles : go_count (first_session column) ≡ 6
six_cycles = count_is (first_session column) 6 stop.Rest (go_most 6 (omega arith)) none_before rest_then

-- with one it stops as soon as the node has passed a value on
not_yet : (k : ℕ) → k < 3 → stop_after (after_mark (first_session column) 5 0) k ≡ None
unfolding marks_in LAST_CYCLE GO_CYCLES
not_yet zero less = refl
not_yet (suc zero) less = refl
not_yet (suc (suc zero)) less = refl
not_yet (suc (suc (suc k))) less = absurd (omega (arith, less))

mark_then : stop_after (after_mark (first_session column) 5 0) 3 ≡ Some (stop.Break (record { number = 5 }))
unfolding marks_in LAST_CYCLE GO_CYCLES
mark_then = refl

go_to_mark : go_stop (after_mark (first_session column) 5 0) ≡ stop.Break (record { number = 5 })
go_to_mark = stop_is (after_mark (first_session column) 5 0) 3 (stop.Break (record { number = 5 })) (go_most 3 (omega arith)) not_yet mark_then

-- ---- a node that comes back to what it was

-- tile 2 jumps to its own instruction, which is marked
abbrev spinning : Grid
spinning = record column { programs = [] ∷ [] ∷ (record { instr = Jump Always 0; mark = true } ∷ []) ∷ [] ∷ [] ∷ [] ∷ [] ∷ [] ∷ [] ∷ [] ∷ [] ∷ [] ∷ [] }

-- the mark where it stands doesn't stop it before a cycle
not_at_once : stop_after (first_session spinning) 0 ≡ None
unfolding marks_in LAST_CYCLE GO_CYCLES
not_at_once = refl

-- after one it does, though the node is as before
once_round : stop_after (first_session spinning) 1 ≡ Some (stop.Break (record { number = 2 }))
unfolding marks_in LAST_CYCLE GO_CYCLES
once_round = refl
