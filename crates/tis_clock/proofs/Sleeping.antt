-- A tile that sleeps does nothing, and goes on sleeping where the one that it waits for doesn't begin to write.
use Rattle.std.proofs.Common.{◌≡◌, ◌≢◌, ℕ, ◌*◌, ◌<◌, Bool, true, false, cond, List, [], ◌∷◌, length, Option, Some, None, inl, inr, refl, sym, ap, subst, ◌∙◌}
use Rattle.std.specs.Prelude.{◌&&◌, not, nat_lt, get_or, replicate}
use Rattle.tis_base.specs.Tiles.{is_compute, is_memory, opposite}
use Rattle.tis_base.specs.declared.tiles.TileKind.{TileKind}
use Rattle.tis_base.specs.declared.tiles.TileKind.TheVariants.{Compute, Memory, Damaged}
use Rattle.tis_base.specs.declared.tiles.Dir.{Dir}
use Rattle.tis_base.specs.declared.tiles.Dir.TheVariants.{Left, Right, Up, Down}
use Rattle.tis_asm.specs.declared.program.MarkedInstr.{MarkedInstr}
use Rattle.tis_asm.specs.Node.{Node, Mode, Ready, Writing, is_same_dir, can_local, wants, wants_in, instr_at}
use Rattle.tis_asm.specs.PortRuns.{Step, after_steps}
use Rattle.tis_grid.specs.declared.event.Event.{Event}
use Rattle.tis_grid.specs.declared.event.Event.TheVariants.{Local}
use Rattle.tis_grid.specs.State.{Grid, IsGrid, State, node_at, stack_at}
use Rattle.tis_grid.specs.Events.{program_of, next_tile, is_compute_at, is_waiting, is_giving, is_enabled, after_event}
use Rattle.tis_grid.specs.Orders.{Fits}
use Rattle.tis_grid.specs.TileSets.{has}
use Rattle.tis_grid.specs.TileSteps.{steps_in}
use Rattle.tis_grid.proofs.Enabled.{enabled_parts}
use Rattle.tis_grid.proofs.Fitting.{event_fitting}
use Rattle.tis_grid.proofs.Steps.{event_does}
use Rattle.tis_clock.specs.Cycle.{is_writing, writers, first_way, ways_of_ready, reads_or_steps, gives_out, state_after, and_then, in_turn}
use Rattle.tis_clock.specs.Sleepers.{WaitsFor, Sleeps, AreAsleep}
use Rattle.tis_clock.specs.Turns.{acts}
use Rattle.tis_clock.proofs.Intended.{takes_one, nothing_comes}
use Rattle.tis_clock.proofs.Kept.{none_kept}
use Rattle.tis_clock.proofs.Once.{in_first, in_second}
use Rattle.tis_clock.proofs.Room.{reads_can, gives_can}
use Rattle.tis_clock.proofs.Same.{reads_same, gives_same}

-- ---- a tile goes to sleep

no_stack : (kind : TileKind) → is_compute kind ≡ true → is_memory kind ≡ false
no_stack Compute is = refl
no_stack Memory is = absurd cc
no_stack Damaged is = refl

itself : (dir : Dir) → is_same_dir dir dir ≡ true
itself Left = refl
itself Right = refl
itself Up = refl
itself Down = refl

waits_ready : (compute : Bool) (mode : Mode) (program : List MarkedInstr) (pc : ℕ) (node : Node) (dir : Dir) → (compute && wants_in mode (instr_at program pc) node dir) ≡ true → is_writing mode ≡ false
waits_ready compute Ready program pc node dir is = refl
waits_ready true (Writing value toward) program pc node dir is = absurd cc
waits_ready false (Writing value toward) program pc node dir is = absurd cc

module _ (grid : Grid) (is_grid : IsGrid grid) (now : State) (tile : ℕ) (within : tile < length grid.puzzle.tiles.kinds) (dir : Dir) (next : ℕ) (is : next_tile grid tile dir ≡ Some next)
    (compute : is_compute_at grid next ≡ true) (local : is_enabled grid now (Local (record { number = tile })) ≡ false) (only : (other : Dir) → is_waiting grid now tile other ≡ is_same_dir dir other) where
  waits_for : WaitsFor grid (node_at now tile) tile next
  waits_for was later same quiet =
      elim (was tile) as (λ w. was tile ≡ w → reads_or_steps grid was later tile ≡ None) [
        | true ↦ λ wrote. ap (λ (b : Bool). cond (not b) (first_way grid was later (ways_of_ready grid tile)) None) wrote
        | false ↦ λ ready.
            let local_then : is_enabled grid later (Local (record { number = tile })) ≡ false = ap (λ (n : Node). is_compute_at grid tile && can_local (program_of grid tile) n) same ∙ local in
            let only_then : (other : Dir) → is_waiting grid later tile other ≡ is_same_dir dir other = λ other. ap (λ (n : Node). is_compute_at grid tile && wants (program_of grid tile) n other) same ∙ only other in
            sym (takes_one grid is_grid later was tile within ready local_then dir only_then)
            ∙ sym (nothing_comes grid is_grid later was tile within dir next is (only_then dir ∙ itself dir)
            (ap (λ (b : Bool). b && is_giving grid later next (opposite dir)) quiet)
            (ap (λ (b : Bool). b && nat_lt 0 (length (stack_at later next))) (no_stack (get_or grid.puzzle.tiles.kinds next Damaged) compute)))
      ] refl

  pub falls_asleep : (was : ℕ → Bool) → was tile ≡ false → was next ≡ false → Sleeps grid was now tile
  falls_asleep was rested quiet = record {
    rested = rested;
    ready = waits_ready (is_compute_at grid tile) (node_at now tile).mode (program_of grid tile) (node_at now tile).pc (node_at now tile) dir (only dir ∙ itself dir);
    other = next;
    quiet = quiet;
    waits = waits_for;
  }

-- ---- which tiles were writing, told in another way

pub asleep_by : (grid : Grid) (one other : ℕ → Bool) → ((tile : ℕ) → other tile ≡ one tile) → (now : State) (set : List Bool) → AreAsleep grid one now set → AreAsleep grid other now set
asleep_by grid one other same now set are = record {
  full = are.full;
  each = λ tile is.
      let sleeps = are.each tile is in
      record { rested = same tile ∙ sleeps.rested; ready = sleeps.ready; other = sleeps.other; quiet = same sleeps.other ∙ sleeps.quiet; waits = sleeps.waits };
}

-- nobody sleeps
pub none_asleep : (grid : Grid) (was : ℕ → Bool) (now : State) (set : List Bool) → set ≡ replicate 12 false → AreAsleep grid was now set
none_asleep grid was now set is = record {
  full = ap (λ (l : List Bool). length l) is;
  each = λ tile there. let no : true ≡ false = sym there ∙ ap (λ (l : List Bool). has l tile) is ∙ none_kept 12 tile in absurd cc;
}

-- ---- it does nothing

pub does_nothing : (grid : Grid) (was : ℕ → Bool) (now : State) (tile : ℕ) → Sleeps grid was now tile → reads_or_steps grid was now tile ≡ None
does_nothing grid was now tile sleeps = sleeps.waits was now refl sleeps.quiet

-- ---- what others do leaves its node

module _ (grid : Grid) (is_grid : IsGrid grid) (start : State) (was : ℕ → Bool) (keeps : (tile : ℕ) → was tile ≡ writers start tile) where
  clash : (b : Bool) → b ≡ true → b ≡ false → ⊥
  clash b holds fails = let bad : true ≡ false = sym holds ∙ fails in absurd cc

  still : (now : State) → Fits grid now → (event : Event) → is_enabled grid now event ≡ true → (tile : ℕ) → steps_in grid now event tile ≡ [] → node_at (after_event grid now event) tile ≡ node_at now tile
  still now fits event enabled tile none =
      sym (event_does grid now is_grid fits tile event (enabled_parts grid now event enabled)).leads
      ∙ ap (λ (steps : List Step). after_steps (program_of grid tile) (node_at now tile) steps) none

  -- a turn of the first half leaves each other tile that is ready
  pub turn_keeps : (now : State) → Fits grid now → (turn : ℕ) → turn < grid.puzzle.tiles.shape.columns * grid.puzzle.tiles.shape.rows → (chosen : Option Event) → chosen ≡ reads_or_steps grid was now turn →
      (tile : ℕ) → tile ≢ turn → writers now tile ≡ false → node_at (state_after grid now (acts chosen)) tile ≡ node_at now tile
  turn_keeps now fits turn within None is tile other ready = refl
  turn_keeps now fits turn within (Some event) is tile other ready =
      elim (in_first grid is_grid start tile turn now event within (sym (is ∙ reads_same grid was (writers start) keeps now turn))) [
        | inl none ↦ still now fits event (reads_can grid was now turn event (sym is)) tile none
        | inr rest ↦ elim rest [
          | inl own ↦ absurd (other own.0)
          | inr gives ↦ absurd (clash (writers now tile) gives.2 ready)
        ]
      ]

  -- the second half leaves each tile that wasn't writing
  pub second_keeps : (tiles : List ℕ) (now : State) → Fits grid now → (tile : ℕ) → was tile ≡ false → node_at (state_after grid now (in_turn grid (gives_out grid was) now tiles)) tile ≡ node_at now tile
  second_keeps [] now fits tile rested = refl
  second_keeps (turn ∷ tiles) now fits tile rested =
      elim (gives_out grid was now turn) as (λ choice. gives_out grid was now turn ≡ choice → node_at (state_after grid now (and_then grid now choice (λ next. in_turn grid (gives_out grid was) next tiles))) tile ≡ node_at now tile) [
        | None ↦ λ chose. second_keeps tiles now fits tile rested
        | Some event ↦ λ chose.
            let enabled = gives_can grid was now turn event chose in
            second_keeps tiles (after_event grid now event) (event_fitting grid now event is_grid fits (enabled_parts grid now event enabled)) tile rested
            ∙ elim (in_second grid is_grid start tile turn now event (sym (gives_same grid was (writers start) keeps now turn) ∙ chose)) [
              | inl none ↦ still now fits event enabled tile none
              | inr gives ↦ absurd (clash (was tile) (keeps tile ∙ gives.1) rested)
            ]
      ] refl

  -- ---- it goes on sleeping

  asleep_with : (before after : State) (tile : ℕ) → node_at after tile ≡ node_at before tile → Sleeps grid was before tile → Sleeps grid was after tile
  asleep_with before after tile same sleeps = record {
    rested = sleeps.rested;
    ready = ap (λ (n : Node). is_writing n.mode) same ∙ sleeps.ready;
    other = sleeps.other;
    quiet = sleeps.quiet;
    waits = subst (λ (n : Node). WaitsFor grid n tile sleeps.other) (sym same) sleeps.waits;
  }

  -- behind another's turn
  pub sleeps_on : (now : State) → Fits grid now → (turn : ℕ) → turn < grid.puzzle.tiles.shape.columns * grid.puzzle.tiles.shape.rows → (chosen : Option Event) → chosen ≡ reads_or_steps grid was now turn →
      (tile : ℕ) → tile ≢ turn → Sleeps grid was now tile → Sleeps grid was (state_after grid now (acts chosen)) tile
  sleeps_on now fits turn within chosen is tile other sleeps =
      asleep_with now (state_after grid now (acts chosen)) tile (turn_keeps now fits turn within chosen is tile other sleeps.ready) sleeps

  -- in the next cycle, where nobody began to write
  pub still_asleep : (tiles : List ℕ) (now : State) → Fits grid now → ((tile : ℕ) → was tile ≡ false → writers now tile ≡ false) → (end : State) → end ≡ state_after grid now (in_turn grid (gives_out grid was) now tiles) →
      (tile : ℕ) → Sleeps grid was now tile → Sleeps grid (writers end) end tile
  still_asleep tiles now fits none end is tile sleeps =
      let same : (other : ℕ) → was other ≡ false → node_at end other ≡ node_at now other = λ other rested. ap (λ (s : State). node_at s other) is ∙ second_keeps tiles now fits other rested in
      record {
        rested = ap (λ (n : Node). is_writing n.mode) (same tile sleeps.rested) ∙ sleeps.ready;
        ready = ap (λ (n : Node). is_writing n.mode) (same tile sleeps.rested) ∙ sleeps.ready;
        other = sleeps.other;
        quiet = ap (λ (n : Node). is_writing n.mode) (same sleeps.other sleeps.quiet) ∙ none sleeps.other sleeps.quiet;
        waits = subst (λ (n : Node). WaitsFor grid n tile sleeps.other) (sym (same tile sleeps.rested)) sleeps.waits;
      }
