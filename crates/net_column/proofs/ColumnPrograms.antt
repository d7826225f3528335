-- The programs of a column are stages that stand one below the other.
use Rattle.std.proofs.Common.{◌≡◌, ◌≢◌, ℕ, zero, suc, ◌+◌, ◌-◌, ◌*◌, ◌<◌, ◌≤◌, Bool, true, false, List, [], ◌∷◌, length, map, replicate, Some, refl, sym, ap, subst, ◌∙◌, inl, inr, arith}
use Rattle.std.specs.Prelude.{◌⊎◌, ◌==◌, unwrap_or, if◌then◌else◌}
use Rattle.std.specs.List.{range_with_len, list_any}
use Rattle.std.proofs.lemmas.Bool.{cases_lt, cases_eq, cond_both, lt-ltb}
use Rattle.std.proofs.lemmas.List.{get_or_past, get_or-replicate}
use Rattle.std.proofs.lemmas.List.FromFn.{get_or-map-range_with_len}
use Rattle.std.proofs.lemmas.Option.{slice_get-get_or}
use Rattle.tis_base.specs.Tiles.{IsCompute, neighbour_of}
use Rattle.tis_base.specs.declared.tiles.TileKind.{TileKind}
use Rattle.tis_base.specs.declared.tiles.TileKind.TheVariants.{Compute}
use Rattle.tis_base.specs.declared.tiles.Dir.TheVariants.{Down}
use Rattle.tis_asm.specs.declared.program.MarkedInstr.{MarkedInstr}
use Rattle.tis_asm.specs.Programs.{Programs, ArePrograms, HasValues, IsSound, program_at}
use Rattle.tis_grid.specs.Puzzle.{Puzzle, Input, Output, IsPuzzle}
use Rattle.tis_grid.specs.State.{Grid, IsGrid}
use Rattle.net_tree.specs.Tree.{Block, ProcessText}
use Rattle.net_select.specs.Selection.{program_of as code_on}
use Rattle.net_select.specs.Laws.{CodeIsSound}
use Rattle.net_column.specs.Column.{plain_tiles, tiles_below, stands_at}
use Rattle.net_column.specs.Compiled.{column_ports, pass_code, process_code_at, passing_on}
use Rattle.net_column.specs.Carries.{grid_with}
use Rattle.net_column.proofs.Stage.{Stage, StandsOn, StandDown, IsAmong, IsPipeline}
use Rattle.net_column.proofs.PassStage.{pass_stage}
use Rattle.net_column.proofs.ColumnStages.{ArePlaced, IsLine, line_stages, length-line_stages, column_stages, IsApart, no_code, HaveCodes, line_codes, HavePrograms, have_programs-append, line_programs, passed, not_passed}

-- ---- soundness

codes_sound : CodeIsSound → (number : ℕ) (processes : List ProcessText) (bodies : List (Block ℕ)) (other : List MarkedInstr) → IsSound other → (at : ℕ) → IsSound (unwrap_or (process_code_at number processes bodies at) other)
codes_sound code_sound number [] [] other sound at = sound
codes_sound code_sound number [] (body ∷ bodies) other sound at = sound
codes_sound code_sound number (process ∷ processes) [] other sound at = sound
codes_sound code_sound number (process ∷ processes) (body ∷ bodies) other sound at =
    cond_both (stands_at process.at at) (Some (code_on (column_ports (number + 1)) body)) (process_code_at (number + 1) processes bodies at) (λ found. IsSound (unwrap_or found other))
    (λ here. code_sound (column_ports (number + 1)) body) (λ elsewhere. codes_sound code_sound (number + 1) processes bodies other sound at)

-- nor has a tile that passes values on, or one with nothing, a jump that leaves it
passing_sound : (is_passed : Bool) → IsSound (if is_passed then pass_code else [])
passing_sound true = (tt, tt)
passing_sound false = tt

-- a puzzle on twelve compute tiles
abbrev pub plain_puzzle : List Input → List Output → Puzzle
plain_puzzle inputs outputs = record { tiles = plain_tiles; inputs = inputs; outputs = outputs }

-- each of the twelve tiles computes
is_compute-plain : (tile : ℕ) → tile < 12 → IsCompute plain_tiles tile
is_compute-plain tile inside = slice_get-get_or (replicate 12 Compute) tile Compute inside ∙ ap (λ (kind : TileKind). Some kind) (get_or-replicate 12 tile Compute Compute inside)

-- the tile below is there
next-plain : (tile : ℕ) → tile < 8 → neighbour_of plain_tiles.shape tile Down ≡ Some (tile + 4)
next-plain tile above = let inside : tile + 4 < 12 = omega arith in rw (lt-ltb (tile + 4) 12 inside) refl

module _ (position : ℕ) (processes : List ProcessText) (bodies : List (Block ℕ)) where
  -- what the compiler puts on a tile
  abbrev pub program_on : ℕ → List MarkedInstr
  program_on tile = unwrap_or (process_code_at 0 processes bodies tile) (passing_on (tiles_below position (length bodies)) tile)

  -- on all tiles
  abbrev pub column_programs : Programs
  column_programs = record { tiles = plain_tiles; programs = map program_on (range_with_len 0 12) }

  -- the grid of a puzzle and of these
  abbrev pub column_grid : List Input → List Output → Grid
  column_grid inputs outputs = grid_with (plain_puzzle inputs outputs) column_programs

  -- the program of a tile of the grid
  program-inside : (tile : ℕ) → tile < 12 → program_at column_programs.programs tile ≡ program_on tile
  program-inside tile inside = get_or-map-range_with_len program_on 0 12 tile tile [] inside (omega arith)

  -- no program past the tiles
  program-outside : (tile : ℕ) → 12 ≤ tile → program_at column_programs.programs tile ≡ []
  program-outside tile outside = get_or_past (map program_on (range_with_len 0 12)) tile [] outside

  -- the jumps of each program stay inside
  pub programs_sound : CodeIsSound → (tile : ℕ) → IsSound (program_at column_programs.programs tile)
  programs_sound code_sound tile =
      elim (cases_lt tile 12) [
        | inl inside ↦ subst (λ (p : List MarkedInstr). IsSound p) (sym (program-inside tile inside))
            (codes_sound code_sound 0 processes bodies (passing_on (tiles_below position (length bodies)) tile) (passing_sound (list_any (λ passed. passed == tile) (tiles_below position (length bodies)))) tile)
        | inr outside ↦ subst (λ (p : List MarkedInstr). IsSound p) (sym (program-outside tile outside)) tt
      ]

  module _ (placed : ArePlaced 0 position processes bodies) (inside : position < 4) (some : 0 < length bodies) (few : length bodies ≤ 3) where
    -- the code of the processes stands on their tiles
    pub codes : HaveCodes program_on 0 position bodies
    codes = line_codes (process_code_at 0 processes bodies) (passing_on (tiles_below position (length bodies))) 0 position processes bodies placed (λ at lower. refl)

    -- its numbers are values, where those of all programs are
    pub on_values : ArePrograms column_programs → (at : ℕ) → at < 12 → HasValues (program_on at)
    on_values are at within = subst (λ (p : List MarkedInstr). HasValues p) (program-inside at within) (are.values at)

    -- a tile that the output passes
    program-pass : (row tile : ℕ) → length bodies ≤ row → row < 3 → tile ≡ position + 4 * row → program_on tile ≡ pass_code
    program-pass row tile lower within is =
        let none = no_code 0 position processes bodies placed tile (λ other small e. omega arith) in
        let one = passed position (length bodies) row tile some lower within is in
        rw (none, one) refl

    -- a tile of another column
    program-elsewhere : (tile : ℕ) → IsApart position 3 tile → program_on tile ≡ []
    program-elsewhere tile apart =
        let none = no_code 0 position processes bodies placed tile (λ row small. apart row (omega (arith, few, small))) in
        let no_link = not_passed position (length bodies) tile apart in
        rw (none, no_link) refl

    -- the tiles below the processes
    pass_programs : (rows row : ℕ) → length bodies ≤ row → row + rows ≡ 3 → HavePrograms program_on (position + 4 * row) (replicate rows pass_stage)
    pass_programs zero row lower all = tt
    pass_programs (suc rows) row lower all = (
      program-pass row (position + 4 * row) lower (omega arith) refl,
      subst (λ (tile : ℕ). HavePrograms program_on tile (replicate rows pass_stage)) (omega arith) (pass_programs rows (row + 1) (omega arith) (omega arith)),
    )

    -- the code of the stages of a column stands on its tiles
    pub stage_programs : (line : IsLine 0 bodies) → HavePrograms program_on position (column_stages bodies line)
    stage_programs line =
        let stages = line_stages 0 bodies line in
        let count = length bodies in
        let lower = pass_programs (3 - count) count (omega arith) (omega (arith, few)) in
        have_programs-append program_on position stages (replicate (3 - count) pass_stage) (line_programs program_on 0 position bodies line codes)
        (subst (λ (rows : ℕ). HavePrograms program_on (position + 4 * rows) (replicate (3 - count) pass_stage)) (sym (length-line_stages 0 bodies line)) lower)

    module _ (inputs : List Input) (outputs : List Output) where
      -- the program of a stage, on a tile of the grid
      stands_on : (tile : ℕ) (stage : Stage) → tile < 12 → program_on tile ≡ stage.program → StandsOn (column_grid inputs outputs) tile stage
      stands_on tile stage within is = record { compute = is_compute-plain tile within; program = program-inside tile within ∙ is }

      -- stages whose code stands tile below tile, down to the bottom row, stand down the grid
      stand_down : (tile : ℕ) (stage : Stage) (stages : List Stage) → HavePrograms program_on tile (stage ∷ stages) → tile + 4 * length stages ≡ position + 8 → StandDown (column_grid inputs outputs) position tile stage stages
      stand_down tile stage [] programs bottom = (stands_on tile stage (omega arith) programs.0, omega arith)
      stand_down tile stage (next ∷ stages) programs bottom = (
        stands_on tile stage (omega arith) programs.0,
        next-plain tile (omega arith),
        stand_down (tile + 4) next stages programs.1 (omega arith),
      )

      -- a tile is one of those of the stages, or none of them
      among_or_apart : (tile first : ℕ) (stages : List Stage) → IsAmong (column_grid inputs outputs) tile first stages ⊎ IsApart first (length stages) tile
      among_or_apart tile first [] = inr (λ row small e. omega arith)
      among_or_apart tile first (stage ∷ stages) =
          elim (cases_eq tile first) [
            | inl here ↦ inl (inl here)
            | inr elsewhere ↦ elim (among_or_apart tile (first + 4) stages) [
              | inl lower ↦ inl (inr lower)
              | inr apart ↦ inr (apart_here first (length stages) tile elsewhere apart)
            ]
          ]
        where
          apart_here : (first rows tile : ℕ) → tile ≢ first → IsApart (first + 4) rows tile → IsApart first (suc rows) tile
          apart_here first rows tile elsewhere apart zero small e = elsewhere (omega arith)
          apart_here first rows tile elsewhere apart (suc row) small e = apart row (omega arith) (omega arith)

      -- the stages stand down the column, and no other tile has instructions
      pub column_stack : (stage : Stage) (stages : List Stage) → HavePrograms program_on position (stage ∷ stages) → length stages ≡ 2 → IsPipeline (column_grid inputs outputs) position stage stages
      column_stack stage stages programs all =
          record {
            inside = inside;
            stand = stand_down position stage stages programs (omega arith);
            elsewhere = λ tile. elim (cases_lt tile 12) [
              | inr outside ↦ inr (program-outside tile outside)
              | inl within ↦ elim (among_or_apart tile position (stage ∷ stages)) [
                | inl among ↦ inl among
                | inr apart ↦ inr (program-inside tile within ∙ program-elsewhere tile (λ row small. apart row (omega arith)))
              ]
            ];
            other_bottoms = λ other within apart. program-inside (other + 8) (omega arith) ∙ program-elsewhere (other + 8) (λ row small e. apart (omega (arith, inside)));
          }

      -- the programs are for the tiles
      pub column_is_grid : CodeIsSound → ArePrograms column_programs → IsPuzzle (plain_puzzle inputs outputs) → IsGrid (column_grid inputs outputs)
      column_is_grid code_sound are is_puzzle = record { puzzle = is_puzzle; programs = are; sound = programs_sound code_sound }
