-- The programs of a column carry its network.
use Rattle.std.proofs.Common.{◌≡◌, ℕ, suc, ◌+◌, ◌-◌, ◌<◌, ◌≤◌, ℤ, true, List, [], ◌∷◌, length, map, Option, Some, None, refl, sym, ap, subst, ◌∙◌, inl, inr, le_trans, append-nil, arith, eqb-true}
use Rattle.std.specs.Prelude.{◌==◌, ◌&&◌, nat_lt, Contains, unwrap_or}
use Rattle.std.specs.List.{range_with_len}
use Rattle.std.proofs.lemmas.Bool.{cases_eq, and_parts, ltb-true}
use Rattle.std.proofs.lemmas.List.{length-map}
use Rattle.tis_base.specs.Prefix.{IsPrefixOf}
use Rattle.tis_base.specs.Tiles.{Tiles}
use Rattle.tis_base.proofs.Prefixes.{prefix_refl}
use Rattle.tis_asm.specs.declared.program.MarkedInstr.{MarkedInstr}
use Rattle.tis_asm.specs.Programs.{Programs, ArePrograms, IsSound, program_at}
use Rattle.tis_grid.specs.declared.event.Event.{Event}
use Rattle.tis_grid.specs.Puzzle.{Input, Output, IsPuzzle, values_at}
use Rattle.tis_grid.specs.State.{State, outs, start}
use Rattle.tis_grid.specs.Orders.{after}
use Rattle.net_tree.specs.Tree.{Block, PortLine, ProcessText, Net}
use Rattle.net_rules.specs.Numbers.{NumberedNet, numbered, number_in, block_with}
use Rattle.net_rules.specs.Kahn.{kahn_at}
use Rattle.net_rules.specs.Rules.{IsAccepted}
use Rattle.net_rules.specs.Laws.{NetHasValues}
use Rattle.net_select.specs.Laws.{CodeBehaves, CodeIsSound}
use Rattle.net_column.specs.Column.{plain_tiles, passes_by, are_same, tiles_below, column_of, are_ends, IsColumn}
use Rattle.net_column.specs.Compiled.{column_ports, process_code_at, tiles_passed, passing_on, program_for, compiled}
use Rattle.net_column.specs.Carries.{FitsNet, grid_with, FollowsNet, Carries}
use Rattle.net_column.specs.Emission.{with_passes, with_links}
use Rattle.net_column.proofs.Stage.{Stage, FollowsPipeline}
use Rattle.net_column.proofs.GridLaws.{every_grid}
use Rattle.net_column.proofs.Pipeline.{follows_stack}
use Rattle.net_column.proofs.BodyStage.{are_distinct}
use Rattle.net_column.proofs.ColumnStages.{ArePlaced, are_placed, IsAmongBodies, IsLine, is_line, column_stages, length-column_stages, HavePrograms}
use Rattle.net_column.proofs.ColumnKahn.{line_net, kahn_at-column, kahn_at-other, bound-column}
use Rattle.net_column.proofs.ColumnPrograms.{plain_puzzle, program_on, column_programs, column_grid, programs_sound, codes, on_values, stage_programs, column_stack, column_is_grid}

-- ---- processes down a column

module _ (position : ℕ) (processes : List ProcessText) (bodies : List (Block ℕ)) (placed : ArePlaced 0 position processes bodies) (inside : position < 4) (some : 0 < length bodies) (few : length bodies ≤ 3) (are : ArePrograms (column_programs position processes bodies)) (line : IsLine 0 bodies) (code_sound : CodeIsSound) where
  module _ (inputs : List Input) (outputs : List Output) (is_puzzle : IsPuzzle (plain_puzzle inputs outputs)) (events : List Event) (end : State) (leads : after (column_grid position processes bodies inputs outputs) (start (column_grid position processes bodies inputs outputs)) events ≡ Some end) where
    -- an order on the grid of a column follows its stages
    follows_stages : (stages : List Stage) → length stages ≡ 3 → HavePrograms (program_on position processes bodies) position stages → FollowsPipeline (column_grid position processes bodies inputs outputs) position stages events end
    follows_stages [] all programs = absurd (omega arith)
    follows_stages (stage ∷ stages) all programs =
        follows_stack every_grid (column_grid position processes bodies inputs outputs) events end (column_is_grid position processes bodies placed inside some few inputs outputs code_sound are is_puzzle) leads position stage stages
        (column_stack position processes bodies placed inside some few inputs outputs stage stages programs (omega arith))

    follows : FollowsPipeline (column_grid position processes bodies inputs outputs) position (column_stages bodies line) events end
    follows = follows_stages (column_stages bodies line) (length-column_stages bodies line few) (stage_programs position processes bodies placed inside some few line)

    -- what follows the stages follows the network
    follows_line : FitsNet (plain_puzzle inputs outputs) (line_net position bodies) → FollowsNet (column_grid position processes bodies inputs outputs) (line_net position bodies) events end
    follows_line fits =
        record {
          prefixes = λ other. elim (cases_eq other position) [
            | inl here ↦ subst (λ (p : ℕ). IsPrefixOf (outs end p) (kahn_at (line_net position bodies) (values_at inputs) p)) (sym here)
                (subst (λ (stream : List ℤ). IsPrefixOf (outs end position) stream) (sym (kahn_at-column position bodies (values_at inputs) line some)) follows.prefix)
            | inr elsewhere ↦ prefix_refl _ _ (follows.others other elsewhere ∙ sym (kahn_at-other position bodies (values_at inputs) other elsewhere))
          ];
          bounded = le_trans follows.bounded (bound-column position bodies (values_at inputs) line some few);
          whole = λ rest other. elim (cases_eq other position) [
            | inl here ↦ subst (λ (p : ℕ). outs end p ≡ kahn_at (line_net position bodies) (values_at inputs) p) (sym here)
                (follows.whole (fits.outputs 0 position (omega arith)) rest ∙ sym (kahn_at-column position bodies (values_at inputs) line some))
            | inr elsewhere ↦ follows.others other elsewhere ∙ sym (kahn_at-other position bodies (values_at inputs) other elsewhere)
          ];
        }

  -- the programs carry the network
  line_carries : Carries (column_programs position processes bodies) (line_net position bodies)
  line_carries puzzle is_puzzle fits =
      subst
      (λ (tiles : Tiles). IsPuzzle (record { tiles = tiles; inputs = puzzle.inputs; outputs = puzzle.outputs }) → FitsNet (record { tiles = tiles; inputs = puzzle.inputs; outputs = puzzle.outputs }) (line_net position bodies) →
      (events : List Event) (end : State) → after (grid_with (record { tiles = tiles; inputs = puzzle.inputs; outputs = puzzle.outputs }) (column_programs position processes bodies)) (start (grid_with (record { tiles = tiles; inputs = puzzle.inputs; outputs = puzzle.outputs }) (column_programs position processes bodies))) events ≡ Some end →
      FollowsNet (grid_with (record { tiles = tiles; inputs = puzzle.inputs; outputs = puzzle.outputs }) (column_programs position processes bodies)) (line_net position bodies) events end)
      (sym fits.tiles)
      (λ is_plain fits_plain events end leads. follows_line puzzle.inputs puzzle.outputs is_plain events end leads fits_plain) is_puzzle fits

-- ---- a network of one column

-- what is known of the ends of a column
pub record AreEnds (count : ℕ) (inputs outputs : List PortLine) : Type 0 where
  pub inside : column_of inputs < 4
  pub entry : map (λ (port : PortLine). port.position) inputs ≡ column_of inputs ∷ []
  pub exit : map (λ (port : PortLine). port.position) outputs ≡ column_of inputs ∷ []
  pub passed : tiles_passed outputs ≡ tiles_below (column_of inputs) count
  pub linked : (programs : List (List MarkedInstr)) → with_links outputs programs ≡ with_passes (tiles_below (column_of inputs) count) programs

pub same_tiles : (one other : List ℕ) → are_same one other ≡ true → one ≡ other
same_tiles [] [] is = refl
same_tiles [] (tile ∷ others) is = absurd cc
same_tiles (tile ∷ tiles) [] is = absurd cc
same_tiles (tile ∷ tiles) (other ∷ others) is =
    let both = and_parts (tile == other) (are_same tiles others) is in
    ap (λ (t : ℕ). t ∷ tiles) (eqb-true tile other both.0) ∙ ap (λ (l : List ℕ). other ∷ l) (same_tiles tiles others both.1)

path_is : (via : Option (List ℕ)) (tiles : List ℕ) → passes_by via tiles ≡ true → unwrap_or via [] ≡ tiles
path_is None tiles is = absurd cc
path_is (Some path) tiles is = same_tiles path tiles is

pub ends_are : (count : ℕ) (inputs outputs : List PortLine) → are_ends count inputs outputs ≡ true → AreEnds count inputs outputs
ends_are count [] outputs is = absurd cc
ends_are count (input ∷ []) [] is = absurd cc
ends_are count (input ∷ []) (output ∷ other ∷ outputs) is = absurd cc
ends_are count (input ∷ other ∷ inputs) outputs is = absurd cc
ends_are count (input ∷ []) (output ∷ []) is =
    let both = and_parts (nat_lt input.position 4 && passes_by input.via []) _ is in
    let first = and_parts (nat_lt input.position 4) (passes_by input.via []) both.0 in
    let second = and_parts (output.position == input.position) (passes_by output.via (tiles_below input.position count)) both.1 in
    let path = path_is output.via (tiles_below input.position count) second.1 in
    record {
      inside = ltb-true input.position 4 first.0;
      entry = refl;
      exit = ap (λ (p : ℕ). p ∷ []) (eqb-true output.position input.position second.0);
      passed = append-nil (unwrap_or output.via []) ∙ path;
      linked = λ programs. ap (λ (tiles : List ℕ). with_passes tiles programs) path;
    }

-- the place of a body in a list
place_in : (body : Block ℕ) (bodies : List (Block ℕ)) → IsAmongBodies body bodies → Contains bodies body
place_in body [] among = absurd among
place_in body (first ∷ bodies) (inl same) = (0, omega arith, same)
place_in body (first ∷ bodies) (inr later) = let found = place_in body bodies later in (suc found.0, omega (arith, found.1), found.2)

module _ (net : Net) (column : IsColumn net) where
  abbrev bodies : List (Block ℕ)
  bodies = (numbered net).processes

  abbrev position : ℕ
  position = column_of net.inputs

  pub count : length bodies ≡ length net.processes
  count = length-map net.processes (λ (process : ProcessText). block_with (number_in net) process.body)

  pub ends : AreEnds (length net.processes) net.inputs net.outputs
  ends = ends_are (length net.processes) net.inputs net.outputs column.ends

  pub placed : ArePlaced 0 position net.processes bodies
  placed = are_placed 0 position net.processes bodies column.line

  -- the numbered network is that of the bodies
  net_is : numbered net ≡ line_net position bodies
  net_is =
      ap (λ (t : Tiles). let n : NumberedNet = record { tiles = t; inputs = map (λ (port : PortLine). port.position) net.inputs; channels = length net.channels; outputs = map (λ (port : PortLine). port.position) net.outputs; processes = bodies } in n) column.tiles
      ∙ ap (λ (l : List ℕ). let n : NumberedNet = record { tiles = plain_tiles; inputs = l; channels = length net.channels; outputs = map (λ (port : PortLine). port.position) net.outputs; processes = bodies } in n) ends.entry
      ∙ ap (λ (l : List ℕ). let n : NumberedNet = record { tiles = plain_tiles; inputs = position ∷ []; channels = length net.channels; outputs = l; processes = bodies } in n) ends.exit
      ∙ ap (λ (c : ℕ). let n : NumberedNet = record { tiles = plain_tiles; inputs = position ∷ []; channels = c; outputs = position ∷ []; processes = bodies } in n) channels_are
    where
      channels_are : length net.channels ≡ length bodies - 1
      channels_are = omega (arith, count, column.joined)

  -- and its programs are those of the column
  pub programs_are : compiled net ≡ column_programs position net.processes bodies
  programs_are =
      ap (λ (t : Tiles). let p : Programs = record { tiles = t; programs = map (program_for net) (range_with_len 0 (length t.kinds)) } in p) column.tiles
      ∙ ap (λ (tiles : List ℕ). let p : Programs = record { tiles = plain_tiles; programs = map (λ tile. unwrap_or (process_code_at 0 net.processes bodies tile) (passing_on tiles tile)) (range_with_len 0 12) } in p) (ends.passed ∙ ap (tiles_below position) (sym count))

  -- each of them is sound
  pub are_sound : CodeIsSound → (tile : ℕ) → IsSound (program_at (compiled net).programs tile)
  are_sound code_sound tile = subst (λ (p : Programs). IsSound (program_at p.programs tile)) (sym programs_are) (programs_sound position net.processes bodies code_sound tile)

  -- and they carry the network
  pub carries : CodeBehaves → CodeIsSound → IsAccepted net → NetHasValues net → ArePrograms (compiled net) → Carries (compiled net) (numbered net)
  carries code_behaves code_sound accepted values are =
      subst (λ (p : Programs). Carries p (numbered net)) (sym programs_are)
      (subst (λ (n : NumberedNet). Carries (column_programs position net.processes bodies) n) (sym net_is)
      (line_carries position net.processes bodies placed ends.inside some few these line code_sound))
    where
      some : 0 < length bodies
      some = omega (arith, count, column.joined)

      few : length bodies ≤ 3
      few = omega (arith, count, column.few)

      these : ArePrograms (column_programs position net.processes bodies)
      these = subst ArePrograms programs_are are

      line : IsLine 0 bodies
      line = is_line code_sound (program_on position net.processes bodies) 0 position net.processes bodies placed (codes position net.processes bodies placed ends.inside some few) (omega (arith, few, ends.inside))
          (on_values position net.processes bodies placed ends.inside some few these)
          (λ at body round among. code_behaves net body (column_ports (at + 1)) accepted values (place_in body bodies among) (are_distinct at body round))
