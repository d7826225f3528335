-- A cycle of which it is kept which tiles were writing.
use Rattle.std.proofs.Common.{◌≡◌, ℕ, cond, Bool, false, List, [], ◌∷◌, ◌++◌, Option, Some, None, refl, sym, ap, ◌∙◌}
use Rattle.std.specs.Prelude.{◌&&◌, not, flat_map}
use Rattle.std.specs.List.{find}
use Rattle.tis_grid.specs.declared.event.Event.{Event}
use Rattle.tis_grid.specs.declared.event.Event.TheVariants.{Local, Meet, In, Out, Push, Pop}
use Rattle.tis_grid.specs.State.{Grid, State}
use Rattle.tis_grid.specs.Events.{is_enabled, after_event}
use Rattle.tis_clock.specs.Cycle.{writers, directions, ways_of_ready, gives_old, first_way, reads_or_steps, ways_to_give, gives_out, state_after, and_then, in_turn, all_tiles, first_half, second_half, cycle_events, after_cycle}
use Rattle.tis_clock.specs.Turns.{kept_at, Keeps}
use Rattle.tis_clock.proofs.Halves.{state_after_then}

module _ (grid : Grid) (one other : ℕ → Bool) (same : (tile : ℕ) → one tile ≡ other tile) where
  old_same : (event : Event) → gives_old one event ≡ gives_old other event
  old_same (Meet giver dir) = same giver.number
  old_same (Local tile) = refl
  old_same (In position) = refl
  old_same (Out position) = refl
  old_same (Push tile dir) = refl
  old_same (Pop tile dir) = refl

  way_same : (now : State) (ways : List Event) → first_way grid one now ways ≡ first_way grid other now ways
  way_same now [] = refl
  way_same now (event ∷ ways) =
      ap (λ b. cond (b && is_enabled grid now event) (Some event) (first_way grid one now ways)) (old_same event)
      ∙ ap (λ found. cond (gives_old other event && is_enabled grid now event) (Some event) found) (way_same now ways)

  pub reads_same : (now : State) (tile : ℕ) → reads_or_steps grid one now tile ≡ reads_or_steps grid other now tile
  reads_same now tile =
      ap (λ b. cond (not b) (first_way grid one now (ways_of_ready grid tile)) None) (same tile)
      ∙ ap (λ found. cond (not (other tile)) found None) (way_same now (ways_of_ready grid tile))

  pub gives_same : (now : State) (tile : ℕ) → gives_out grid one now tile ≡ gives_out grid other now tile
  gives_same now tile = ap (λ b. cond b (find (is_enabled grid now) (flat_map (ways_to_give grid tile) directions)) None) (same tile)

module _ (grid : Grid) (one other : State → ℕ → Option Event) (same : (now : State) (tile : ℕ) → one now tile ≡ other now tile) where
  pub turns_same : (tiles : List ℕ) (now : State) → in_turn grid one now tiles ≡ in_turn grid other now tiles
  turns_same [] now = refl
  turns_same (tile ∷ tiles) now =
      ap (λ (choice : Option Event). and_then grid now choice (λ next. in_turn grid one next tiles)) (same now tile)
      ∙ elim (other now tile) as (λ choice. and_then grid now choice (λ next. in_turn grid one next tiles) ≡ and_then grid now choice (λ next. in_turn grid other next tiles)) [
        | None ↦ turns_same tiles now
        | Some event ↦ ap (λ events. event ∷ events) (turns_same tiles (after_event grid now event))
      ]

-- where none was writing, nothing is given
pub nobody_gives : (grid : Grid) (was : ℕ → Bool) → ((tile : ℕ) → was tile ≡ false) → (now : State) (tiles : List ℕ) → in_turn grid (gives_out grid was) now tiles ≡ []
nobody_gives grid was none now [] = refl
nobody_gives grid was none now (tile ∷ tiles) =
    ap (λ (choice : Option Event). and_then grid now choice (λ next. in_turn grid (gives_out grid was) next tiles)) (ap (λ b. cond b (find (is_enabled grid now) (flat_map (ways_to_give grid tile) directions)) None) (none tile))
    ∙ nobody_gives grid was none now tiles

-- the two halves are the cycle
pub record Whole (grid : Grid) (state : State) (trace : List Event) (next : State) : Type 0 where
  pub events : trace ≡ cycle_events grid state
  pub after : next ≡ after_cycle grid state

pub is_whole : (grid : Grid) (kept : List Bool) (state middle next : State) (first trace : List Event) → Keeps kept state →
    first ≡ in_turn grid (reads_or_steps grid (kept_at kept)) state (all_tiles grid) → middle ≡ state_after grid state first →
    trace ≡ first ++ in_turn grid (gives_out grid (kept_at kept)) middle (all_tiles grid) →
    next ≡ state_after grid middle (in_turn grid (gives_out grid (kept_at kept)) middle (all_tiles grid)) → Whole grid state trace next
is_whole grid kept state middle next first trace keeps first_is middle_is trace_is next_is =
    let one : first ≡ first_half grid state =
    first_is ∙ turns_same grid (reads_or_steps grid (kept_at kept)) (reads_or_steps grid (writers state)) (reads_same grid (kept_at kept) (writers state) keeps) (all_tiles grid) state in
    let behind : middle ≡ state_after grid state (first_half grid state) = middle_is ∙ ap (state_after grid state) one in
    let two : in_turn grid (gives_out grid (kept_at kept)) middle (all_tiles grid) ≡ second_half grid state (state_after grid state (first_half grid state)) =
    turns_same grid (gives_out grid (kept_at kept)) (gives_out grid (writers state)) (gives_same grid (kept_at kept) (writers state) keeps) (all_tiles grid) middle
    ∙ ap (λ s. in_turn grid (gives_out grid (writers state)) s (all_tiles grid)) behind in
    record {
      events = trace_is ∙ ap (λ (events : List Event). events ++ in_turn grid (gives_out grid (kept_at kept)) middle (all_tiles grid)) one ∙ ap (λ (events : List Event). first_half grid state ++ events) two;
      after = next_is ∙ ap (state_after grid middle) two ∙ ap (λ s. state_after grid s (second_half grid state (state_after grid state (first_half grid state)))) behind
          ∙ sym (state_after_then grid state (first_half grid state) (second_half grid state (state_after grid state (first_half grid state))));
    }
