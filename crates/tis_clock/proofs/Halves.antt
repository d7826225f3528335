-- One tile after the other, in a half of a cycle.
use Rattle.std.proofs.Common.{◌≡◌, ℕ, ◌+◌, ◌-◌, ◌<◌, ◌≤◌, Bool, true, List, [], ◌∷◌, ◌++◌, length, Option, Some, None, refl, sym, ap, ◌∙◌, arith, append_assoc, append-nil, length-append}
use Rattle.std.specs.List.{range_with_len}
use Rattle.tis_grid.specs.declared.event.Event.{Event}
use Rattle.tis_grid.specs.State.{Grid, State}
use Rattle.tis_grid.specs.Events.{after_event}
use Rattle.tis_clock.specs.Cycle.{state_after, and_then, in_turn}
use Rattle.tis_clock.specs.Turns.{acts}
use Rattle.tis_clock.proofs.Below.{columns_from, next_column, no_column}

-- events, and then others
pub state_after_then : (grid : Grid) (state : State) (one other : List Event) → state_after grid state (one ++ other) ≡ state_after grid (state_after grid state one) other
state_after_then grid state [] other = refl
state_after_then grid state (event ∷ one) other = state_after_then grid (after_event grid state event) one other

module _ (grid : Grid) (choose : State → ℕ → Option Event) where
  -- the first tile, and then those behind it
  pub in_turn_next : (now : State) (tile : ℕ) (tiles : List ℕ) (chosen : Option Event) → chosen ≡ choose now tile →
      in_turn grid choose now (tile ∷ tiles) ≡ acts chosen ++ in_turn grid choose (state_after grid now (acts chosen)) tiles
  in_turn_next now tile tiles chosen is =
      sym (ap (λ (c : Option Event). and_then grid now c (λ next. in_turn grid choose next tiles)) is)
      ∙ elim chosen as (λ (c : Option Event). and_then grid now c (λ next. in_turn grid choose next tiles) ≡ acts c ++ in_turn grid choose (state_after grid now (acts c)) tiles) [ None ↦ refl | Some event ↦ refl ]

  -- the tiles before this one had their turn: what they did, how many events that was, the trace behind it if it is kept, and the state; the others are still to come
  pub record Done (kept : Bool) (start : State) (before : List Event) (count number : ℕ) (trace : List Event) (counted : ℕ) (now : State) : Type 0 where
    pub given : List Event
    pub trace_is : kept ≡ true → trace ≡ before ++ given
    pub counted_is : counted ≡ length given
    pub now_is : now ≡ state_after grid start given
    pub rest : in_turn grid choose start (range_with_len 0 count) ≡ given ++ in_turn grid choose now (columns_from count number)
    pub few : length given ≤ number

  pub none_done : (kept : Bool) (start : State) (before : List Event) (count : ℕ) → Done kept start before count 0 before 0 start
  none_done kept start before count = record { given = []; trace_is = λ is_kept. sym (append-nil before); counted_is = refl; now_is = refl; rest = ap (λ n. in_turn grid choose start (range_with_len 0 n)) (let all : count ≡ count - 0 = omega arith in all); few = omega arith }

  acts_few : (chosen : Option Event) → length (acts chosen) ≤ 1
  acts_few None = omega arith
  acts_few (Some event) = omega arith

  pub one_more : (kept : Bool) (start : State) (before : List Event) (count number : ℕ) (trace : List Event) (counted : ℕ) (now : State) (chosen : Option Event) (traced : List Event) (more : ℕ) (next : State) →
      Done kept start before count number trace counted now → number < count → chosen ≡ choose now number → (kept ≡ true → traced ≡ trace ++ acts chosen) → more ≡ length (acts chosen) → next ≡ state_after grid now (acts chosen) →
      Done kept start before count (number + 1) traced (counted + more) next
  one_more kept start before count number trace counted now chosen traced more next done within is traced_is more_is next_is = record {
    given = done.given ++ acts chosen;
    trace_is = λ is_kept. traced_is is_kept ∙ ap (λ t. t ++ acts chosen) (done.trace_is is_kept) ∙ append_assoc before done.given (acts chosen);
    counted_is = let both = length-append done.given (acts chosen) in omega (arith, both, more_is, done.counted_is);
    now_is = next_is ∙ ap (λ s. state_after grid s (acts chosen)) done.now_is ∙ sym (state_after_then grid start done.given (acts chosen));
    rest = done.rest ∙ ap (λ tiles. done.given ++ in_turn grid choose now tiles) (next_column count number within)
        ∙ ap (λ events. done.given ++ events) (in_turn_next now number (columns_from count (number + 1)) chosen is)
        ∙ sym (append_assoc done.given (acts chosen) (in_turn grid choose (state_after grid now (acts chosen)) (columns_from count (number + 1))))
        ∙ ap (λ s. (done.given ++ acts chosen) ++ in_turn grid choose s (columns_from count (number + 1))) (sym next_is);
    few = let more = length-append done.given (acts chosen) in let one = acts_few chosen in omega (arith, more, one, done.few);
  }

  -- all tiles had their turn
  pub whole : (kept : Bool) (start : State) (before : List Event) (count number : ℕ) (trace : List Event) (counted : ℕ) (now : State) (done : Done kept start before count number trace counted now) → count ≤ number →
      in_turn grid choose start (range_with_len 0 count) ≡ done.given
  whole kept start before count number trace counted now done past =
      done.rest ∙ ap (λ tiles. done.given ++ in_turn grid choose now tiles) (no_column count number past) ∙ append-nil done.given
