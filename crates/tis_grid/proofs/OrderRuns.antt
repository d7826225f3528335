-- Orders that are run one event after the other.
use Rattle.std.proofs.Common.{◌≡◌, ℕ, ◌+◌, ◌-◌, ◌<◌, ◌≤◌, true, cond, List, [], ◌∷◌, ◌++◌, length, get_or, take, Option, Some, None, option_map, unwrap_or, sym, ap, ◌∙◌, subst, inl, inr, arith}
use Rattle.std.specs.Prelude.{Bool, IsTrue, option_and_then}
use Rattle.std.proofs.lemmas.List.{take_more}
use Rattle.std.proofs.lemmas.Bool.{cases_eq}
use Rattle.std.proofs.lemmas.List.{get_or-set_other}
use Rattle.tis_grid.specs.declared.event.Event.{Event}
use Rattle.tis_grid.specs.declared.event.Event.TheVariants.{Local, Meet, In, Out, Push, Pop}
use Rattle.tis_grid.specs.Puzzle.{has_output}
use Rattle.tis_grid.specs.State.{Grid, State}
use Rattle.tis_grid.specs.HeldState.{spare_at, HasRoom, spares_after}
use Rattle.tis_grid.specs.Events.{is_enabled, after_event, IsEnabled}
use Rattle.tis_grid.specs.Orders.{after}
use Rattle.tis_grid.proofs.Total.{step_cases}
use Rattle.tis_grid.proofs.Enabled.{enabled_parts}
use Rattle.tis_grid.proofs.Fitting.{get_or-set_holds}

-- an event that can happen leads to the state behind it
pub step_leads : (grid : Grid) (state : State) (event : Event) (events : List Event) → is_enabled grid state event ≡ true → after grid state (event ∷ events) ≡ after grid (after_event grid state event) events
step_leads grid state event events is = ap (λ (enabled : Bool). option_and_then (λ next. after grid next events) (cond enabled (Some (after_event grid state event)) None)) is

-- one more event behind an order
pub after_push : (grid : Grid) (events : List Event) (state mid : State) (event : Event) → after grid state events ≡ Some mid → is_enabled grid mid event ≡ true → after grid state (events ++ event ∷ []) ≡ Some (after_event grid mid event)
after_push grid [] state mid event leads is =
    let same : mid ≡ state = cc in
    step_leads grid state event [] (ap (λ (s : State). is_enabled grid s event) (sym same) ∙ is) ∙ ap (λ (s : State). Some (after_event grid s event)) (sym same)
after_push grid (first ∷ events) state mid event leads is =
    let parts = step_cases (is_enabled grid state first) (after_event grid state first) mid (λ next. after grid next events) leads in
    step_leads grid state first (events ++ event ∷ []) parts.0 ∙ after_push grid events (after_event grid state first) mid event parts.1 is

-- the next event of a list
pub after_next : (grid : Grid) (events : List Event) (state mid : State) (index : ℕ) (d : Event) → index < length events → after grid state (take index events) ≡ Some mid → is_enabled grid mid (get_or events index d) ≡ true → after grid state (take (index + 1) events) ≡ Some (after_event grid mid (get_or events index d))
after_next grid events state mid index d within leads is = ap (λ (list : List Event). after grid state list) (take_more events index d within) ∙ after_push grid (take index events) state mid (get_or events index d) leads is

-- ---- room

-- one place less is used up by no event but of its output
spare_falls : (count : ℕ) (spare : Option ℕ) → count ≤ unwrap_or spare 0 → count - 1 ≤ unwrap_or (option_map (λ n. n - 1) spare) 0
spare_falls count None has = omega arith
spare_falls count (Some spare) has = omega arith

-- room for so many values, before an event and behind it
pub room_falls : (spares : List (Option ℕ)) (event : Event) (count position : ℕ) → count ≤ spare_at spares position → count - 1 ≤ spare_at (spares_after spares event) position
room_falls spares (Local tile) count position has = omega arith
room_falls spares (Meet tile dir) count position has = omega arith
room_falls spares (In at) count position has = omega arith
room_falls spares (Out at) count position has =
    elim (cases_eq position at) [
      | inl here ↦ subst (λ (p : ℕ). count - 1 ≤ unwrap_or (get_or (spares_after spares (Out at)) p None) 0) (sym here)
          (let has_at : count ≤ spare_at spares at = subst (λ (p : ℕ). count ≤ spare_at spares p) here has in
          get_or-set_holds (λ (o : Option ℕ). count - 1 ≤ unwrap_or o 0) spares at at (option_map (λ n. n - 1) (get_or spares at None)) None (spare_falls count (get_or spares at None) has_at) (omega arith))
      | inr elsewhere ↦ subst (λ (o : Option ℕ). count - 1 ≤ unwrap_or o 0) (sym (get_or-set_other spares at position _ None elsewhere)) (omega arith)
    ]
room_falls spares (Push tile dir) count position has = omega arith
room_falls spares (Pop tile dir) count position has = omega arith

-- where each output that stands has room, an event that is enabled finds it
pub room_for : (grid : Grid) (state : State) (spares : List (Option ℕ)) (event : Event) → IsEnabled grid state event → ((position : ℕ) → IsTrue (has_output grid.puzzle.outputs position) → 0 < spare_at spares position) → HasRoom spares event
room_for grid state spares (Local tile) is room = tt
room_for grid state spares (Meet tile dir) is room = tt
room_for grid state spares (In position) is room = tt
room_for grid state spares (Out position) is room = let parts = enabled_parts grid state (Out position) is in room position parts.1
room_for grid state spares (Push tile dir) is room = tt
room_for grid state spares (Pop tile dir) is room = tt

-- room for the events behind the next one
pub room_less : (spares new : List (Option ℕ)) (event : Event) (count index position : ℕ) → new ≡ spares_after spares event → count - index ≤ spare_at spares position → count - (index + 1) ≤ spare_at new position
room_less spares new event count index position is has =
    let fewer = room_falls spares event (count - index) position has in
    let same = ap (λ (s : List (Option ℕ)). spare_at s position) is in
    omega (arith, fewer, same)
