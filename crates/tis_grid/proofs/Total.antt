-- Orders whose every event is enabled, and the state that they lead to.
use Rattle.std.proofs.Common.{◌≡◌, true, false, cond, List, [], ◌∷◌, Option, Some, None, refl, ap, ◌∙◌}
use Rattle.std.specs.Prelude.{Bool, option_and_then}
use Rattle.tis_grid.specs.declared.event.Event.{Event}
use Rattle.tis_grid.specs.State.{Grid, State}
use Rattle.tis_grid.specs.Events.{is_enabled, after_event}
use Rattle.tis_grid.specs.Orders.{after}
use Rattle.tis_grid.proofs.Enabled.{Enables, enabled_parts, enabled_from}

-- the state behind these events, one after the other
abbrev pub ran : Grid → State → List Event → State
ran grid state [] = state
ran grid state (event ∷ events) = ran grid (after_event grid state event) events

-- each event is enabled in its turn
abbrev pub Runs : Grid → State → List Event → Type 0
Runs grid state [] = Unit {0}
Runs grid state (event ∷ events) = Enables grid state event × Runs grid (after_event grid state event) events

-- an event leads somewhere where it is enabled
pub step_cases : (enabled : Bool) (next after : State) (rest : State → Option State) → option_and_then rest (cond enabled (Some next) None) ≡ Some after → (enabled ≡ true) × (rest next ≡ Some after)
step_cases true next after rest is = (refl, is)
step_cases false next after rest is = absurd cc

-- an order that leads to a state runs, and leads to that one
pub leads_runs : (grid : Grid) (state : State) (events : List Event) (end : State) → after grid state events ≡ Some end → Runs grid state events × (ran grid state events ≡ end)
leads_runs grid state [] end is = (tt, cc)
leads_runs grid state (event ∷ events) end is =
    let first = step_cases (is_enabled grid state event) (after_event grid state event) end (λ next. after grid next events) is in
    let rest = leads_runs grid (after_event grid state event) events end first.1 in
    ((enabled_parts grid state event first.0, rest.0), rest.1)

-- and back
pub runs_lead : (grid : Grid) (state : State) (events : List Event) → Runs grid state events → after grid state events ≡ Some (ran grid state events)
runs_lead grid state [] runs = refl
runs_lead grid state (event ∷ events) runs =
    ap (λ (enabled : Bool). option_and_then (λ next. after grid next events) (cond enabled (Some (after_event grid state event)) None)) (enabled_from grid state event runs.0)
    ∙ runs_lead grid (after_event grid state event) events runs.1
