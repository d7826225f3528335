-- The laws of sessions.
use Rattle.std.proofs.Common.{◌≡◌, ℕ, zero, suc, ◌+◌, ◌-◌, ◌<◌, ◌≤◌, ◌⊎◌, min, true, false, cond, Option, Some, None, inl, inr, refl, sym, ap, ◌∙◌, arith}
use Rattle.std.specs.Prelude.{Bool, ◌||◌, ◌==◌, is_some, unwrap_or}
use Rattle.std.proofs.lemmas.Bool.{eqb-true}
use Rattle.tis_grid.specs.declared.event.Event.{Event}
use Rattle.tis_grid.specs.State.{IsGrid, State}
use Rattle.tis_grid.specs.Orders.{IsAtRest}
use Rattle.tis_clock.specs.Cycle.{cycle_events}
use Rattle.tis_clock.proofs.Resting.{rest_has_no_cycle}
use Rattle.tis_debug.specs.declared.session.Stop.{Stop}
use Rattle.tis_debug.specs.declared.session.Stop.TheVariants.{Break, Limit}
use Rattle.tis_debug.specs.Sessions.{Session, MOST_KEPT, LAST_CYCLE, GO_CYCLES, first_where, state_at, moved, moved_back, is_nil, is_resting, stands_still, step_count, break_after, break_or, end_here, stop_after, go_count, go_stop}
use Rattle.tis_debug.specs.Laws.{CanEnd, StepsEndFirst, GoesStopFirst, BackIsUndone}
use Rattle.tis_debug.proofs.First.{first_ends, first_before, first_within}
use Rattle.tis_debug.proofs.Standing.{rest_is, still_last, still_resting}
use Rattle.tis_debug.proofs.Going.{stops_all, end_of}

-- where no cycle follows, nothing can happen or it is the last cycle
why_still : (session : Session) → IsGrid session.grid → stands_still session ≡ true → IsAtRest session.grid (state_at session.grid session.cycle) ⊎ (session.cycle ≡ LAST_CYCLE)
why_still session is_grid still =
    elim (is_resting session.grid (state_at session.grid session.cycle)) as (λ b. is_resting session.grid (state_at session.grid session.cycle) ≡ b → (b || session.cycle == LAST_CYCLE) ≡ true → IsAtRest session.grid (state_at session.grid session.cycle) ⊎ (session.cycle ≡ LAST_CYCLE)) [
      | true ↦ λ rests is. inl (rest_is session.grid is_grid (state_at session.grid session.cycle) rests)
      | false ↦ λ works is. inr (eqb-true session.cycle LAST_CYCLE is)
    ] refl still

module _ (session : Session) (count : ℕ) (is_grid : IsGrid session.grid) where
  ends : CanEnd session count (step_count session count)
  ends =
      elim (first_ends (λ done. stands_still (moved session done)) count) [
        | inl all ↦ inl all
        | inr still ↦ inr (why_still (moved session (step_count session count)) is_grid still)
      ]

  not_before : (done : ℕ) → done < step_count session count → CanEnd session count done → ⊥
  not_before done less can =
      let follows : stands_still (moved session done) ≡ false = first_before (λ n. stands_still (moved session n)) count done less in
      elim can [
        | inl all ↦ absurd (omega (arith, less, all, first_within (λ n. stands_still (moved session n)) count))
        | inr (inl rest) ↦
            let rests : is_resting session.grid (state_at session.grid (session.cycle + done)) ≡ true = ap (λ events. is_nil events) ((rest_has_no_cycle session.grid (state_at session.grid (session.cycle + done)) is_grid).0 rest) in
            let still = still_resting (moved session done) rests in
            absurd cc
        | inr (inr last) ↦ let still = still_last (moved session done) last in absurd cc
      ]

pub steps_end_first : StepsEndFirst
steps_end_first session count is_grid = record { ends = ends session count is_grid; not_before = not_before session count is_grid }

-- ---- going on

some_is : (stop : Option Stop) → is_some stop ≡ true → stop ≡ Some (unwrap_or stop Limit)
some_is None is = absurd cc
some_is (Some stop) is = refl

none_is : (stop : Option Stop) → is_some stop ≡ false → stop ≡ None
none_is None is = refl
none_is (Some stop) is = absurd cc

-- after as many cycles as one call does, something stops it
always_stops : (session : Session) → is_some (stop_after session GO_CYCLES) ≡ true
always_stops session =
    elim (break_after session GO_CYCLES) as (λ (b : Option ℕ). break_after session GO_CYCLES ≡ b → is_some (stop_after session GO_CYCLES) ≡ true) [
      | None ↦ λ none. ap (λ (o : Option Stop). is_some o) (stops_all session GO_CYCLES refl none)
      | Some tile ↦ λ found. ap (λ (b : Option ℕ). is_some (break_or b (end_here (moved session GO_CYCLES) GO_CYCLES))) found
    ] refl

pub goes_stop_first : GoesStopFirst
goes_stop_first session = record {
  stops = some_is (stop_after session (go_count session))
      (elim (first_ends (λ done. is_some (stop_after session done)) GO_CYCLES) [
        | inl all ↦ ap (λ (n : ℕ). is_some (stop_after session n)) all ∙ always_stops session
        | inr stops ↦ stops
      ]);
  not_before = λ done less. none_is (stop_after session done) (first_before (λ n. is_some (stop_after session n)) GO_CYCLES done less);
}

-- ---- back

pub back_is_undone : BackIsUndone
back_is_undone session count less reach few =
    let cycle : session.cycle - count + count ≡ session.cycle = omega (arith, less, reach) in
    let kept : min MOST_KEPT (session.kept - count + count) ≡ session.kept = omega (arith, less, few) in
    ap (λ (c : ℕ). record session { cycle = c; kept = min MOST_KEPT (session.kept - count + count) }) cycle ∙ ap (λ (k : ℕ). record session { kept = k }) kept
