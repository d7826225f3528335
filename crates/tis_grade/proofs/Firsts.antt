-- The first state that decides.
use Rattle.std.proofs.Common.{◌≡◌, ◌⊎◌, ℕ, zero, suc, ◌+◌, ◌≤◌, Option, Some, None, inl, inr, refl, sym, ap, subst, ◌∙◌, arith}
use Rattle.std.proofs.lemmas.Bool.{cases_lt}
use Rattle.tis_grid.specs.State.{Grid, State, start}
use Rattle.tis_clock.specs.Cycle.{after_cycle, after_cycles}
use Rattle.tis_clock.proofs.Runs.{cycle_more}
use Rattle.tis_grade.specs.declared.verdict.Verdict.{Verdict}
use Rattle.tis_grade.specs.declared.verdict.Verdict.TheVariants.{Late}
use Rattle.tis_grade.specs.Verdict.{or_later, verdict_from}
use Rattle.tis_grade.specs.Laws.{decided_after, IsUndecidedBefore, IsFirstVerdict, IsLateVerdict, VerdictsAreFirst}

-- one state more that doesn't decide
undecided_more : (grid : Grid) (count : ℕ) → IsUndecidedBefore grid count → decided_after grid count ≡ None → IsUndecidedBefore grid (count + 1)
undecided_more grid count before here fewer less =
    elim (cases_lt fewer count) [
      | inl earlier ↦ before fewer earlier
      | inr same ↦ subst (λ (n : ℕ). decided_after grid n ≡ None) (let is : count ≡ fewer = omega (arith, same, less) in is) here
    ]

-- the first that decides, or none
abbrev IsFirstOrLate : Grid → ℕ → Verdict → Type 0
IsFirstOrLate grid limit verdict = ((cycles : ℕ) × IsFirstVerdict grid limit verdict cycles) ⊎ IsLateVerdict grid limit verdict

-- what a state decides is the verdict
here : (grid : Grid) (limit cycles : ℕ) (verdict later : Verdict) → cycles ≤ limit → IsUndecidedBefore grid cycles → decided_after grid cycles ≡ Some verdict → IsFirstOrLate grid limit (or_later (decided_after grid cycles) later)
here grid limit cycles verdict later within before is =
    subst (IsFirstOrLate grid limit) (sym (ap (λ (d : Option Verdict). or_later d later) is)) (inl (cycles, record { within = within; before = before; given = is }))

first_from : (grid : Grid) (limit cycles more : ℕ) → cycles + more ≡ limit → IsUndecidedBefore grid cycles → IsFirstOrLate grid limit (verdict_from grid limit (after_cycles grid (start grid) cycles) cycles more)
first_from grid limit cycles zero all before =
    elim (decided_after grid cycles) as (λ d. decided_after grid cycles ≡ d → IsFirstOrLate grid limit (or_later (decided_after grid cycles) (Late limit))) [
      | Some verdict ↦ λ is. here grid limit cycles verdict (Late limit) (omega (arith, all)) before is
      | None ↦ λ is. inr (record {
        undecided = subst (λ (n : ℕ). IsUndecidedBefore grid (n + 1)) (let end : cycles ≡ limit = omega (arith, all) in end) (undecided_more grid cycles before is);
        late = ap (λ (d : Option Verdict). or_later d (Late limit)) is;
      })
    ] refl
first_from grid limit cycles (suc more) all before =
    let now = after_cycles grid (start grid) cycles in
    let later = verdict_from grid limit (after_cycle grid now) (cycles + 1) more in
    elim (decided_after grid cycles) as (λ d. decided_after grid cycles ≡ d → IsFirstOrLate grid limit (or_later (decided_after grid cycles) later)) [
      | Some verdict ↦ λ is. here grid limit cycles verdict later (omega (arith, all)) before is
      | None ↦ λ is.
          let rest = first_from grid limit (cycles + 1) more (omega (arith, all)) (undecided_more grid cycles before is) in
          subst (IsFirstOrLate grid limit)
          (ap (λ (state : State). verdict_from grid limit state (cycles + 1) more) (cycle_more grid (start grid) cycles) ∙ sym (ap (λ (d : Option Verdict). or_later d later) is))
          rest
    ] refl

pub verdicts_are_first : VerdictsAreFirst
verdicts_are_first grid limit = first_from grid limit 0 limit (omega arith) (λ fewer less. absurd (omega (arith, less)))
