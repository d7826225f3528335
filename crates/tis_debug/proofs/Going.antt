-- Where a call that goes on stops.
use Rattle.std.proofs.Common.{◌≡◌, ℕ, ◌+◌, ◌<◌, ◌≤◌, true, false, cond, Option, Some, None, inr, refl, sym, ap, ◌∙◌, arith, add-one, eq-eqb}
use Rattle.std.specs.Prelude.{Bool, ◌||◌, ◌==◌, is_some, unwrap_or}
use Rattle.std.proofs.lemmas.Bool.{ne_eqb}
use Rattle.tis_base.specs.declared.tiles.Tile.{Tile}
use Rattle.tis_debug.specs.declared.session.Stop.{Stop}
use Rattle.tis_debug.specs.declared.session.Stop.TheVariants.{Break, Rest, Limit}
use Rattle.tis_debug.specs.Sessions.{Session, LAST_CYCLE, GO_CYCLES, state_at, moved, is_resting, stands_still, break_here, break_after, break_or, end_here, stop_after, go_count, go_stop}
use Rattle.tis_debug.proofs.First.{first_is, first_least}

-- at rest, or else at the limit
abbrev pub end_of : Session → Stop
end_of session = cond (is_resting session.grid (state_at session.grid session.cycle)) Rest Limit

ends : (rests all last : Bool) → (rests || last) ≡ true → cond rests (Some Rest) (cond (all || last) (Some Limit) None) ≡ Some (cond rests Rest Limit)
ends true all last is = refl
ends false true true is = refl
ends false false true is = refl
ends false all false is = absurd cc

ends_all : (rests all last : Bool) → all ≡ true → cond rests (Some Rest) (cond (all || last) (Some Limit) None) ≡ Some (cond rests Rest Limit)
ends_all true all last is = refl
ends_all false true last is = refl
ends_all false false last is = absurd cc

ends_not : (rests all last : Bool) → (rests || last) ≡ false → all ≡ false → cond rests (Some Rest) (cond (all || last) (Some Limit) None) ≡ None
ends_not true all last works is = absurd cc
ends_not false true last works is = absurd cc
ends_not false false true works is = absurd cc
ends_not false false false works is = refl

-- how many cycles a call does at most, as the program has it
pub go_most : (n : ℕ) → n ≤ 100000 → n ≤ GO_CYCLES
unfolding GO_CYCLES
go_most n within = within

pub go_less : (n : ℕ) → n < 100000 → n < GO_CYCLES
unfolding GO_CYCLES
go_less n within = within

pub go_all : (n : ℕ) → n ≡ 100000 → n ≡ GO_CYCLES
unfolding GO_CYCLES
go_all n is = is

module _ (session : Session) where
  -- no node stops it, and no cycle follows
  pub stops_still : (done : ℕ) → break_after session done ≡ None → stands_still (moved session done) ≡ true → stop_after session done ≡ Some (end_of (moved session done))
  stops_still done none still =
      ap (λ (b : Option ℕ). break_or b (end_here (moved session done) done)) none
      ∙ ends (is_resting session.grid (state_at session.grid (session.cycle + done))) (done == GO_CYCLES) (session.cycle + done == LAST_CYCLE) still

  -- no node stops it, and all cycles of a call are done
  pub stops_all : (done : ℕ) → done ≡ GO_CYCLES → break_after session done ≡ None → stop_after session done ≡ Some (end_of (moved session done))
  stops_all done all none =
      ap (λ (b : Option ℕ). break_or b (end_here (moved session done) done)) none
      ∙ ends_all (is_resting session.grid (state_at session.grid (session.cycle + done))) (done == GO_CYCLES) (session.cycle + done == LAST_CYCLE) (eq-eqb done GO_CYCLES all)

  -- neither
  pub goes_on : (done : ℕ) → done < GO_CYCLES → break_after session done ≡ None → stands_still (moved session done) ≡ false → stop_after session done ≡ None
  goes_on done less none works =
      ap (λ (b : Option ℕ). break_or b (end_here (moved session done) done)) none
      ∙ ends_not (is_resting session.grid (state_at session.grid (session.cycle + done))) (done == GO_CYCLES) (session.cycle + done == LAST_CYCLE) works (ne_eqb done GO_CYCLES (λ same. absurd (omega (arith, less, same))))

  -- what stops it after one cycle more
  pub break_next : (done : ℕ) (tile : Option ℕ) → tile ≡ break_here (moved session (done + 1)) → break_after session (done + 1) ≡ tile
  break_next done tile is =
      ap (break_after session) (add-one done) ∙ ap (λ (n : ℕ). break_here (moved session n)) (sym (add-one done)) ∙ sym is

  pub stops_at : (done : ℕ) (tile : Tile) → break_after session done ≡ Some tile.number → stop_after session done ≡ Some (Break tile)
  stops_at done tile is = ap (λ (b : Option ℕ). break_or b (end_here (moved session done) done)) is

  -- the fewest cycles after which it stops
  pub count_is : (done : ℕ) (stop : Stop) → done ≤ GO_CYCLES → ((k : ℕ) → k < done → stop_after session k ≡ None) → stop_after session done ≡ Some stop → go_count session ≡ done
  count_is done stop within before stops =
      first_is (λ n. is_some (stop_after session n)) GO_CYCLES done within (λ k less. ap (λ (o : Option Stop). is_some o) (before k less)) (inr (ap (λ (o : Option Stop). is_some o) stops))

  pub stop_is : (done : ℕ) (stop : Stop) → done ≤ GO_CYCLES → ((k : ℕ) → k < done → stop_after session k ≡ None) → stop_after session done ≡ Some stop → go_stop session ≡ stop
  stop_is done stop within before stops = ap (λ (n : ℕ). unwrap_or (stop_after session n) Limit) (count_is done stop within before stops) ∙ ap (λ (o : Option Stop). unwrap_or o Limit) stops

  pub count_least : (done : ℕ) → done ≤ GO_CYCLES → ((k : ℕ) → k < done → stop_after session k ≡ None) → done ≤ go_count session
  count_least done within before = first_least (λ n. is_some (stop_after session n)) GO_CYCLES done within (λ k less. ap (λ (o : Option Stop). is_some o) (before k less))
