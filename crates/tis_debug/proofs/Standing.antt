-- Where a session stands: the states of a grid after each number of cycles, and their points.
use Rattle.std.proofs.Common.{◌≡◌, ℕ, zero, suc, ◌+◌, ◌-◌, ◌<◌, ◌≤◌, min, List, [], ◌∷◌, ◌++◌, length, take, drop, Option, Some, None, slice_get, inl, inr, refl, sym, ap, subst, ◌∙◌, arith, eq-eqb}
use Rattle.std.specs.Prelude.{Bool, true, false, ◌||◌, ◌==◌, ◌↔◌, IsTrue}
use Rattle.std.proofs.lemmas.Bool.{cases_lt, ne_eqb}
use Rattle.std.proofs.lemmas.List.FromFn.{length-map-range_with_len, take-map-range_with_len, get_or-map-range_with_len, map-range_with_len_more}
use Rattle.std.proofs.lemmas.Option.{slice_get-get_or, slice_get_past}
use Rattle.circular_buffer.specs.Buffer.{Buffer, buffer, keep_last}
use Rattle.tis_grid.specs.declared.event.Event.{Event}
use Rattle.tis_grid.specs.State.{Grid, IsGrid, State, start}
use Rattle.tis_grid.specs.Orders.{Fits, IsAtRest}
use Rattle.tis_grid.specs.HeldState.{HeldState}
use Rattle.tis_grid.specs.Points.{Point, point_of, returned, CanReturn}
use Rattle.tis_grid.proofs.Grids.{start_fits, orders_keep_fitting}
use Rattle.tis_grid.proofs.Returning.{points_bring_back}
use Rattle.tis_clock.specs.Cycle.{cycle_events, after_cycle, cycles_events, after_cycles}
use Rattle.tis_clock.proofs.Legal.{runs_are_legal}
use Rattle.tis_clock.proofs.Resting.{rest_has_no_cycle}
use Rattle.tis_clock.proofs.Runs.{cycle_more}
use Rattle.tis_debug.specs.Sessions.{Session, MOST_KEPT, LAST_CYCLE, state_at, moved, is_nil, is_resting, stands_still}
use Rattle.tis_debug.specs.Held.{points_from, IsSession, returned_where}

-- a grid's state after each number of cycles is one of it
pub state_fits : (grid : Grid) → IsGrid grid → (cycle : ℕ) → Fits grid (state_at grid cycle)
state_fits grid is_grid cycle =
    orders_keep_fitting grid (start grid) (cycles_events grid (start grid) cycle) (state_at grid cycle)
    (record { is_grid = is_grid; fits = start_fits grid is_grid; leads = runs_are_legal grid (start grid) cycle })

pub next_state : (grid : Grid) (cycle : ℕ) → after_cycle grid (state_at grid cycle) ≡ state_at grid (cycle + 1)
next_state grid cycle = sym (cycle_more grid (start grid) cycle)

-- some cycles, and then more
later_state : (grid : Grid) (state : State) (done more : ℕ) → after_cycles grid (after_cycles grid state done) more ≡ after_cycles grid state (done + more)
later_state grid state zero more = ap (after_cycles grid state) (let same : more ≡ 0 + more = omega arith in same)
later_state grid state (suc done) more = later_state grid (after_cycle grid state) done more ∙ ap (after_cycles grid state) (let same : suc (done + more) ≡ suc done + more = omega arith in same)

-- the point of an earlier cycle brings its state back
pub brings_back : (grid : Grid) → IsGrid grid → (now cycle : ℕ) → cycle ≤ now → CanReturn (state_at grid now) (point_of (state_at grid cycle)) × (returned (state_at grid now) (point_of (state_at grid cycle)) ≡ state_at grid cycle)
brings_back grid is_grid now cycle less =
    let leads = runs_are_legal grid (state_at grid cycle) (now - cycle) ∙ ap Some (later_state grid (start grid) cycle (now - cycle) ∙ ap (after_cycles grid (start grid)) (let same : cycle + (now - cycle) ≡ now = omega (arith, less) in same)) in
    points_bring_back grid (state_at grid cycle) (cycles_events grid (state_at grid cycle) (now - cycle)) (state_at grid now) (record { is_grid = is_grid; fits = state_fits grid is_grid cycle; leads = leads })

-- ---- points

pub length-points_from : (grid : Grid) (cycle count : ℕ) → length (points_from grid cycle count) ≡ count
length-points_from grid cycle count = length-map-range_with_len (λ c. point_of (state_at grid c)) cycle count

-- one point more behind them
one_more : (grid : Grid) (cycle count : ℕ) (points : List Point) → count ≤ cycle → points ≡ points_from grid (cycle - count) count → points ++ point_of (state_at grid cycle) ∷ [] ≡ points_from grid (cycle - count) (count + 1)
one_more grid cycle count points reach are =
    ap (λ (list : List Point). list ++ point_of (state_at grid cycle) ∷ []) are
    ∙ sym (map-range_with_len_more (λ c. point_of (state_at grid c)) (cycle - count) count cycle (omega (arith, reach)))

-- of which the last 64 are kept
kept_more : (grid : Grid) (cycle count : ℕ) → count ≤ MOST_KEPT → count ≤ cycle → keep_last MOST_KEPT (points_from grid (cycle - count) (count + 1)) ≡ points_from grid (cycle + 1 - min MOST_KEPT (count + 1)) (min MOST_KEPT (count + 1))
kept_more grid cycle count few reach =
    elim (cases_lt count MOST_KEPT) [
      | inl below ↦
          let all : points_from grid (cycle - count) (count + 1) ≡ points_from grid (cycle + 1 - min MOST_KEPT (count + 1)) (min MOST_KEPT (count + 1)) =
          let kept : count + 1 ≡ min MOST_KEPT (count + 1) = omega (arith, below) in
          let from : cycle - count ≡ cycle + 1 - min MOST_KEPT (count + 1) = omega (arith, below, reach) in
          ap (λ (a : ℕ). points_from grid a (count + 1)) from ∙ ap (λ (n : ℕ). points_from grid (cycle + 1 - min MOST_KEPT (count + 1)) n) kept in
          let none : length (points_from grid (cycle - count) (count + 1)) - MOST_KEPT ≡ 0 = omega (arith, below, length-points_from grid (cycle - count) (count + 1)) in
          ap (λ (n : ℕ). drop n (points_from grid (cycle - count) (count + 1))) none ∙ all
      | inr full ↦
          let is : count ≡ MOST_KEPT = omega (arith, few, full) in
          let one : length (points_from grid (cycle - count) (count + 1)) - MOST_KEPT ≡ 1 = omega (arith, is, length-points_from grid (cycle - count) (count + 1)) in
          let kept : MOST_KEPT ≡ min MOST_KEPT (count + 1) = omega (arith, is) in
          let from : cycle - count + 1 ≡ cycle + 1 - min MOST_KEPT (count + 1) = omega (arith, is, reach) in
          ap (λ (n : ℕ). drop n (points_from grid (cycle - count) (count + 1))) one
          ∙ ap (λ (n : ℕ). drop 1 (points_from grid (cycle - count) n)) (let next : count + 1 ≡ suc MOST_KEPT = omega (arith, is) in next)
          ∙ ap (λ (a : ℕ). points_from grid a MOST_KEPT) from ∙ ap (λ (n : ℕ). points_from grid (cycle + 1 - min MOST_KEPT (count + 1)) n) kept
    ]

-- one cycle more: the session stands a cycle later, and keeps the point of the state before
module _ (grid : Grid) (before after : HeldState) (cycle : ℕ) (old new : Buffer Point) (is : IsSession grid before cycle old) where
  module _ (point : Point) (point_is : point ≡ point_of before.state) (new_is : new ≡ buffer (keep_last old.capacity (old.items ++ point ∷ [])) old.capacity) where
    items : new.items ≡ points_from grid (cycle + 1 - min MOST_KEPT (length old.items + 1)) (min MOST_KEPT (length old.items + 1))
    items =
        ap (λ (b : Buffer Point). b.items) new_is
        ∙ ap (λ (n : ℕ). keep_last n (old.items ++ point ∷ [])) is.capacity
        ∙ ap (λ (list : List Point). keep_last MOST_KEPT list) (ap (λ (p : Point). old.items ++ p ∷ []) (point_is ∙ ap point_of is.state) ∙ one_more grid cycle (length old.items) old.items is.reach is.points)
        ∙ kept_more grid cycle (length old.items) is.few is.reach

    pub kept_then : length new.items ≡ min MOST_KEPT (length old.items + 1)
    kept_then = ap (λ (list : List Point). length list) items ∙ length-points_from grid (cycle + 1 - min MOST_KEPT (length old.items + 1)) (min MOST_KEPT (length old.items + 1))

    pub stands_later : cycle < LAST_CYCLE → after.state ≡ after_cycle grid before.state → IsSession grid after (cycle + 1) new
    stands_later less leads = record {
      is_grid = is.is_grid;
      state = leads ∙ ap (after_cycle grid) is.state ∙ next_state grid cycle;
      within = omega (arith, less);
      capacity = ap (λ (b : Buffer Point). b.capacity) new_is ∙ is.capacity;
      few = omega (arith, kept_then);
      reach = omega (arith, kept_then, is.reach);
      points = items ∙ ap (λ (n : ℕ). points_from grid (cycle + 1 - n) n) (sym kept_then);
    }

  -- some cycles back
  module _ (back : ℕ) (less : back ≤ length old.items) where
    point_at : (0 < back) → slice_get old.items (length old.items - back) ≡ Some (point_of (state_at grid (cycle - back)))
    point_at some =
        ap (λ (list : List Point). slice_get list (length old.items - back)) is.points
        ∙ slice_get-get_or (points_from grid (cycle - length old.items) (length old.items)) (length old.items - back) (point_of (state_at grid (cycle - back)))
        (omega (arith, some, less, length-points_from grid (cycle - length old.items) (length old.items)))
        ∙ ap Some (get_or-map-range_with_len (λ c. point_of (state_at grid c)) (cycle - length old.items) (length old.items) (length old.items - back) (cycle - back) (point_of (state_at grid (cycle - back)))
        (omega (arith, some, less)) (omega (arith, less, is.reach)))

    -- the point that is looked for brings the state back
    pub can_return : (point : Point) → slice_get old.items (length old.items - back) ≡ Some point → CanReturn before.state point
    can_return point found =
        elim (cases_lt 0 back) [
          | inl some ↦
              let same : point_of (state_at grid (cycle - back)) ≡ point = let both : Some (point_of (state_at grid (cycle - back))) ≡ Some point = sym (point_at some) ∙ found in cc in
              subst (λ (p : Point). CanReturn before.state p) same (subst (λ (s : State). CanReturn s (point_of (state_at grid (cycle - back)))) (sym is.state) (brings_back grid is.is_grid cycle (cycle - back) (omega arith)).0)
          | inr none ↦
              let past : slice_get old.items (length old.items - back) ≡ None = slice_get_past old.items (length old.items - back) (omega (arith, none)) in
              absurd (let both : None ≡ Some point = sym past ∙ found in cc)
        ]

    pub returns : returned_where (slice_get old.items (length old.items - back)) before.state ≡ state_at grid (cycle - back)
    returns =
        elim (cases_lt 0 back) [
          | inl some ↦
              ap (λ (p : Option Point). returned_where p before.state) (point_at some)
              ∙ ap (λ (s : State). returned s (point_of (state_at grid (cycle - back)))) is.state
              ∙ (brings_back grid is.is_grid cycle (cycle - back) (omega arith)).1
          | inr none ↦
              let past : slice_get old.items (length old.items - back) ≡ None = slice_get_past old.items (length old.items - back) (omega (arith, none)) in
              let here : cycle ≡ cycle - back = omega (arith, none) in
              ap (λ (p : Option Point). returned_where p before.state) past ∙ is.state ∙ ap (state_at grid) here
        ]

    module _ (new_is : new ≡ buffer (take (length old.items - back) old.items) old.capacity) where
      items_then : new.items ≡ points_from grid (cycle - length old.items) (length old.items - back)
      items_then =
          ap (λ (b : Buffer Point). b.items) new_is
          ∙ ap (λ (list : List Point). take (length old.items - back) list) is.points
          ∙ take-map-range_with_len (λ c. point_of (state_at grid c)) (cycle - length old.items) (length old.items) (length old.items - back) (omega arith)

      pub kept_before : length new.items ≡ length old.items - back
      kept_before = ap (λ (list : List Point). length list) items_then ∙ length-points_from grid (cycle - length old.items) (length old.items - back)

      pub stands_earlier : after.state ≡ state_at grid (cycle - back) → IsSession grid after (cycle - back) new
      stands_earlier state = record {
        is_grid = is.is_grid;
        state = state;
        within = omega (arith, is.within);
        capacity = ap (λ (b : Buffer Point). b.capacity) new_is ∙ is.capacity;
        few = omega (arith, kept_before, is.few);
        reach = omega (arith, kept_before, is.reach, less);
        points = items_then ∙ ap (λ (a : ℕ). points_from grid a (length old.items - back)) (let same : cycle - length old.items ≡ cycle - back - (length old.items - back) = omega (arith, less, is.reach) in same)
            ∙ ap (λ (n : ℕ). points_from grid (cycle - back - n) n) (sym kept_before);
      }

-- ---- one cycle after the other

pub moved_none : (session : Session) → session.kept ≤ MOST_KEPT → moved session 0 ≡ session
moved_none session few =
    let kept : min MOST_KEPT (session.kept + 0) ≡ session.kept = omega (arith, few) in
    let cycle : session.cycle + 0 ≡ session.cycle = omega arith in
    ap (λ (c : ℕ). record session { cycle = c; kept = min MOST_KEPT (session.kept + 0) }) cycle ∙ ap (λ (k : ℕ). record session { kept = k }) kept

pub moved_more : (session : Session) (done : ℕ) → moved (moved session done) 1 ≡ moved session (done + 1)
moved_more session done =
    let kept : min MOST_KEPT (min MOST_KEPT (session.kept + done) + 1) ≡ min MOST_KEPT (session.kept + (done + 1)) = omega arith in
    let cycle : session.cycle + done + 1 ≡ session.cycle + (done + 1) = omega arith in
    ap (λ (c : ℕ). record session { cycle = c; kept = min MOST_KEPT (min MOST_KEPT (session.kept + done) + 1) }) cycle ∙ ap (λ (k : ℕ). record session { cycle = session.cycle + (done + 1); kept = k }) kept

-- ---- rest, as a test

nil_of : (events : List Event) → length events ≡ 0 → is_nil events ≡ true
nil_of [] none = refl
nil_of (event ∷ events) none = absurd (omega (arith, none))

some_of : (events : List Event) → (length events ≡ 0 → ⊥) → is_nil events ≡ false
some_of [] some = absurd (some refl)
some_of (event ∷ events) some = refl

nil_is : (events : List Event) → is_nil events ≡ true → events ≡ []
nil_is [] is = refl
nil_is (event ∷ events) is = absurd cc

or-true : (b : Bool) → (b || true) ≡ true
or-true true = refl
or-true false = refl

pub rest_is : (grid : Grid) → IsGrid grid → (state : State) → is_resting grid state ≡ true → IsAtRest grid state
rest_is grid is_grid state is = (rest_has_no_cycle grid state is_grid).1 (nil_is (cycle_events grid state) is)

resting_is : (grid : Grid) → IsGrid grid → (state : State) (b : Bool) → IsTrue b ↔ IsAtRest grid state → is_resting grid state ≡ b
resting_is grid is_grid state true tells = ap (λ (events : List Event). is_nil events) ((rest_has_no_cycle grid state is_grid).0 (tells.0 refl))
resting_is grid is_grid state false tells =
    elim (is_resting grid state) as (λ b. is_resting grid state ≡ b → b ≡ false) [
      | true ↦ λ rests. let is = tells.1 (rest_is grid is_grid state rests) in absurd cc
      | false ↦ λ works. refl
    ] refl

-- ---- what a session says of itself, from what the program holds

module _ (session : Session) (grid : Grid) (held : HeldState) (cycle : ℕ) (points : Buffer Point) (marks : List (List Bool))
    (view : record { grid = grid; cycle = cycle; kept = length points.items; marks = marks } ≡ session) (is : IsSession grid held cycle points) where
  pub stands_at : held.state ≡ state_at session.grid session.cycle
  stands_at = is.state ∙ ap (λ (s : Session). state_at s.grid s.cycle) view

  pub fits_here : Fits grid held.state
  fits_here = subst (Fits grid) (sym is.state) (state_fits grid is.is_grid cycle)

  -- a test of rest is that of the definition
  pub resting_here : (b : Bool) → IsTrue b ↔ IsAtRest grid held.state → is_resting session.grid (state_at session.grid session.cycle) ≡ b
  resting_here b tells = sym (ap (λ (s : Session). is_resting s.grid (state_at s.grid s.cycle)) view) ∙ ap (is_resting grid) (sym is.state) ∙ resting_is grid is.is_grid held.state b tells

  pub no_events_here : length (cycle_events grid held.state) ≡ 0 → is_resting session.grid (state_at session.grid session.cycle) ≡ true
  no_events_here none = sym (ap (λ (s : Session). is_resting s.grid (state_at s.grid s.cycle)) view) ∙ ap (is_resting grid) (sym is.state) ∙ nil_of (cycle_events grid held.state) none

  pub some_events_here : (length (cycle_events grid held.state) ≡ 0 → ⊥) → is_resting session.grid (state_at session.grid session.cycle) ≡ false
  some_events_here some = sym (ap (λ (s : Session). is_resting s.grid (state_at s.grid s.cycle)) view) ∙ ap (is_resting grid) (sym is.state) ∙ some_of (cycle_events grid held.state) some

-- ---- whether a cycle follows

pub still_last : (session : Session) → session.cycle ≡ LAST_CYCLE → stands_still session ≡ true
still_last session last = ap (λ (b : Bool). is_resting session.grid (state_at session.grid session.cycle) || b) (eq-eqb session.cycle LAST_CYCLE last) ∙ or-true (is_resting session.grid (state_at session.grid session.cycle))

pub still_resting : (session : Session) → is_resting session.grid (state_at session.grid session.cycle) ≡ true → stands_still session ≡ true
still_resting session rests = ap (λ (b : Bool). b || session.cycle == LAST_CYCLE) rests

pub still_not : (session : Session) → is_resting session.grid (state_at session.grid session.cycle) ≡ false → (session.cycle ≡ LAST_CYCLE → ⊥) → stands_still session ≡ false
still_not session works more = ap (λ (b : Bool). b || session.cycle == LAST_CYCLE) works ∙ ne_eqb session.cycle LAST_CYCLE more
