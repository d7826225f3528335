-- The tiles of a set, one after the other: what is left of it, and what the others do.
use Rattle.std.proofs.Common.{◌≡◌, ℕ, zero, suc, ◌+◌, ◌-◌, ◌<◌, ◌≤◌, Bool, true, false, cond, List, [], ◌∷◌, ◌++◌, length, Option, Some, None, inl, inr, refl, sym, ap, subst, ◌∙◌, arith}
use Rattle.std.specs.Prelude.{◌&&◌, not, nat_lt, is_some, slice_set}
use Rattle.std.specs.List.{range_with_len}
use Rattle.std.proofs.lemmas.Bool.{cases_lt, cases_eq, lt-ltb}
use Rattle.std.proofs.lemmas.List.{get_or_past, get_or-set_same, get_or-set_other}
use Rattle.tis_base.specs.declared.tiles.Dir.{Dir}
use Rattle.tis_asm.specs.declared.program.MarkedInstr.{MarkedInstr}
use Rattle.tis_asm.specs.Node.{Node, Mode, Ready, Writing, instr_at, can_local, can_local_in, wants, wants_in, offers_in}
use Rattle.tis_grid.specs.declared.event.Event.{Event}
use Rattle.tis_grid.specs.declared.event.Event.TheVariants.{Local}
use Rattle.tis_grid.specs.State.{Grid, IsGrid, State, node_at}
use Rattle.tis_grid.specs.TileSets.{has, IsFirst}
use Rattle.tis_grid.specs.Events.{program_of, is_compute_at, works, is_enabled, is_waiting, is_giving}
use Rattle.tis_clock.specs.Cycle.{is_writing, writers, first_way, ways_of_ready, reads_or_steps, gives_out, in_turn, state_after}
use Rattle.tis_clock.specs.Sleepers.{Sleeps}
use Rattle.tis_clock.specs.Turns.{acts}
use Rattle.tis_clock.proofs.Below.{columns_from, next_column, no_column}
use Rattle.tis_clock.proofs.Halves.{Done, in_turn_next, one_more, whole}
use Rattle.tis_clock.proofs.Intended.{takes_none, gives_none, gives_nothing}
use Rattle.tis_clock.proofs.Sleeping.{does_nothing}

-- ---- what is left of a set

-- the tiles that are wanted, from a number on
pub record AreLeft (wanted : ℕ → Bool) (passed : ℕ) (left : List Bool) : Type 0 where
  pub ahead : (tile : ℕ) → passed ≤ tile → has left tile ≡ wanted tile
  pub behind : (tile : ℕ) → tile < passed → has left tile ≡ false

not_both : (b : Bool) → b ≡ true → b ≡ false → ⊥
not_both b holds fails = let bad : true ≡ false = sym holds ∙ fails in absurd cc

module _ (wanted : ℕ → Bool) (passed : ℕ) (left : List Bool) (are : AreLeft wanted passed left) where
  module _ (tile : ℕ) (first : IsFirst left tile) where
    pub not_passed : passed ≤ tile
    not_passed = elim (cases_lt tile passed) [ inl before ↦ absurd (not_both (has left tile) first.is_in (are.behind tile before)) | inr at ↦ at ]

    pub is_wanted : wanted tile ≡ true
    is_wanted = sym (are.ahead tile not_passed) ∙ first.is_in

    pub none_between : (other : ℕ) → passed ≤ other → other < tile → wanted other ≡ false
    none_between other from before = sym (are.ahead other from) ∙ first.least other before

    pub within_left : tile < length left
    within_left = elim (cases_lt tile (length left)) [ inl below ↦ below | inr past ↦ absurd (not_both (has left tile) first.is_in (get_or_past left tile false past)) ]

    pub one_less : AreLeft wanted (tile + 1) (slice_set left tile false)
    one_less = record {
      ahead = λ other from. get_or-set_other left tile other false false (λ same. omega (arith, from, same)) ∙ are.ahead other (omega (arith, from, not_passed));
      behind = λ other before. elim (cases_eq other tile) [
        | inl same ↦ ap (λ (t : ℕ). has (slice_set left tile false) t) same ∙ get_or-set_same left tile false false within_left
        | inr apart ↦ get_or-set_other left tile other false false apart ∙ first.least other (omega (arith, before, apart))
      ];
    }

  pub none_ahead : ((tile : ℕ) → has left tile ≡ false) → (tile : ℕ) → passed ≤ tile → wanted tile ≡ false
  none_ahead none tile from = sym (are.ahead tile from) ∙ none tile

-- ---- tiles that do nothing

module _ (grid : Grid) (choose : State → ℕ → Option Event) where
  -- so many tiles do nothing
  skip : (count number more : ℕ) (now : State) → number + more ≤ count → ((tile : ℕ) → number ≤ tile → tile < number + more → choose now tile ≡ None) →
      in_turn grid choose now (columns_from count number) ≡ in_turn grid choose now (columns_from count (number + more))
  skip count number zero now within none = ap (λ (n : ℕ). in_turn grid choose now (columns_from count n)) (let same : number ≡ number + 0 = omega arith in same)
  skip count number (suc more) now within none =
      ap (in_turn grid choose now) (next_column count number (omega (arith, within)))
      ∙ in_turn_next grid choose now number (columns_from count (number + 1)) None (sym (none number (omega arith) (omega arith)))
      ∙ skip count (number + 1) more now (omega (arith, within)) (λ tile from before. none tile (omega (arith, from)) (omega (arith, before)))
      ∙ ap (λ (n : ℕ). in_turn grid choose now (columns_from count n)) (let same : number + 1 + more ≡ number + suc more = omega arith in same)

  skip_to : (count number next : ℕ) (now : State) → number ≤ next → next ≤ count → ((tile : ℕ) → number ≤ tile → tile < next → choose now tile ≡ None) →
      in_turn grid choose now (columns_from count number) ≡ in_turn grid choose now (columns_from count next)
  skip_to count number next now from within none =
      let is : number + (next - number) ≡ next = omega (arith, from) in
      skip count number (next - number) now (omega (arith, is, within)) (λ tile at before. none tile at (omega (arith, before, is)))
      ∙ ap (λ (n : ℕ). in_turn grid choose now (columns_from count n)) is

  -- no tile does anything
  pub quiet : (count : ℕ) (now : State) → ((tile : ℕ) → tile < count → choose now tile ≡ None) → in_turn grid choose now (range_with_len 0 count) ≡ []
  quiet count now none =
      ap (λ (n : ℕ). in_turn grid choose now (range_with_len 0 n)) (let all : count ≡ count - 0 = omega arith in all)
      ∙ skip_to count 0 count now (omega arith) (omega arith) (λ tile from before. none tile before)
      ∙ ap (in_turn grid choose now) (no_column count count (omega arith))

  -- the tiles before a later one had their turn too
  pub skipped : (kept : Bool) (start : State) (before : List Event) (count number : ℕ) (trace : List Event) (counted : ℕ) (now : State) (next : ℕ) →
      Done grid choose kept start before count number trace counted now → number ≤ next → next ≤ count → ((tile : ℕ) → number ≤ tile → tile < next → choose now tile ≡ None) →
      Done grid choose kept start before count next trace counted now
  skipped kept start before count number trace counted now next done from within none = record {
    given = done.given;
    trace_is = done.trace_is;
    counted_is = done.counted_is;
    now_is = done.now_is;
    rest = done.rest ∙ ap (λ (events : List Event). done.given ++ events) (skip_to count number next now from within none);
    few = let had = done.few in omega (arith, had, from);
  }

  module _ (wanted : ℕ → Bool) (kept : Bool) (start : State) (before : List Event) (count passed : ℕ) (trace : List Event) (counted : ℕ) (now : State) (left : List Bool)
      (done : Done grid choose kept start before count passed trace counted now) (are : AreLeft wanted passed left) (idle : (tile : ℕ) → tile < count → wanted tile ≡ false → choose now tile ≡ None) where
    -- the next tile of the set had its turn
    pub visited : (tile : ℕ) (chosen : Option Event) (traced : List Event) (more : ℕ) (next : State) →
        IsFirst left tile → tile < count → chosen ≡ choose now tile → (kept ≡ true → traced ≡ trace ++ acts chosen) → more ≡ length (acts chosen) → next ≡ state_after grid now (acts chosen) →
        Done grid choose kept start before count (tile + 1) traced (counted + more) next
    visited tile chosen traced more next first within is traced_is more_is next_is =
        one_more grid choose kept start before count tile trace counted now chosen traced more next
        (skipped kept start before count passed trace counted now tile done (not_passed wanted passed left are tile first) (omega (arith, within)) (λ other from at. idle other (omega (arith, at, within)) (none_between wanted passed left are tile first other from at)))
        within is traced_is more_is next_is

    -- none is left
    pub all_visited : ((tile : ℕ) → has left tile ≡ false) → passed ≤ count → in_turn grid choose start (range_with_len 0 count) ≡ done.given
    unfolding skipped
    all_visited none within =
        whole grid choose kept start before count count trace counted now
        (skipped kept start before count passed trace counted now count done within (omega arith) (λ other from at. idle other at (none_ahead wanted passed left are none other from)))
        (omega arith)

-- ---- which tiles do nothing

and_no : (a : Bool) → (a && false) ≡ false
and_no true = refl
and_no false = refl

no_instr : (pc : ℕ) → instr_at [] pc ≡ None
no_instr zero = refl
no_instr (suc pc) = refl

none_local : (mode : Mode) (node : Node) → can_local_in mode None node ≡ false
none_local Ready node = refl
none_local (Writing value toward) node = refl

none_wanted : (mode : Mode) (node : Node) (dir : Dir) → wants_in mode None node dir ≡ false
none_wanted Ready node dir = refl
none_wanted (Writing value toward) node dir = refl

-- one without a node, or whose node has no program, neither steps nor waits
cant_step : (compute : Bool) (program : List MarkedInstr) (node : Node) → (compute && nat_lt 0 (length program)) ≡ false → (compute && can_local program node) ≡ false
cant_step false program node fails = refl
cant_step true [] node fails = ap (λ o. can_local_in node.mode o node) (no_instr node.pc) ∙ none_local node.mode node
cant_step true (instr ∷ program) node fails = absurd (not_both (nat_lt 0 (length (instr ∷ program))) (lt-ltb 0 (length (instr ∷ program)) (omega arith)) fails)

cant_wait : (compute : Bool) (program : List MarkedInstr) (node : Node) (dir : Dir) → (compute && nat_lt 0 (length program)) ≡ false → (compute && wants program node dir) ≡ false
cant_wait false program node dir fails = refl
cant_wait true [] node dir fails = ap (λ o. wants_in node.mode o node dir) (no_instr node.pc) ∙ none_wanted node.mode node dir
cant_wait true (instr ∷ program) node dir fails = absurd (not_both (nat_lt 0 (length (instr ∷ program))) (lt-ltb 0 (length (instr ∷ program)) (omega arith)) fails)

none_offered : (mode : Mode) (dir : Dir) → is_writing mode ≡ false → is_some (offers_in mode dir) ≡ false
none_offered Ready dir fails = refl
none_offered (Writing value toward) dir fails = absurd cc

-- the tiles that read or step: they work, weren't writing, and aren't asleep
abbrev pub turns_first : Grid → (ℕ → Bool) → (ℕ → Bool) → ℕ → Bool
turns_first grid was asleep tile = (works grid tile && not (was tile)) && not (asleep tile)

pub both_yes : (a b : Bool) → (a && b) ≡ true → (a ≡ true) × (b ≡ true)
both_yes true true is = (refl, refl)
both_yes true false is = absurd cc
both_yes false b is = absurd cc

pub not_yes : (b : Bool) → not b ≡ true → b ≡ false
not_yes true is = absurd cc
not_yes false is = refl

pub first_wants : (grid : Grid) (was asleep : ℕ → Bool) (tile : ℕ) → turns_first grid was asleep tile ≡ true → (is_compute_at grid tile ≡ true) × (was tile ≡ false)
first_wants grid was asleep tile is =
    let parts = both_yes (works grid tile) (not (was tile)) (both_yes (works grid tile && not (was tile)) (not (asleep tile)) is).0 in
    ((both_yes (is_compute_at grid tile) (nat_lt 0 (length (program_of grid tile))) parts.0).0, not_yes (was tile) parts.1)

module _ (grid : Grid) (is_grid : IsGrid grid) (was : ℕ → Bool) (now : State) (tile : ℕ) (within : tile < length grid.puzzle.tiles.kinds) where
  idle_ready : works grid tile ≡ false → was tile ≡ false → reads_or_steps grid was now tile ≡ None
  idle_ready fails ready =
      sym (takes_none grid is_grid now was tile within ready (cant_step (is_compute_at grid tile) (program_of grid tile) (node_at now tile) fails)
      (λ dir. cant_wait (is_compute_at grid tile) (program_of grid tile) (node_at now tile) dir fails))

  and_yes : (a : Bool) → (a && true) ≡ a
  and_yes true = refl
  and_yes false = refl

  idle_awake : (works grid tile && not (was tile)) ≡ false → reads_or_steps grid was now tile ≡ None
  idle_awake fails =
      elim (was tile) as (λ w. was tile ≡ w → (works grid tile && not w) ≡ false → reads_or_steps grid was now tile ≡ None) [
        | true ↦ λ wrote is. ap (λ (b : Bool). cond (not b) (first_way grid was now (ways_of_ready grid tile)) None) wrote
        | false ↦ λ ready is. idle_ready (sym (and_yes (works grid tile)) ∙ is) ready
      ] refl fails

  pub idle_first : (asleep : ℕ → Bool) → (asleep tile ≡ true → Sleeps grid was now tile) → turns_first grid was asleep tile ≡ false → reads_or_steps grid was now tile ≡ None
  idle_first asleep sleeps fails =
      elim (asleep tile) as (λ a. asleep tile ≡ a → ((works grid tile && not (was tile)) && not a) ≡ false → reads_or_steps grid was now tile ≡ None) [
        | true ↦ λ is no. does_nothing grid was now tile (sleeps is)
        | false ↦ λ is no. idle_awake (sym (and_yes (works grid tile && not (was tile))) ∙ no)
      ] refl fails

  pub idle_second : was tile ≡ false → gives_out grid was now tile ≡ None
  idle_second ready = sym (gives_nothing grid is_grid now was tile within ready)

  -- nor does one give that was writing and writes no more
  pub idle_taken : (was tile && writers now tile) ≡ false → gives_out grid was now tile ≡ None
  idle_taken fails =
      elim (was tile) as (λ w. was tile ≡ w → (w && writers now tile) ≡ false → gives_out grid was now tile ≡ None) [
        | true ↦ λ wrote is. sym (gives_none grid is_grid now was tile within wrote (λ dir. ap (λ (b : Bool). is_compute_at grid tile && b) (none_offered (node_at now tile).mode dir is) ∙ and_no (is_compute_at grid tile)))
        | false ↦ λ ready is. idle_second ready
      ] refl fails
