-- An order that is drawn event by event.
use Rattle.std.proofs.Common.{◌≡◌, ℕ, suc, ◌+◌, ◌-◌, ◌<◌, ◌≤◌, List, [], ◌∷◌, ◌++◌, length, get_or, Some, None, refl, sym, ap, ◌∙◌, inl, subst, arith, append_assoc, append-nil, length-append}
use Rattle.rand_pcg.specs.Lcg.{Lcg}
use Rattle.rand_pcg.specs.Pcg.{pcg32}
use Rattle.tis_base.specs.Prefix.{IsPrefixOf}
use Rattle.tis_grid.specs.declared.event.Event.{Event}
use Rattle.tis_grid.specs.State.{Grid, IsGrid, State}
use Rattle.tis_grid.specs.Events.{is_enabled, after_event, IsEnabled}
use Rattle.tis_grid.specs.Choices.{all_events, enabled_events}
use Rattle.tis_grid.specs.Orders.{after, IsAtRest}
use Rattle.tis_grid.specs.Drawn.{choice_of, chosen, next_of, drawn_by}
use Rattle.tis_grid.proofs.Listed.{IsIn, passes_filter, rest_lists_none}
use Rattle.tis_grid.proofs.DrawnOrders.{element_in}
use Rattle.tis_grid.proofs.OrderRuns.{after_push}

-- so many events were drawn, and the rest of the order is drawn from here on
pub record Drew (grid : Grid) (start : State) (first : Lcg) (most done : ℕ) (state : State) (generator : Lcg) : Type 0 where
  pub events : List Event
  pub many : length events ≡ done
  pub leads : after grid start events ≡ Some state
  pub goes_on : drawn_by grid start first most ≡ events ++ drawn_by grid state generator (most - done)

-- nothing was drawn yet
pub drew_none : (grid : Grid) (start : State) (first : Lcg) (most : ℕ) → Drew grid start first most 0 start first
drew_none grid start first most =
    let same : most - 0 ≡ most = omega arith in
    record { events = []; many = refl; leads = refl; goes_on = ap (λ (n : ℕ). drawn_by grid start first n) (sym same) }

-- what is chosen is enabled, and the order goes on behind it
next_goes_on : (grid : Grid) (state : State) (generator : Lcg) (more : ℕ) (events : List Event) (event : Event) → Some event ≡ next_of events (pcg32 generator).0 →
    chosen events (pcg32 generator).0 (λ e. drawn_by grid (after_event grid state e) (pcg32 generator).1 more) ≡ event ∷ drawn_by grid (after_event grid state event) (pcg32 generator).1 more
next_goes_on grid state generator more [] event is = absurd cc
next_goes_on grid state generator more (first ∷ events) event is =
    let choice = get_or (first ∷ events) (choice_of (pcg32 generator).0 (length (first ∷ events))) first in
    let same : choice ≡ event = cc in
    ap (λ (e : Event). e ∷ drawn_by grid (after_event grid state e) (pcg32 generator).1 more) same

next_among : (events : List Event) (word : ℕ) (event : Event) → Some event ≡ next_of events word → IsIn event events
next_among [] word event is = absurd cc
next_among (first ∷ events) word event is =
    let choice = get_or (first ∷ events) (choice_of word (length (first ∷ events))) first in
    let same : choice ≡ event = cc in
    subst (λ (e : Event). IsIn e (first ∷ events)) same (element_in (first ∷ events) (first ∷ events) (choice_of word (length (first ∷ events))) first (λ x among. among) (inl refl))

pub next_enabled : (grid : Grid) (state : State) (word : ℕ) (event : Event) → Some event ≡ next_of (enabled_events grid state) word → IsEnabled grid state event
next_enabled grid state word event is = passes_filter (is_enabled grid state) event (all_events grid) (next_among (enabled_events grid state) word event is)

-- one more event
pub drew_more : (grid : Grid) (start state : State) (first generator : Lcg) (most done : ℕ) (event : Event) → done < most → Drew grid start first most done state generator → Some event ≡ next_of (enabled_events grid state) (pcg32 generator).0 →
    Drew grid start first most (done + 1) (after_event grid state event) (pcg32 generator).1
drew_more grid start state first generator most done event below drew is =
    let left : most - done ≡ suc (most - (done + 1)) = omega arith in
    let next = ap (λ (n : ℕ). drawn_by grid state generator n) left ∙ next_goes_on grid state generator (most - (done + 1)) (enabled_events grid state) event is in
    let rest = drawn_by grid (after_event grid state event) (pcg32 generator).1 (most - (done + 1)) in
    record {
      events = drew.events ++ event ∷ [];
      many = length-append drew.events (event ∷ []) ∙ omega (arith, drew.many);
      leads = after_push grid drew.events start state event drew.leads (next_enabled grid state (pcg32 generator).0 event is);
      goes_on = drew.goes_on ∙ ap (λ (xs : List Event). drew.events ++ xs) next ∙ sym (append_assoc drew.events (event ∷ []) rest);
    }

-- what was drawn is a front of the whole order
pub drew_front : (grid : Grid) (start state : State) (first generator : Lcg) (most done : ℕ) → Drew grid start first most done state generator →
    (events : List Event) × IsPrefixOf events (drawn_by grid start first most) × (after grid start events ≡ Some state)
drew_front grid start state first generator most done drew = (drew.events, (drawn_by grid state generator (most - done), sym drew.goes_on), drew.leads)

-- where nothing follows, it is the whole
pub record DrewAll (grid : Grid) (start : State) (first : Lcg) (most done : ℕ) (state : State) : Type 0 where
  pub leads : after grid start (drawn_by grid start first most) ≡ Some state
  pub many : done ≡ length (drawn_by grid start first most)

whole : (grid : Grid) (start state : State) (first generator : Lcg) (most done : ℕ) → Drew grid start first most done state generator → drawn_by grid state generator (most - done) ≡ [] → DrewAll grid start first most done state
whole grid start state first generator most done drew none =
    let all = drew.goes_on ∙ ap (λ (xs : List Event). drew.events ++ xs) none ∙ append-nil drew.events in
    record {
      leads = ap (λ (xs : List Event). after grid start xs) all ∙ drew.leads;
      many = sym drew.many ∙ ap (λ (xs : List Event). length xs) (sym all);
    }

-- at the limit
pub drew_most : (grid : Grid) (start state : State) (first generator : Lcg) (most done : ℕ) → most ≤ done → Drew grid start first most done state generator → DrewAll grid start first most done state
drew_most grid start state first generator most done past drew =
    let none : most - done ≡ 0 = omega arith in
    whole grid start state first generator most done drew (ap (λ (n : ℕ). drawn_by grid state generator n) none)

-- where no event is chosen, none is enabled
none_next : (events : List Event) (word : ℕ) → None ≡ next_of events word → events ≡ []
none_next [] word is = refl
none_next (first ∷ events) word is = absurd cc

none_follow : (grid : Grid) (state : State) (generator : Lcg) (more : ℕ) → enabled_events grid state ≡ [] → drawn_by grid state generator (suc more) ≡ []
none_follow grid state generator more none = ap (λ (events : List Event). chosen events (pcg32 generator).0 (λ e. drawn_by grid (after_event grid state e) (pcg32 generator).1 more)) none

-- at rest
pub drew_to_rest : (grid : Grid) (start state : State) (first generator : Lcg) (most done : ℕ) → IsGrid grid → done < most → Drew grid start first most done state generator → None ≡ next_of (enabled_events grid state) (pcg32 generator).0 →
    DrewAll grid start first most done state × IsAtRest grid state
drew_to_rest grid start state first generator most done is_grid below drew is =
    let left : most - done ≡ suc (most - (done + 1)) = omega arith in
    let none = none_next (enabled_events grid state) (pcg32 generator).0 is in
    (whole grid start state first generator most done drew (ap (λ (n : ℕ). drawn_by grid state generator n) left ∙ none_follow grid state generator (most - (done + 1)) none), (rest_lists_none grid state is_grid).1 none)

-- whether none is enabled, by how many are
pub rest_counts : (grid : Grid) (state : State) (count : ℕ) → IsGrid grid → count ≡ length (enabled_events grid state) → (count ≡ 0 → IsAtRest grid state) × (IsAtRest grid state → count ≡ 0)
rest_counts grid state count is_grid is = (
  λ none. (rest_lists_none grid state is_grid).1 (empty (enabled_events grid state) (sym is ∙ none)),
  λ rest. is ∙ ap (λ (xs : List Event). length xs) ((rest_lists_none grid state is_grid).0 rest),
)
  where
    -- a list of no length is empty
    empty : (events : List Event) → length events ≡ 0 → events ≡ []
    empty [] none = refl
    empty (first ∷ events) none = absurd (omega arith)
