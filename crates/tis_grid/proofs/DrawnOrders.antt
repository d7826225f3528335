-- Orders that are drawn from a seed are legal, and go on with a higher limit.
use Rattle.std.proofs.Common.{◌≡◌, ℕ, zero, suc, ◌≤◌, true, cond, List, [], ◌∷◌, length, get_or, Option, Some, None, inl, inr, refl, sym, ap, subst, ◌∙◌, arith}
use Rattle.std.specs.Prelude.{Bool, option_and_then, IsSome}
use Rattle.rand_pcg.specs.Lcg.{Lcg}
use Rattle.rand_pcg.specs.Pcg.{pcg32}
use Rattle.tis_grid.specs.declared.event.Event.{Event}
use Rattle.tis_grid.specs.State.{Grid, IsGrid, State}
use Rattle.tis_grid.specs.Events.{is_enabled, after_event}
use Rattle.tis_grid.specs.Orders.{after, IsAtRest}
use Rattle.tis_grid.specs.Choices.{all_events, enabled_events}
use Rattle.tis_grid.specs.Drawn.{choice_of, chosen, drawn_by, generator_of}
use Rattle.tis_base.specs.Prefix.{IsPrefixOf}
use Rattle.tis_grid.specs.Laws.{IsMaximalWithin, DrawnOrdersAreLegal, DrawnOrdersGrow}
use Rattle.tis_grid.proofs.Listed.{IsIn, passes_filter, rest_lists_none}

-- an element of a part of a list, or else another element of the list, stands in the list
pub element_in : {X : Type 0} (whole part : List X) (index : ℕ) (other : X) → ((x : X) → IsIn x part → IsIn x whole) → IsIn other whole → IsIn (get_or part index other) whole
element_in whole [] index other sub is = is
element_in whole (first ∷ part) zero other sub is = sub first (inl refl)
element_in whole (first ∷ part) (suc index) other sub is = element_in whole part index other (λ x later. sub x (inr later)) is

-- an event that can happen leads to the state behind it
step_leads : (grid : Grid) (state : State) (event : Event) (events : List Event) → is_enabled grid state event ≡ true → after grid state (event ∷ events) ≡ after grid (after_event grid state event) events
step_leads grid state event events is = ap (λ (enabled : Bool). option_and_then (λ next. after grid next events) (cond enabled (Some (after_event grid state event)) None)) is

-- one more event that can happen, before a drawn order
one_more : (grid : Grid) (state : State) (event : Event) (events : List Event) (most : ℕ) → is_enabled grid state event ≡ true → IsMaximalWithin grid (after_event grid state event) most events → IsMaximalWithin grid state (suc most) (event ∷ events)
one_more grid state event events most is drawn =
    let leads = step_leads grid state event events is in
    record {
      legal = subst (λ (o : Option State). IsSome o) (sym leads) drawn.legal;
      few = omega (arith, drawn.few);
      rests = λ fewer end is_end. drawn.rests (omega arith) end (sym leads ∙ is_end);
    }

-- no event, where none can happen
no_more : (grid : Grid) (state : State) (most : ℕ) → IsGrid grid → enabled_events grid state ≡ [] → IsMaximalWithin grid state most []
no_more grid state most is_grid none =
    record {
      legal = refl;
      few = omega arith;
      rests = λ fewer end is_end. let same : state ≡ end = cc in subst (λ (s : State). IsAtRest grid s) same ((rest_lists_none grid state is_grid).1 none);
    }

-- none may be drawn
none_drawn : (grid : Grid) (state : State) → IsMaximalWithin grid state 0 []
none_drawn grid state = record { legal = refl; few = omega arith; rests = λ fewer end is_end. absurd (omega arith) }

-- what a word chooses among the events that can happen
chosen_drawn : (grid : Grid) (state : State) (events : List Event) (word most : ℕ) (next : Event → List Event) → IsGrid grid → enabled_events grid state ≡ events → ((event : Event) → IsMaximalWithin grid (after_event grid state event) most (next event)) →
    IsMaximalWithin grid state (suc most) (chosen events word next)
chosen_drawn grid state [] word most next is_grid same drawn = no_more grid state (suc most) is_grid same
chosen_drawn grid state (event ∷ events) word most next is_grid same drawn =
    let choice : Event = get_or (event ∷ events) (choice_of word (length (event ∷ events))) event in
    let among : IsIn choice (event ∷ events) = element_in (event ∷ events) (event ∷ events) (choice_of word (length (event ∷ events))) event (λ x is. is) (inl refl) in
    let enabled : is_enabled grid state choice ≡ true = passes_filter (is_enabled grid state) choice (all_events grid) (subst (λ (list : List Event). IsIn choice list) (sym same) among) in
    one_more grid state choice (next choice) most enabled (drawn choice)

by_generator : (grid : Grid) → IsGrid grid → (most : ℕ) (state : State) (generator : Lcg) → IsMaximalWithin grid state most (drawn_by grid state generator most)
by_generator grid is_grid zero state generator = none_drawn grid state
by_generator grid is_grid (suc most) state generator =
    chosen_drawn grid state (enabled_events grid state) (pcg32 generator).0 most (λ event. drawn_by grid (after_event grid state event) (pcg32 generator).1 most) is_grid refl
    (λ event. by_generator grid is_grid most (after_event grid state event) (pcg32 generator).1)

pub drawn_orders_are_legal : DrawnOrdersAreLegal
drawn_orders_are_legal grid state seed most is_grid = by_generator grid is_grid most state (generator_of seed)

-- one more element in front of both
first_and : {X : Type 0} (first : X) (prefix whole : List X) → IsPrefixOf prefix whole → IsPrefixOf (first ∷ prefix) (first ∷ whole)
first_and first prefix whole is = (is.0, ap (λ (list : List _). first ∷ list) is.1)

-- what is chosen is the same, and what follows it goes on
chosen_grows : (events : List Event) (word : ℕ) (shorter longer : Event → List Event) → ((event : Event) → IsPrefixOf (shorter event) (longer event)) → IsPrefixOf (chosen events word shorter) (chosen events word longer)
chosen_grows [] word shorter longer grows = ([], refl)
chosen_grows (event ∷ events) word shorter longer grows =
    let choice : Event = get_or (event ∷ events) (choice_of word (length (event ∷ events))) event in
    first_and choice (shorter choice) (longer choice) (grows choice)

grows_by : (grid : Grid) (few most : ℕ) (state : State) (generator : Lcg) → few ≤ most → IsPrefixOf (drawn_by grid state generator few) (drawn_by grid state generator most)
grows_by grid zero most state generator fewer = (drawn_by grid state generator most, refl)
grows_by grid (suc few) zero state generator fewer = absurd (omega (arith, fewer))
grows_by grid (suc few) (suc most) state generator fewer =
    chosen_grows (enabled_events grid state) (pcg32 generator).0 (λ event. drawn_by grid (after_event grid state event) (pcg32 generator).1 few) (λ event. drawn_by grid (after_event grid state event) (pcg32 generator).1 most)
    (λ event. grows_by grid few most (after_event grid state event) (pcg32 generator).1 (omega (arith, fewer)))

pub drawn_orders_grow : DrawnOrdersGrow
drawn_orders_grow grid state seed few most fewer = grows_by grid few most state (generator_of seed) fewer
