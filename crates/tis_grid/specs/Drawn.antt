-- Orders that are drawn from a seed.
use Rattle.std.specs.Prelude.{ℕ, zero, suc, ◌*◌, ◌/◌, ◌^◌, List, [], ◌∷◌, length, get_or, Option, Some, None}
use Rattle.rand_pcg.specs.Lcg.{Lcg, started, increment_of}
use Rattle.rand_pcg.specs.Pcg.{multiplier_64, pcg32}
use Rattle.tis_grid.specs.declared.event.Event.{Event}
use Rattle.tis_grid.specs.State.{Grid, State}
use Rattle.tis_grid.specs.Events.{after_event}
use Rattle.tis_grid.specs.Choices.{enabled_events}

-- of so many, the number that a word of 32 bits chooses
abbrev pub choice_of : ℕ → ℕ → ℕ
choice_of word count = word * count / 2 ^ 32

-- the event that a word chooses, and what follows it; where none can happen, none is chosen
abbrev pub chosen : List Event → ℕ → (Event → List Event) → List Event
chosen [] word next = []
chosen (event ∷ events) word next =
    let choice = get_or (event ∷ events) (choice_of word (length (event ∷ events))) event in
    choice ∷ next choice

-- the event that a word chooses, where one can happen
abbrev pub next_of : List Event → ℕ → Option Event
next_of [] word = None
next_of (event ∷ events) word = Some (get_or (event ∷ events) (choice_of word (length (event ∷ events))) event)

-- at most so many events, one after the other, each chosen by the generator's next word among those that can happen
abbrev pub drawn_by : Grid → State → Lcg → ℕ → List Event
drawn_by grid state generator zero = []
drawn_by grid state generator (suc more) =
    chosen (enabled_events grid state) (pcg32 generator).0 (λ event. drawn_by grid (after_event grid state event) (pcg32 generator).1 more)

-- the generator of a seed: the 32-bit PCG with stream 1
abbrev pub generator_of : ℕ → Lcg
generator_of seed = started 64 multiplier_64 seed (increment_of 64 1)

-- the order that is drawn from a state with a seed, at most so many events
abbrev pub drawn : Grid → State → ℕ → ℕ → List Event
drawn grid state seed most = drawn_by grid state (generator_of seed) most
