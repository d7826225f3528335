-- Events that are read one line after the other.
use Rattle.std.proofs.Common.{◌≡◌, ℕ, List, [], ◌∷◌, ◌++◌, Option, Some, None, Result, Ok, Err, refl, sym, ap, ◌∙◌, append_assoc}
use Rattle.tis_grid.specs.declared.event.Event.{Event}
use Rattle.tis_grid_text.specs.EventsText.{event_before}

-- the events that were read, and behind them those of the lines that are left
abbrev pub behind : List Event → Result (List Event) ℕ → Result (List Event) ℕ
behind events (Ok more) = Ok (events ++ more)
behind events (Err number) = Err number

pub behind_none : (rest : Result (List Event) ℕ) → behind [] rest ≡ rest
behind_none (Ok more) = refl
behind_none (Err number) = refl

-- one more event
pub behind_more : (events : List Event) (event : Event) (read : Option Event) (number : ℕ) (rest : Result (List Event) ℕ) → read ≡ Some event → behind (events ++ event ∷ []) rest ≡ behind events (event_before read number rest)
behind_more events event read number rest is = whole rest ∙ ap (λ (r : Option Event). behind events (event_before r number rest)) (sym is)
  where
    whole : (rest : Result (List Event) ℕ) → behind (events ++ event ∷ []) rest ≡ behind events (event_before (Some event) number rest)
    whole (Ok more) = ap (λ (xs : List Event). Ok xs) (append_assoc events (event ∷ []) more)
    whole (Err later) = refl

-- a line that names none
pub behind_wrong : (events : List Event) (read : Option Event) (number : ℕ) (rest : Result (List Event) ℕ) → read ≡ None → behind events (event_before read number rest) ≡ Err number
behind_wrong events read number rest is = ap (λ (r : Option Event). behind events (event_before r number rest)) is
