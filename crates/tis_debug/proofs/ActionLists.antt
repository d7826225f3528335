-- Commands that are read one line after the other.
use Rattle.std.proofs.Common.{◌≡◌, ℕ, List, [], ◌∷◌, ◌++◌, Option, Some, None, Result, Ok, Err, refl, sym, ap, ◌∙◌, append_assoc}
use Rattle.tis_debug.specs.declared.script.Action.{Action}
use Rattle.tis_debug.specs.Scripts.{action_before}

-- the commands that were read, and behind them those of the lines that are left
abbrev pub behind : List Action → Result (List Action) ℕ → Result (List Action) ℕ
behind actions (Ok more) = Ok (actions ++ more)
behind actions (Err number) = Err number

pub behind_none : (rest : Result (List Action) ℕ) → behind [] rest ≡ rest
behind_none (Ok more) = refl
behind_none (Err number) = refl

-- one more command
pub behind_more : (actions : List Action) (action : Action) (read : Option Action) (number : ℕ) (rest : Result (List Action) ℕ) → read ≡ Some action → behind (actions ++ action ∷ []) rest ≡ behind actions (action_before read number rest)
behind_more actions action read number rest is = whole rest ∙ ap (λ (r : Option Action). behind actions (action_before r number rest)) (sym is)
  where
    whole : (rest : Result (List Action) ℕ) → behind (actions ++ action ∷ []) rest ≡ behind actions (action_before (Some action) number rest)
    whole (Ok more) = ap (λ (xs : List Action). Ok xs) (append_assoc actions (action ∷ []) more)
    whole (Err later) = refl

-- a line that is none
pub behind_wrong : (actions : List Action) (read : Option Action) (number : ℕ) (rest : Result (List Action) ℕ) → read ≡ None → behind actions (action_before read number rest) ≡ Err number
behind_wrong actions read number rest is = ap (λ (r : Option Action). behind actions (action_before r number rest)) is
