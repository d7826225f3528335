-- Rules one after the other.
use Rattle.std.proofs.Common.{◌≡◌, Option, None, sym, ap, subst}
use Rattle.std.specs.Prelude.{Result}
use Rattle.std.specs.Option.{option_or}
use Rattle.net_rules.specs.declared.error.RuleError.{RuleError}
use Rattle.net_rules.specs.Broken.{IsBroken, Keeps}
use Rattle.net_rules.specs.Rules.{BrokenRule}

-- an error behind a rule that isn't broken
pub broken_behind : (error : RuleError) (one other : Option BrokenRule) → one ≡ None → IsBroken error other → IsBroken error (option_or one other)
broken_behind error one other none broken = subst (IsBroken error) (sym (ap (λ o. option_or o other) none)) broken

pub keeps_behind : (result : Result (Unit {0}) RuleError) (one other : Option BrokenRule) → one ≡ None → Keeps result other → Keeps result (option_or one other)
keeps_behind result one other none keeps = subst (Keeps result) (sym (ap (λ o. option_or o other) none)) keeps
