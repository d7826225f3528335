-- What the answers of a call say.
use Rattle.std.proofs.Common.{◌≡◌, true, false, Result, Ok, Err, refl}
use Rattle.std.specs.Prelude.{Bool, not, OnErr}

-- a test that is false, or true, by its negation
pub negated : (b d : Bool) → d ≡ not b → d ≡ true → b ≡ false
negated true true is holds = absurd cc
negated true false is holds = absurd cc
negated false d is holds = refl

pub affirmed : (b d : Bool) → d ≡ not b → d ≡ false → b ≡ true
affirmed true d is holds = refl
affirmed false true is holds = absurd cc
affirmed false false is holds = absurd cc

-- what holds at all holds on an Err
pub on_err : {X E : Type 0} (P : Type 0) (result : Result X E) → P → OnErr result P
on_err P (Ok x) holds = tt
on_err P (Err e) holds = holds
