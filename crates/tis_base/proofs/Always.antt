-- What holds of every value holds of the one in a result.
use Rattle.std.proofs.Common.{Result, Ok, Err, IfOk, IfErr}

pub IfOk-always : {T E : Type 0} (r : Result T E) (P : T → Type 0) → ((x : T) → P x) → IfOk r P
IfOk-always (Ok x) P p = p x
IfOk-always (Err e) P p = tt

pub IfErr-always : {T E : Type 0} (r : Result T E) (P : E → Type 0) → ((e : E) → P e) → IfErr r P
IfErr-always (Ok x) P p = tt
IfErr-always (Err e) P p = p e
