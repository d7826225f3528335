-- What holds of a value that is there or isn't.
use Rattle.std.proofs.Common.{◌≡◌, true, false, cond, Option, Some, None, refl}
use Rattle.std.specs.Prelude.{Bool, option_map, option_and_then}

-- a fact of the value, where there is one
unfoldable pub Holds : {X : Type 0} → (X → Type 0) → Option X → Type 0
Holds P None = Unit {0}
Holds P (Some x) = P x

pub holds_then : {X Y : Type 0} (P : X → Type 0) (Q : Y → Type 0) (read : Option X) (next : X → Option Y) → Holds P read → ((x : X) → P x → Holds Q (next x)) → Holds Q (option_and_then next read)
unfolding Holds
holds_then P Q None next holds follows = tt
holds_then P Q (Some x) next holds follows = follows x holds

pub holds_map : {X Y : Type 0} (P : X → Type 0) (Q : Y → Type 0) (read : Option X) (f : X → Y) → Holds P read → ((x : X) → P x → Q (f x)) → Holds Q (option_map f read)
unfolding Holds
holds_map P Q None f holds follows = tt
holds_map P Q (Some x) f holds follows = follows x holds

pub choice_holds : {X : Type 0} (P : X → Type 0) (test : Bool) (x y : Option X) → (test ≡ true → Holds P x) → Holds P y → Holds P (cond test x y)
choice_holds P true x y first second = first refl
choice_holds P false x y first second = second

pub some_holds : {X : Type 0} (P : X → Type 0) (x : X) → P x → Holds P (Some x)
unfolding Holds
some_holds P x holds = holds

pub none_holds : {X : Type 0} (P : X → Type 0) → Holds P None
unfolding Holds
none_holds P = tt

-- nothing is said
pub any_holds : {X : Type 0} (read : Option X) → Holds (λ _. Unit {0}) read
unfolding Holds
any_holds None = tt
any_holds (Some x) = tt

pub holds_more : {X : Type 0} (P Q : X → Type 0) (read : Option X) → Holds P read → ((x : X) → P x → Q x) → Holds Q read
unfolding Holds
holds_more P Q None holds follows = tt
holds_more P Q (Some x) holds follows = follows x holds
