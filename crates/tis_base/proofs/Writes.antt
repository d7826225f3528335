-- What two writes in a row append.
use Rattle.std.proofs.Common.{ℕ, List, ◌++◌, Option, Some, None, ap, ◌∙◌, append_assoc}
use Rattle.std.specs.Io.KnownBytes.{Appends}

pub Appends-append : (before between after : Option (List ℕ)) (xs ys : List ℕ) → Appends before between xs → Appends between after ys → Appends before after (xs ++ ys)
Appends-append None between after xs ys first second = tt
Appends-append (Some a) None after xs ys first second = absurd first
Appends-append (Some a) (Some b) None xs ys first second = absurd second
Appends-append (Some a) (Some b) (Some c) xs ys first second = second ∙ ap (λ w. w ++ ys) first ∙ append_assoc a xs ys
