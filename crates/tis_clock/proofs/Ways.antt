-- What is found among ways, piece by piece.
use Rattle.std.proofs.Common.{◌≡◌, true, false, cond, Bool, List, [], ◌∷◌, ◌++◌, Some, None, refl, ap, ◌∙◌}
use Rattle.std.specs.List.{find}
use Rattle.std.specs.Option.{option_or}

-- in the first part, or else in the other
pub found_in_parts : {X : Type 0} (test : X → Bool) (one other : List X) → find test (one ++ other) ≡ option_or (find test one) (find test other)
found_in_parts test [] other = refl
found_in_parts test (x ∷ one) other = elim (test x) as (λ b. cond b (Some x) (find test (one ++ other)) ≡ option_or (cond b (Some x) (find test one)) (find test other)) [ true ↦ refl | false ↦ found_in_parts test one other ]

-- an event of the first part is found
pub found_first : {X : Type 0} (test : X → Bool) (one other : List X) (x : X) → find test one ≡ Some x → find test (one ++ other) ≡ Some x
found_first test one other x is = found_in_parts test one other ∙ ap (λ found. option_or found (find test other)) is

-- where none is there, it is found in the other
pub found_later : {X : Type 0} (test : X → Bool) (one other : List X) → find test one ≡ None → find test (one ++ other) ≡ find test other
found_later test one other is = found_in_parts test one other ∙ ap (λ found. option_or found (find test other)) is
