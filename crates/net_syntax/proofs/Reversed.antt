-- The open statements as they are held, innermost last, and as they are seen, innermost first.
use Rattle.std.proofs.Common.{◌≡◌, List, [], ◌∷◌, ◌++◌, map, length, ap, ◌∙◌}
use Rattle.std.specs.Prelude.{reverse}
use Rattle.std.proofs.lemmas.List.{map-append, length-map, reverse-append, length-reverse}

-- one more at the end is one more in front
pub seen_pushed : {X Y : Type 0} (f : X → Y) (items : List X) (last : X) → reverse (map f (items ++ last ∷ [])) ≡ f last ∷ reverse (map f items)
seen_pushed f items last = ap reverse (map-append f items (last ∷ [])) ∙ reverse-append (map f items) (f last ∷ [])

pub seen_length : {X Y : Type 0} (f : X → Y) (items : List X) → length (reverse (map f items)) ≡ length items
seen_length f items = length-reverse (map f items) ∙ length-map items f
