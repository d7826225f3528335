-- What a store and a sink mean.
use Rattle.std.specs.Prelude.{◌≡◌, ℕ, ◌<◌, ◌^◌, ◌-◌, ◌⊎◌, List, ◌++◌, Option, option_map}
use Rattle.std.specs.Ordering.{nat_cmp}
use Rattle.std.specs.Cmp.Lexicographic.{slice_cmp}
use Rattle.std.specs.FinMap as map

-- the bytes under each name
abbrev pub Texts : Type 0
Texts = map.FinMap (slice_cmp nat_cmp) (List ℕ)

-- the bytes under a name, where it is there
abbrev pub text_at : Texts → List ℕ → Option (List ℕ)
text_at texts name = map.get texts name

-- the same texts, but with these bytes under this name
abbrev pub with_text : Texts → List ℕ → List ℕ → Texts
with_text texts name bytes = map.insert texts name bytes

-- a count went up, or stands at its last value
abbrev pub Rose : ℕ → ℕ → Type 0
Rose before now = (before < now) ⊎ (now ≡ 2 ^ 64 - 1)

-- what was written, where it is told, is as before with some prefix of these bytes behind it
abbrev pub WrotePrefix : Option (List ℕ) → List ℕ → Option (List ℕ) → Type 0
WrotePrefix old bytes new = (prefix rest : List ℕ) × (bytes ≡ prefix ++ rest) × (new ≡ option_map (λ written. written ++ prefix) old)
