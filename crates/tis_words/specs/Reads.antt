-- What a reader of words did.
use Rattle.std.specs.Prelude.{◌≡◌, ℕ, ◌∷◌, List, Option, Some, None}
use Rattle.tis_words.specs.Words.{Words}

-- a call read what this reading gives: the value that is seen, and the words that are left
abbrev pub Reads : {X Y : Type 0} → (X → Y) → Option X → Words → Option (Y × Words) → Type 0
Reads view None left reading = reading ≡ None
Reads view (Some x) left reading = reading ≡ Some (view x, left)

-- a call passed exactly this word where this reading passes it, and left the words behind it
abbrev pub Passes : {Y : Type 0} → Option (Unit {0}) → Words → Y → Option (Y × Words) → Type 0
Passes None left expected reading = reading ≡ None
Passes (Some x) left expected reading = reading ≡ Some (expected, left)

-- a call gave what this reading gives, by what is seen of it
abbrev pub Found : {X Y : Type 0} → (X → Y) → Option X → Option Y → Type 0
Found view None reading = reading ≡ None
Found view (Some x) reading = reading ≡ Some (view x)

-- there are words
abbrev pub IsMore : Words → Type 0
IsMore words = (word : List ℕ) × (others : Words) × (words ≡ word ∷ others)
