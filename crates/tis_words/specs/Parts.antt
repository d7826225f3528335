-- The parts of a line, read from left to right: each reading gives what it read and the words behind it, or nothing.
use Rattle.std.specs.Prelude.{ℕ, List, [], ◌∷◌, Option, Some, None, option_map, option_and_then, if◌then◌else◌}
use Rattle.std.specs.Str.{bytes_eq}
use Rattle.tis_words.specs.Words.{Words}

-- the next part is looked for only where the words before it were right
unfoldable pub followed_by : {A B : Type 0} → Option A → (A → Option B) → Option B
followed_by read next = option_and_then next read

infixl 10 ◌>>=◌
-- the same, written between the two
abbrev pub ◌>>=◌ : {A B : Type 0} → Option A → (A → Option B) → Option B
read >>= next = followed_by read next

-- a word with exactly these bytes
abbrev pub exactly : List ℕ → List ℕ → Option (List ℕ)
exactly expected word = if bytes_eq word expected then Some expected else None

-- a word that means something, and the words behind it
unfoldable pub next_word : {X : Type 0} → (List ℕ → Option X) → Words → Option (X × Words)
next_word meaning [] = None
next_word meaning (word ∷ words) = option_map (λ x. (x, words)) (meaning word)

-- what was read, where no word stands behind it
unfoldable pub at_end : {X : Type 0} → Words → X → Option X
at_end [] x = Some x
at_end (word ∷ words) x = None
