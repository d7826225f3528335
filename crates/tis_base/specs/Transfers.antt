-- What reads and writes do to the bytes that a reader has left, and to those that a writer holds.
use Rattle.std.specs.Prelude.{◌≡◌, ℕ, List, ◌++◌, Option}
use Rattle.std.specs.Io.KnownBytes.{Consumes, Appends}

-- what was there has more bytes behind it, and these are the next ones of the reader
abbrev pub ReadsMore : Option (List ℕ) → Option (List ℕ) → List ℕ → List ℕ → Type 0
ReadsMore before after old new = (more : List ℕ) × (new ≡ old ++ more) × Consumes before after more

-- the writer holds what it held, and some prefix of these bytes behind it
abbrev pub AppendsPrefix : Option (List ℕ) → Option (List ℕ) → List ℕ → Type 0
AppendsPrefix before after bytes = (prefix rest : List ℕ) × (bytes ≡ prefix ++ rest) × Appends before after prefix
