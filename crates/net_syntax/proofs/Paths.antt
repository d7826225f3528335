-- The tiles of a path, read word after word.
use Rattle.std.proofs.Common.{◌≡◌, ℕ, ◌<◌, ◌≤◌, Bool, true, false, cond, List, [], ◌∷◌, ◌++◌, length, refl, sym, ap, ◌∙◌, arith, append-nil, append_assoc, length-append}
use Rattle.std.specs.Prelude.{Option, Some, None, option_map, option_and_then, nat_le, IsTrue}
use Rattle.std.proofs.lemmas.Bool.Decides.{nat_tests}
use Rattle.tis_words.specs.Words.{Words}
use Rattle.tis_words.specs.Numerals.{number_of}
use Rattle.net_syntax.specs.Forms.{short_path, tiles_to_end, path_of}

-- what is read of a path behind these tiles
abbrev pub path_behind : List ℕ → Words → Option (List ℕ)
path_behind path words = option_and_then short_path (option_map (λ tiles. path ++ tiles) (tiles_to_end words))

pub path_begins : (words : Words) → path_of words ≡ path_behind [] words
unfolding path_of
path_begins words = by (tiles_to_end words)
  where
    by : (read : Option (List ℕ)) → option_and_then short_path read ≡ option_and_then short_path (option_map (λ tiles. [] ++ tiles) read)
    by None = refl
    by (Some tiles) = refl

pub path_stops : (path : List ℕ) (words rest : Words) (word : List ℕ) → words ≡ word ∷ rest → number_of 99 word ≡ None → path_behind path words ≡ None
unfolding tiles_to_end
path_stops path words rest word is none =
    ap (path_behind path) is
    ∙ ap (λ (n : Option ℕ). option_and_then short_path (option_map (λ tiles. path ++ tiles) (option_and_then (λ tile. option_map (λ tiles. tile ∷ tiles) (tiles_to_end rest)) n))) none

too_long : (tiles : List ℕ) → 48 < length tiles → short_path tiles ≡ None
too_long tiles over = let test : nat_le (length tiles) 48 ≡ false = grind (arith, nat_tests) in ap (λ (b : Bool). cond b (Some tiles) None) test

short_enough : (tiles : List ℕ) → length tiles ≤ 48 → short_path tiles ≡ Some tiles
short_enough tiles fits = let test : nat_le (length tiles) 48 ≡ true = grind (arith, nat_tests) in ap (λ (b : Bool). cond b (Some tiles) None) test

-- one tile more, as part of the path
pub path_more : (path new : List ℕ) (words rest : Words) (word : List ℕ) (tile : ℕ) → words ≡ word ∷ rest → number_of 99 word ≡ Some tile → new ≡ path ++ tile ∷ [] → path_behind path words ≡ path_behind new rest
unfolding tiles_to_end
path_more path new words rest word tile is value new_is =
    ap (path_behind path) is
    ∙ ap (λ (n : Option ℕ). option_and_then short_path (option_map (λ tiles. path ++ tiles) (option_and_then (λ t. option_map (λ tiles. t ∷ tiles) (tiles_to_end rest)) n))) value
    ∙ by (tiles_to_end rest)
  where
    by : (read : Option (List ℕ)) → option_and_then short_path (option_map (λ tiles. path ++ tiles) (option_map (λ tiles. tile ∷ tiles) read)) ≡ option_and_then short_path (option_map (λ tiles. new ++ tiles) read)
    by None = refl
    by (Some tiles) = ap short_path (sym (append_assoc path (tile ∷ []) tiles) ∙ ap (λ (l : List ℕ). l ++ tiles) (sym new_is))

full : (path : List ℕ) (words : Words) → 48 < length path → path_behind path words ≡ None
full path words over = by (tiles_to_end words)
  where
    by : (read : Option (List ℕ)) → option_and_then short_path (option_map (λ tiles. path ++ tiles) read) ≡ None
    by None = refl
    by (Some tiles) = too_long (path ++ tiles) (omega (arith, length-append path tiles))

pub path_full : (path : List ℕ) (words rest : Words) (word : List ℕ) (tile : ℕ) → words ≡ word ∷ rest → number_of 99 word ≡ Some tile → 48 ≤ length path → path_behind path words ≡ None
path_full path words rest word tile is value over =
    path_more path (path ++ tile ∷ []) words rest word tile is value refl ∙ full (path ++ tile ∷ []) rest (omega (arith, length-append path (tile ∷ [])))

pub path_ends : (path : List ℕ) (words : Words) → words ≡ [] → length path ≤ 48 → path_behind path words ≡ Some path
unfolding tiles_to_end
path_ends path words none fits = ap (path_behind path) none ∙ ap short_path (append-nil path) ∙ short_enough path fits

pub room_gone : (b : Bool) (n : ℕ) → b ≡ false → (n < 48 → IsTrue b) → 48 ≤ n
room_gone b n e f = let no : n < 48 → ⊥ = λ lt. apart (sym e ∙ f lt) in omega arith
  where
    apart : false ≡ true → ⊥
    apart is = absurd cc

pub room_left : (b : Bool) (n : ℕ) → b ≡ true → (IsTrue b → n < 48) → n < 48
room_left b n e f = f e
