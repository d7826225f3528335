-- Seeds, word by word.
use Rattle.std.proofs.Common.{◌≡◌, ℕ, zero, suc, ◌+◌, ◌<◌, ◌≤◌, cond, List, [], ◌∷◌, ◌++◌, length, map, drop, get_or, set, Option, Some, None, option_map, refl, sym, ap, ◌∙◌, arith, append_assoc}
use Rattle.std.specs.Prelude.{Bool, ◌&&◌, nat_le, option_and_then}
use Rattle.std.proofs.lemmas.Bool.{lt-ltb, le-leb}
use Rattle.std.proofs.lemmas.List.{drop_more, get_or-map, length-map}
use Rattle.tis_cli.specs.Commands.{seed_of, all_seeds, seeds_of, kept_seeds}

-- one to eight words
pub seeds_within : (words : List (List ℕ)) → 0 < length words → length words ≤ 8 → seeds_of words ≡ all_seeds words
seeds_within words some few =
    ap (λ (b : Bool). cond {A = Option (List ℕ)} (b && nat_le (length words) 8) (all_seeds words) None) (lt-ltb 0 (length words) some)
    ∙ ap (λ (b : Bool). cond {A = Option (List ℕ)} b (all_seeds words) None) (le-leb (length words) 8 few)

-- a seed in the first place that is free
pub put_next : (kept : List (Option ℕ)) (index seed : ℕ) → index < length kept → kept_seeds (drop index kept) ≡ [] → kept_seeds (set kept index (Some seed)) ≡ kept_seeds kept ++ seed ∷ []
put_next [] index seed within free = absurd (omega (arith, within))
put_next (None ∷ kept) zero seed within free = ap (λ (rest : List ℕ). seed ∷ rest) free ∙ ap (λ (rest : List ℕ). rest ++ seed ∷ []) (sym free)
put_next (Some other ∷ kept) zero seed within free = absurd cc
put_next (None ∷ kept) (suc index) seed within free = put_next kept index seed (omega (arith, within)) free
put_next (Some other ∷ kept) (suc index) seed within free = ap (λ (rest : List ℕ). other ∷ rest) (put_next kept index seed (omega (arith, within)) free)

-- the places behind it are free
pub free_behind : (kept : List (Option ℕ)) (index : ℕ) → kept_seeds (drop index kept) ≡ [] → kept_seeds (drop (suc index) kept) ≡ []
free_behind [] index free = refl
free_behind (None ∷ kept) zero free = free
free_behind (Some other ∷ kept) zero free = absurd cc
free_behind (first ∷ kept) (suc index) free = free_behind kept index free

-- the seeds before a word, and then its own and those behind it
pub one_seed : (before : List ℕ) (word : List ℕ) (words : List (List ℕ)) (seed : ℕ) → Some seed ≡ seed_of word → option_map (λ rest. before ++ rest) (all_seeds (word ∷ words)) ≡ option_map (λ rest. (before ++ seed ∷ []) ++ rest) (all_seeds words)
one_seed before word words seed is =
    ap (λ (s : Option ℕ). option_map (λ rest. before ++ rest) (option_and_then (λ n. option_map (λ ns. n ∷ ns) (all_seeds words)) s)) (sym is) ∙ joined (all_seeds words)
  where
    joined : (behind : Option (List ℕ)) → option_map (λ rest. before ++ rest) (option_map (λ ns. seed ∷ ns) behind) ≡ option_map (λ rest. (before ++ seed ∷ []) ++ rest) behind
    joined None = refl
    joined (Some ns) = ap (λ (all : List ℕ). Some all) (sym (append_assoc before (seed ∷ []) ns))

-- a word that is no seed
pub no_seed : (before : List ℕ) (word : List ℕ) (words : List (List ℕ)) → None ≡ seed_of word → option_map (λ rest. before ++ rest) (all_seeds (word ∷ words)) ≡ None
no_seed before word words is = ap (λ (s : Option ℕ). option_map (λ rest. before ++ rest) (option_and_then (λ n. option_map (λ ns. n ∷ ns) (all_seeds words)) s)) (sym is)

-- ---- the words that are left

-- the next of them
pub next_left : {X Y : Type 0} (f : X → Y) (xs : List X) (index : ℕ) (x : X) → index < length xs → x ≡ get_or xs index x → drop index (map f xs) ≡ f x ∷ drop (index + 1) (map f xs)
next_left f xs index x within is =
    drop_more (map f xs) index (f x) (omega (arith, within, length-map xs f))
    ∙ ap (λ y. y ∷ drop (index + 1) (map f xs)) (get_or-map f xs index x (f x) within ∙ ap f (sym is))

-- four words and those behind them
pub first_four : {X : Type 0} (xs : List X) (a b c d : X) → 4 ≤ length xs → a ≡ get_or xs 0 a → b ≡ get_or xs 1 b → c ≡ get_or xs 2 c → d ≡ get_or xs 3 d → xs ≡ a ∷ b ∷ c ∷ d ∷ drop 4 xs
first_four [] a b c d long is_a is_b is_c is_d = absurd (omega (arith, long))
first_four (w ∷ []) a b c d long is_a is_b is_c is_d = absurd (omega (arith, long))
first_four (w ∷ x ∷ []) a b c d long is_a is_b is_c is_d = absurd (omega (arith, long))
first_four (w ∷ x ∷ y ∷ []) a b c d long is_a is_b is_c is_d = absurd (omega (arith, long))
first_four (w ∷ x ∷ y ∷ z ∷ xs) a b c d long is_a is_b is_c is_d =
    ap (λ e. e ∷ x ∷ y ∷ z ∷ xs) (sym is_a) ∙ ap (λ e. a ∷ e ∷ y ∷ z ∷ xs) (sym is_b) ∙ ap (λ e. a ∷ b ∷ e ∷ z ∷ xs) (sym is_c) ∙ ap (λ e. a ∷ b ∷ c ∷ e ∷ xs) (sym is_d)
