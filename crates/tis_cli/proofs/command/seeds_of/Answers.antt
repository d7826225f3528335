use Rattle.std.proofs.Common.{◌≡◌, ℕ, suc, ◌+◌, List, [], ◌∷◌, ◌++◌, length, map, drop, set, Option, Some, option_map, sym, ap, ◌∙◌, arith, append-nil}
use Rattle.std.specs.Prelude.{string_bytes}
use Rattle.std.proofs.lemmas.Bool.{eqb-false}
use Rattle.std.proofs.lemmas.List.{drop_all, drop-set-lt, length-map, length-set}
use Rattle.tis_cli.specs.Commands.{all_seeds, kept_seeds}
use Rattle.tis_cli.proofs.Seeds.{seeds_within, put_next, free_behind, one_seed, no_seed, next_left}
use Rattle.tis_cli.proofs.command.seeds_of.Goals as goal

pub returns-in_err-seed : goal.returns-in_err-seed
returns-in_err-seed c =
    let words = map string_bytes c.args.words.now in
    let kept = kept_seeds c.loop-index.seeds in
    let word = string_bytes c.index-words-index.result in
    let some : length c.args.words.now ≡ 0 → ⊥ = eqb-false (length c.args.words.now) 0 (sym c.is_empty.ensures ∙ c.if-is_empty.false) in
    let few = c.if-words-gt-SEEDS.false in
    let long = length-map c.args.words.now string_bytes in
    seeds_within words (omega (arith, some, long)) (omega (arith, few, long))
    ∙ c.loop-index.invariant.left
    ∙ ap (λ (left : List (List ℕ)). option_map (λ rest. kept ++ rest) (all_seeds left)) (next_left string_bytes c.args.words.now c.loop-index.index c.index-words-index.result (omega arith) c.index-words-index.is)
    ∙ no_seed kept word (drop (c.loop-index.index + 1) words) c.in_err-seed.ensures
    ∙ sym (ap (option_map (λ k. kept_seeds k)) c.from_residual.ensures)

pub loop-index-preserved : goal.loop-index-preserved
loop-index-preserved c =
    let words = map string_bytes c.args.words.now in
    let seeds = c.loop-index.seeds in
    let index = c.loop-index.index in
    let seed = c.in_ok-seed.seed in
    let word = string_bytes c.index-words-index.result in
    let test = c.loop-index-test.true in
    let few = c.if-words-gt-SEEDS.false in
    let long = c.loop-index.invariant.long in
    let put : kept_seeds (set seeds index (Some seed)) ≡ kept_seeds seeds ++ seed ∷ [] = put_next seeds index seed (omega (arith, test, few, long)) c.loop-index.invariant.free in
    let one : index + 1 ≡ suc index = omega arith in
    record {
      left =
          c.loop-index.invariant.left
          ∙ ap (λ (left : List (List ℕ)). option_map (λ rest. kept_seeds seeds ++ rest) (all_seeds left)) (next_left string_bytes c.args.words.now index c.index-words-index.result test c.index-words-index.is)
          ∙ one_seed (kept_seeds seeds) word (drop (index + 1) words) seed c.in_ok-seed.ensures
          ∙ ap (λ (k : List ℕ). option_map (λ rest. k ++ rest) (all_seeds (drop (index + 1) words))) (sym put);
      long = length-set seeds index (Some seed) ∙ long;
      free =
          ap (λ (k : List (Option ℕ)). kept_seeds k) (drop-set-lt (index + 1) seeds index (Some seed) (omega arith))
          ∙ ap (λ (n : ℕ). kept_seeds (drop n seeds)) one
          ∙ free_behind seeds index c.loop-index.invariant.free;
    }

pub returns : goal.returns
returns c =
    let words = map string_bytes c.args.words.now in
    let kept = kept_seeds c.loop-index.seeds in
    let some : length c.args.words.now ≡ 0 → ⊥ = eqb-false (length c.args.words.now) 0 (sym c.is_empty.ensures ∙ c.if-is_empty.false) in
    let few = c.if-words-gt-SEEDS.false in
    let end = c.loop-index-test.false in
    let long = length-map c.args.words.now string_bytes in
    seeds_within words (omega (arith, some, long)) (omega (arith, few, long))
    ∙ c.loop-index.invariant.left
    ∙ ap (λ (left : List (List ℕ)). option_map (λ rest. kept ++ rest) (all_seeds left)) (drop_all c.loop-index.index words (omega (arith, end, long)))
    ∙ ap (λ (k : List ℕ). Some k) (append-nil kept)
