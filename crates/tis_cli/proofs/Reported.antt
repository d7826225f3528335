-- Commands that put a report come to an answer.
use Rattle.std.proofs.Common.{◌≡◌, ℕ, List, [], ◌∷◌, length, Result, refl, arith}
use Rattle.tis_grid.specs.Puzzle.{Puzzle}
use Rattle.tis_spec.specs.Specification.{Refusal as SpecRefusal}
use Rattle.tis_spec.proofs.Given.{each_gives}
use Rattle.tis_cli.specs.Answers.{Answer, Kept, Put}
use Rattle.tis_cli.specs.Commands.{Command, Compile, Network, Run, Order, Replay, Grade, Debug, Follows, fetched, destination_of, ComesTo, ReportsAnswer}
use Rattle.tis_cli.specs.Nets.{net_answer}
use Rattle.tis_cli.specs.Runs.{run_answer, order_answer, replay_answer, grade_answer, debug_answer}

-- something follows from what a specification gives
follows : (spec : List ℕ) (seed : ℕ) (next : Result Puzzle SpecRefusal → Answer) → (answer : Answer) × Follows spec seed next answer
follows spec seed next = let gives = each_gives spec seed in (next gives.0, (gives.0, gives.1, refl))

-- over two texts, and over three
over_two : (P : List (List ℕ) → Type 0) → ((a b : List ℕ) → P (a ∷ b ∷ [])) → (texts : List (List ℕ)) → length texts ≡ 2 → P texts
over_two P at [] two = absurd (omega (arith, two))
over_two P at (a ∷ []) two = absurd (omega (arith, two))
over_two P at (a ∷ b ∷ []) two = at a b
over_two P at (a ∷ b ∷ c ∷ texts) two = absurd (omega (arith, two))

over_three : (P : List (List ℕ) → Type 0) → ((a b c : List ℕ) → P (a ∷ b ∷ c ∷ [])) → (texts : List (List ℕ)) → length texts ≡ 3 → P texts
over_three P at [] three = absurd (omega (arith, three))
over_three P at (a ∷ []) three = absurd (omega (arith, three))
over_three P at (a ∷ b ∷ []) three = absurd (omega (arith, three))
over_three P at (a ∷ b ∷ c ∷ []) three = at a b c
over_three P at (a ∷ b ∷ c ∷ d ∷ texts) three = absurd (omega (arith, three))

pub reports_answer : ReportsAnswer
reports_answer (Compile net save) texts put many = absurd cc
reports_answer (Network net grid) texts put many = over_two (λ t. (answer : Answer) × ComesTo (Network net grid) t answer) (λ a b. (net_answer a b, refl)) texts many
reports_answer (Run save spec seed cycles) texts put many = over_two (λ t. (answer : Answer) × ComesTo (Run save spec seed cycles) t answer) (λ a b. follows b seed (λ given. run_answer a given cycles)) texts many
reports_answer (Order save spec seed order_seed limit) texts put many =
    over_two (λ t. (answer : Answer) × ComesTo (Order save spec seed order_seed limit) t answer) (λ a b. follows b seed (λ given. order_answer a given order_seed limit)) texts many
reports_answer (Replay save spec seed events) texts put many = over_three (λ t. (answer : Answer) × ComesTo (Replay save spec seed events) t answer) (λ a b c. follows b seed (λ given. replay_answer a given c)) texts many
reports_answer (Grade save spec limit seeds) texts put many =
    over_two (λ t. (answer : Answer) × ComesTo (Grade save spec limit seeds) t answer)
    (λ a b. (grade_answer a (λ seed. (each_gives b seed).0) limit seeds, ((λ seed. (each_gives b seed).0), (λ seed. (each_gives b seed).1), refl))) texts many
reports_answer (Debug save spec seed script) texts put many = over_three (λ t. (answer : Answer) × ComesTo (Debug save spec seed script) t answer) (λ a b c. follows b seed (λ given. debug_answer a given c)) texts many
