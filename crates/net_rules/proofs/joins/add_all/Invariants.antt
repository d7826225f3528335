-- The set has the numbers so far.
use Rattle.std.proofs.Common.{◌≡◌, ℕ, drop, nat_eq}
use Rattle.std.specs.Prelude.{◌||◌, ◌==◌}
use Rattle.std.specs.List.{list_any}
use Rattle.indexmap.specs.IndexSet.{contains}
use Rattle.net_rules.proofs.joins.add_all.Given as goal

abbrev pub invariant-numbers : goal.invariant-numbers
invariant-numbers l = (number : ℕ) → (contains nat_eq l.initial.set number || list_any (λ other. other == number) l.numbers) ≡ (contains nat_eq l.set number || list_any (λ other. other == number) (drop l.number-index l.numbers))
