use Rattle.std.proofs.Common.{◌≡◌, ℕ, map, refl, rules, ap, ◌∙◌}
use Rattle.std.proofs.lemmas.List.Sorted.{IsNonDecreasingBy-from_sort_by_key, answers_always}
use Rattle.net_rules.specs.declared.declarations.Declaration as held
use Rattle.net_rules.specs.Rules.{Declaration}
use Rattle.net_rules.specs.Known.{declaration_view}
use Rattle.net_rules.proofs.Sorting.{sorted_is, by_line_seen}
use Rattle.net_rules.proofs.declarations.sort_declarations.Goals as goal

pub returns : goal.returns
returns c =
    let line : held.Declaration → ℕ = λ found. found.line in
    let sorted = IsNonDecreasingBy-from_sort_by_key line _ c.in_ok-sort_by_key.ensures.sorted (λ a r q k. search rules) in
    ap (map declaration_view) (sorted_is line c.args.declared.now.items c.sort_by_key.new.self.items sorted (c.in_ok-sort_by_key.ensures.stable line (answers_always _ (λ a r. r ≡ line a.0.now) _ (λ f a r f2 k. search rules))))
    ∙ by_line_seen line declaration_view (λ (found : Declaration). found.line) (λ found. refl) c.args.declared.now.items
