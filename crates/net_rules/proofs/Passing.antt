-- A walk through elements that stops at the first fault.
use Rattle.std.proofs.Common.{◌≡◌, ◌<◌, ℕ, ◌+◌, List, ◌∷◌, length, map, drop, get_or, Option, None, sym, ap, subst, ◌∙◌}
use Rattle.std.specs.Option.{option_or}
use Rattle.std.proofs.lemmas.List.{drop_more}
use Rattle.net_rules.specs.declared.error.RuleError.{RuleError}
use Rattle.net_rules.specs.Broken.{IsBroken}
use Rattle.net_rules.specs.Rules.{BrokenRule, first_among}
use Rattle.net_rules.proofs.Declaring.{broken_first, behind_kept}

module _ {H X : Type 0} (view : H → X) (fault : List X → X → Option BrokenRule) (earlier : List X) (items : List H) (index : ℕ) (item : H) (whole : Option BrokenRule) (so : whole ≡ first_among fault earlier (map view (drop index items))) (within : index < length items)
    (is : item ≡ get_or items index item) where
  next : whole ≡ option_or (fault earlier (view item)) (first_among fault (view item ∷ earlier) (map view (drop (index + 1) items)))
  next =
      so ∙ ap (λ l. first_among fault earlier (map view l)) (drop_more items index item within)
      ∙ ap (λ x. option_or (fault earlier (view x)) (first_among fault (view x ∷ earlier) (map view (drop (index + 1) items)))) (sym is)

  -- the element has a fault
  pub refused : (error : RuleError) → IsBroken error (fault earlier (view item)) → IsBroken error whole
  refused error broken = subst (IsBroken error) (sym next) (broken_first error (fault earlier (view item)) _ broken)

  -- the element has none
  pub passed : fault earlier (view item) ≡ None → whole ≡ first_among fault (view item ∷ earlier) (map view (drop (index + 1) items))
  passed none = next ∙ behind_kept (fault earlier (view item)) _ none
