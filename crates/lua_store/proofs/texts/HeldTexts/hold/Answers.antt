use Rattle.std.proofs.Common.{◌≡◌, ℕ, List, ◌<◌, length, get_or, map, [], refl, ap, subst, ◌∙◌}
use Rattle.lua_store.proofs.Gathered.{text_there}
use Rattle.lua_store.proofs.texts.HeldTexts.hold.Goals as goal

pub returns-then-stands_at-clause-held : goal.returns-then-stands_at-clause-held
returns-then-stands_at-clause-held c =
    let hint = get_or c.self.inside.hints c.number_of-number.result 0 in
    let texts = ap (map (λ text. text.items)) c.as_slice.ensures.keys ∙ c.self.view_is in
    let there = subst (λ (all : List (List ℕ)). (hint < length all) × (get_or all hint [] ≡ c.args.bytes.now)) texts (c.if-stands_at.ensures refl) in
    text_there c.args.bytes.now c.args.self.now hint there.0 there.1
