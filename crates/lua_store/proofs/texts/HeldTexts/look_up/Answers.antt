use Rattle.std.proofs.Common.{◌≡◌, List, ℕ, map, ap, sym, subst, ◌∙◌, ◌<◌, length, get_or, []}
use Rattle.lua_store.specs.Values.{with_text}
use Rattle.lua_store.proofs.Gathered.{text_found, text_known, text_more, distinct_apart}
use Rattle.lua_store.proofs.texts.HeldTexts.look_up.Goals as goal

pub returns-in-Some-clause-place : goal.returns-in-Some-clause-place
returns-in-Some-clause-place c =
    subst (λ (texts : List (List ℕ)). (c.in-Some.at < length texts) × (get_or texts c.in-Some.at [] ≡ c.args.bytes.now)) c.self.view_is
    (text_found (λ text. text.items) c.args.bytes.now c.self.inside.texts.keys c.in-Some.at (sym c.in-Some.ensures.index))

pub returns-in-Some-clause-held : goal.returns-in-Some-clause-held
returns-in-Some-clause-held c =
    subst (λ (texts : List (List ℕ)). texts ≡ with_text texts c.args.bytes.now) c.self.view_is
    (text_known (λ text. text.items) c.args.bytes.now c.self.inside.texts.keys (sym c.in-Some.ensures.found))

pub invariant_of-self-2 : goal.invariant_of-self-2
invariant_of-self-2 c = distinct_apart (λ text. text.items) c.insert_full.new.self.keys c.in_ok-at.ensures.unique

pub returns-clause-held : goal.returns-clause-held
returns-clause-held c =
    ap (map (λ text. text.items)) c.in_ok-at.ensures.keys ∙ text_more (λ text. text.items) c.in_ok-text.text c.self.inside.texts.keys
    ∙ ap (with_text (map (λ text. text.items) c.self.inside.texts.keys)) c.in_ok-text.ensures.items ∙ ap (λ (texts : List (List ℕ)). with_text texts c.args.bytes.now) c.self.view_is

pub returns-clause-apart : goal.returns-clause-apart
returns-clause-apart c = distinct_apart (λ text. text.items) c.insert_full.new.self.keys c.in_ok-at.ensures.unique
