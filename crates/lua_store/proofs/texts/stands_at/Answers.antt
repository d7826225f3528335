use Rattle.std.proofs.Common.{sym, ◌∙◌}
use Rattle.std.proofs.lemmas.Slice.Eq.{bytes_eq-Decides}
use Rattle.lua_store.proofs.Gathered.{text_stands}
use Rattle.lua_store.proofs.texts.stands_at.Goals as goal

pub returns-then-at-texts : goal.returns-then-at-texts
returns-then-at-texts c = λ yes.
    text_stands (λ text. text.items) c.args.bytes.now c.args.texts.now c.args.at c.index-texts-at.result c.if-at-texts.true (sym c.index-texts-at.is)
    (sym c.as_slice.ensures.value ∙ (bytes_eq-Decides _ _).0 (sym c.eq.ensures ∙ yes))
