use Rattle.std.proofs.Common.{ap, sym, ◌∙◌, option_map, Some}
use Rattle.tis_base.proofs.Texts.{text_at-texts_of}
use Rattle.tis_base.proofs.mem_store.find.Goals as goal

pub returns-in-Some : goal.returns-in-Some
returns-in-Some c =
    ap Some c.as_slice.ensures.value
    ∙ ap (option_map (λ v. v.items)) c.in-Some.ensures.value
    ∙ sym (text_at-texts_of c.args.entries.now.entries c.args.name.now)

pub returns-in-None : goal.returns-in-None
returns-in-None c =
    ap (option_map (λ v. v.items)) c.in-None.ensures.value
    ∙ sym (text_at-texts_of c.args.entries.now.entries c.args.name.now)
