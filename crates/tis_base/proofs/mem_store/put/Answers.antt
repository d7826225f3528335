use Rattle.std.proofs.Common.{ap, ◌∙◌, rules}
use Rattle.tis_base.specs.Outside.{with_text}
use Rattle.tis_base.specs.MemStore.{texts_of}
use Rattle.tis_base.proofs.Texts.{texts_of-insert}
use Rattle.tis_base.proofs.mem_store.put.Goals as goal

pub returns-clause-ok : goal.returns-clause-ok
returns-clause-ok c =
    let before = texts_of c.args.entries.now.entries in
    ap texts_of c.in_ok-insert.ensures.entries
    ∙ texts_of-insert c.args.entries.now.entries c.in_ok-name.name c.in_ok-bytes.bytes
    ∙ ap (λ name. with_text before name c.in_ok-bytes.bytes.items) c.in_ok-name.ensures.ok
    ∙ ap (with_text before c.args.name.now) (search rules)
