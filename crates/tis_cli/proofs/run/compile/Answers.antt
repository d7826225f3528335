use Rattle.std.proofs.Common.{rules, ◌≡◌, ℕ, List, ◌∙◌, Ok, Err, ap, subst}
use Rattle.tis_cli.specs.Statuses.{form_status}
use Rattle.tis_asm.specs.Programs.{Programs}
use Rattle.tis_save.specs.Writing.{save_text}
use Rattle.tis_save.specs.Reading.{save_of}
use Rattle.net_tree.specs.Tree.{Net}
use Rattle.net_rules.specs.Numbers.{numbered}
use Rattle.net_column.specs.Carries.{Carries}
use Rattle.tis_cli.proofs.Explained.{unread_explained, saved_explained}
use Rattle.tis_cli.proofs.run.compile.Goals as goal

pub returns-in_err-programs-clause-explains : goal.returns-in_err-programs-clause-explains
returns-in_err-programs-clause-explains g c written =
    let status : c.from_residual-in_err-programs.result ≡ Err (form_status c.in_err-programs.field-0.0) = search rules in
    rw status
    (unread_explained (g.S.Store.texts c.args.store.now) c.args.net.now c.args.save.now c.in_ok-text.text.items c.deref.result.now c.in_ok-text.ensures.ok c.deref.ensures.value
    (g.S.Store.texts c.fetch.new.self) c.in_ok-text.ensures.texts_stay written c.in_err-programs.field-0.0
    (λ is. c.in_err-programs.ensures.refused (ap (λ e. Err e) is)))

pub returns-clause-explains : goal.returns-clause-explains
returns-clause-explains g c written =
    let found = c.in_ok-programs.ensures.compiled in
    let net : Net = found.0 in
    let programs = found.2 in
    let read = subst (λ (p : Programs). save_of c.in_ok-bytes.bytes.items p.tiles ≡ Ok p) programs (c.in_ok-bytes.ensures.reads_back c.in_ok-programs.ensures.sound) in
    saved_explained (g.S.Store.texts c.args.store.now) c.args.net.now c.args.save.now c.in_ok-text.text.items c.deref.result.now c.in_ok-text.ensures.ok c.deref.ensures.value
    (g.S.Store.texts c.fetch.new.self) (g.S.Store.texts c.keep.new.self) c.deref-2.result.now net found.1
    (c.deref-2.ensures.value ∙ c.in_ok-bytes.ensures.text ∙ ap save_text programs) (ap (λ (bytes : List ℕ). save_of bytes net.tiles) c.deref-2.ensures.value ∙ read) (subst (λ (p : Programs). Carries p (numbered net)) programs found.3) c.in_ok-text.ensures.texts_stay c.in_ok-keep.ensures.ok written
