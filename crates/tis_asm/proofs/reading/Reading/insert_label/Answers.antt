use Rattle.std.proofs.Common.{◌∷◌, [], ◌++◌, List, ℕ, ap, ◌∙◌}
use Rattle.std.specs.Borrow.{Bor}
use Rattle.std.specs.Str.{bytes_eq}
use Rattle.indexmap.proofs.CallerLemmas.{insert_entry-new}
use Rattle.tis_asm.specs.ReadingView.{labels_view, reading_view}
use Rattle.tis_asm.proofs.ReadLabels.{looked_up, added_last}
use Rattle.tis_asm.proofs.reading.Reading.insert_label.Goals as goal

pub returns-clause-labels : goal.returns-clause-labels
returns-clause-labels c =
    let entries = c.args.self.now.labels.entries in
    let new = insert_entry-new (λ (a b : Bor (List ℕ)). bytes_eq a.now b.now) c.args.self.now.labels c.args.label c.len.result (looked_up entries c.args.label.now ∙ c.requires) in
    ap (λ labels. record (reading_view c.args.self.now) { labels = labels }) (ap labels_view (c.in_ok-insert.ensures.entries ∙ new) ∙ added_last entries c.args.label c.len.result ∙ ap (λ (n : ℕ). labels_view entries ++ (c.args.label.now, n) ∷ []) c.len.ensures.len)
