use Rattle.std.proofs.Common.{◌≡◌, ℕ, List, map, drop, Option, None, true, sym, ap, ◌∙◌}
use Rattle.std.specs.Prelude.{String, string_bytes, codes}
use Rattle.std.specs.Str.{bytes_eq}
use Rattle.std.specs.declared.alloc.Global.{Global}
use Rattle.std.proofs.lemmas.Bool.{cond-true}
use Rattle.std.proofs.lemmas.List.{take_rest}
use Rattle.tis_cli.specs.Commands.{Command, limit_of, seeds_of, grade_with, grade_of}
use Rattle.tis_cli.proofs.Seeds.{first_four}
use Rattle.tis_cli.proofs.command.read_grade.Goals as goal

pub returns-in-len4-up : goal.returns-in-len4-up
returns-in-len4-up c =
    let words = c.args.words.now in
    let word = string_bytes c.word-item.result in
    let save = string_bytes c.save-item.result in
    let spec = string_bytes c.spec-item.result in
    let limit = limit_of (string_bytes c.limit-item.result) in
    let split = first_four words c.word-item.result c.save-item.result c.spec-item.result c.limit-item.result c.in-len4-up.len_at_least c.word-item.is c.save-item.is c.spec-item.is c.limit-item.is in
    let test : bytes_eq word (codes "grade") ≡ true = ap (λ (w : List ℕ). bytes_eq w (codes "grade")) (sym c.as_str.ensures.value) ∙ sym c.eq.ensures ∙ c.if-eq.true in
    ap (λ (ws : List (String Global)). grade_of (map string_bytes ws)) split
    ∙ cond-true {A = Option Command} (bytes_eq word (codes "grade")) (grade_with save spec limit (seeds_of (map string_bytes (drop 4 words)))) None test
    ∙ ap (λ (ws : List (String Global)). grade_with save spec limit (seeds_of (map string_bytes ws))) (sym (take_rest words 4))
    ∙ c.grade.ensures
