use Rattle.std.proofs.Common.{map, sym, ap, subst, ◌∙◌}
use Rattle.std.proofs.lemmas.Result.{err_from_is_err_and}
use Rattle.net_tree.specs.View.{net_view}
use Rattle.net_rules.specs.Broken.{IsBroken}
use Rattle.net_rules.specs.Rules.{first_fault, declaration_fault}
use Rattle.net_rules.specs.Found.{use_view}
use Rattle.net_rules.specs.Known.{declaration_view, can_read, can_write, names_channel, use_fault_among, unused_fault_by, order_fault_by}
use Rattle.net_rules.proofs.Declaring.{broken_first, keeps_as}
use Rattle.net_rules.proofs.Keeping.{broken_behind, keeps_behind}
use Rattle.net_rules.proofs.ByTables.{statements_seen, unused_seen, order_seen}
use Rattle.net_rules.proofs.Ranges.{reads_by_number, writes_by_number, channel_by_number}
use Rattle.net_rules.proofs.lines.check_lines.Goals as goal

pub returns-in_err-check_statements : goal.returns-in_err-check_statements
returns-in_err-check_statements c =
    let p = err_from_is_err_and c.from_residual-in_err-check_statements.result c.from_residual-in_err-check_statements.ensures.1 in
    let net = net_view c.args.net.now in
    let numbers = c.args.numbers in
    let one = ap (first_fault declaration_fault) (sym (ap (map declaration_view) c.as_slice-declared.ensures.value ∙ c.in_ok-lines.ensures.declared)) ∙ c.in_ok-check_declarations.ensures in
    let uses = ap (map use_view) c.as_slice-uses.ensures.value ∙ c.in_ok-lines.ensures.uses in
    let second = statements_seen net (can_read numbers) (can_write numbers) (λ name. reads_by_number numbers net c.requires.numbers name) (λ name. writes_by_number numbers net c.requires.numbers name one) ∙ ap (first_fault (use_fault_among (can_read numbers) (can_write numbers))) (sym uses) in
    rw (p.1, p.2) (broken_behind _ _ _ one (broken_first _ _ _ (subst (IsBroken _) (sym second) c.in_err-check_statements.ensures)))

pub returns-in_err-check_used : goal.returns-in_err-check_used
returns-in_err-check_used c =
    let p = err_from_is_err_and c.from_residual-in_err-check_used.result c.from_residual-in_err-check_used.ensures.1 in
    let net = net_view c.args.net.now in
    let numbers = c.args.numbers in
    let declared = ap (map declaration_view) c.as_slice-declared.ensures.value ∙ c.in_ok-lines.ensures.declared in
    let one = ap (first_fault declaration_fault) (sym declared) ∙ c.in_ok-check_declarations.ensures in
    let uses = ap (map use_view) c.as_slice-uses.ensures.value ∙ c.in_ok-lines.ensures.uses in
    let second = statements_seen net (can_read numbers) (can_write numbers) (λ name. reads_by_number numbers net c.requires.numbers name) (λ name. writes_by_number numbers net c.requires.numbers name one) ∙ ap (first_fault (use_fault_among (can_read numbers) (can_write numbers))) (sym uses) in
    let users = c.in_ok-lines.lines.users in
    let third = subst (IsBroken _) (ap (first_fault (unused_fault_by users.readers users.writers)) declared ∙ sym (unused_seen net users.readers users.writers c.in_ok-lines.ensures.readers c.in_ok-lines.ensures.writers)) c.in_err-check_used.ensures in
    rw (p.1, p.2) (broken_behind _ _ _ one (broken_behind _ _ _ (second ∙ c.in_ok-check_statements.ensures) (broken_first _ _ _ third)))

pub returns : goal.returns
returns c =
    let net = net_view c.args.net.now in
    let numbers = c.args.numbers in
    let declared = ap (map declaration_view) c.as_slice-declared.ensures.value ∙ c.in_ok-lines.ensures.declared in
    let one = ap (first_fault declaration_fault) (sym declared) ∙ c.in_ok-check_declarations.ensures in
    let uses = ap (map use_view) c.as_slice-uses.ensures.value ∙ c.in_ok-lines.ensures.uses in
    let second = statements_seen net (can_read numbers) (can_write numbers) (λ name. reads_by_number numbers net c.requires.numbers name) (λ name. writes_by_number numbers net c.requires.numbers name one) ∙ ap (first_fault (use_fault_among (can_read numbers) (can_write numbers))) (sym uses) in
    let users = c.in_ok-lines.lines.users in
    let third = unused_seen net users.readers users.writers c.in_ok-lines.ensures.readers c.in_ok-lines.ensures.writers ∙ ap (first_fault (unused_fault_by users.readers users.writers)) (sym declared) ∙ c.in_ok-check_used.ensures in
    let fourth = order_seen net users.readers users.writers c.in_ok-lines.ensures.readers c.in_ok-lines.ensures.writers (names_channel numbers) (λ name. channel_by_number numbers net c.requires.numbers name one) ∙ ap (first_fault (order_fault_by (names_channel numbers) users.writers)) (sym uses) in
    keeps_behind c.check_order.result _ _ one (keeps_behind c.check_order.result _ _ (second ∙ c.in_ok-check_statements.ensures) (keeps_behind c.check_order.result _ _ third (keeps_as c.check_order.result _ _ fourth c.check_order.ensures)))
