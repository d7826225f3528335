use Rattle.std.proofs.Common.{map, false, sym, ap, ◌∙◌}
use Rattle.net_tree.specs.View.{net_view, process_view}
use Rattle.net_rules.specs.Numbers.{block_with, numbered}
use Rattle.net_rules.specs.Rules.{first_fault, declarations, statements, declaration_fault, statement_fault, unused_fault, order_fault, joins_from, sure_reads_from}
use Rattle.net_rules.specs.Known.{number_by}
use Rattle.net_rules.proofs.Declaring.{keeps_as}
use Rattle.net_rules.proofs.CheckedNets.{last_kept, same_numbers, same_bodies}
use Rattle.net_rules.proofs.accepted.check_rules.Goals as goal

pub returns : goal.returns
returns c =
    let net = net_view c.args.net.now in
    let table = c.args.numbers.table.now in
    let other = c.args.numbers.other in
    let f = number_by table other in
    let same = same_numbers net table other c.requires.numbers.names c.requires.numbers.other in
    let slice = c.as_slice-processes.ensures.value in
    last_kept c.check_joins.result (first_fault declaration_fault (declarations net)) (first_fault (statement_fault net) (statements net)) (first_fault (unused_fault net) (declarations net)) (first_fault (order_fault net) (statements net)) (sure_reads_from 0 net.processes) (joins_from (λ name. false) 0 (numbered net).processes) c.in_ok-check_lines.ensures
    (ap (λ l. sure_reads_from 0 (map process_view l)) (sym slice) ∙ c.in_default.ensures)
    (keeps_as c.check_joins.result _ _
    (ap (joins_from (λ name. false) 0) (sym (same_bodies net table other same)) ∙ ap (λ l. joins_from (λ name. false) 0 (map (λ process. block_with f process.body) (map process_view l))) (sym slice))
    c.check_joins.ensures)
