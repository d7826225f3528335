use Rattle.std.proofs.Common.{ℕ, sym, ap, ◌∙◌, map}
use Rattle.net_tree.specs.View.{block_view}
use Rattle.net_rules.specs.Rules.{broken_where, JoinAfterSplit}
use Rattle.net_rules.specs.Found.{use_view}
use Rattle.net_rules.specs.Numbers.{block_with}
use Rattle.net_rules.specs.Known.{number_by, names_used}
use Rattle.net_rules.proofs.Joining.{reads_found, writes_found}
use Rattle.net_rules.proofs.joins.check_process.Goals as goal

pub returns-then-joins-clause-fault : goal.returns-then-joins-clause-fault
returns-then-joins-clause-fault c =
    let f = number_by c.args.numbers.table.now c.args.numbers.other in
    let body = block_view c.args.body.now in
    let reads = reads_found f c.args.process body c.in_ok-uses.uses.items c.in_ok-uses.ensures _ (c.in_ok-used.ensures.reads ∙ ap (λ l. map f (names_used (λ u. u.read) (map use_view l))) c.as_slice.ensures.value) in
    ap (λ b. broken_where b (JoinAfterSplit c.args.process)) (sym (c.joins.ensures (block_with f body) reads) ∙ c.if-joins.true)

pub returns-clause-fault : goal.returns-clause-fault
returns-clause-fault c =
    let f = number_by c.args.numbers.table.now c.args.numbers.other in
    let body = block_view c.args.body.now in
    let reads = reads_found f c.args.process body c.in_ok-uses.uses.items c.in_ok-uses.ensures _ (c.in_ok-used.ensures.reads ∙ ap (λ l. map f (names_used (λ u. u.read) (map use_view l))) c.as_slice.ensures.value) in
    ap (λ b. broken_where b (JoinAfterSplit c.args.process)) (sym (c.joins.ensures (block_with f body) reads) ∙ c.if-joins.false)

pub returns-clause-behind : goal.returns-clause-behind
returns-clause-behind c =
    let f = number_by c.args.numbers.table.now c.args.numbers.other in
    let body = block_view c.args.body.now in
    let reads = reads_found f c.args.process body c.in_ok-uses.uses.items c.in_ok-uses.ensures _ (c.in_ok-used.ensures.reads ∙ ap (λ l. map f (names_used (λ u. u.read) (map use_view l))) c.as_slice.ensures.value) in
    let writes = writes_found f c.args.process body c.in_ok-uses.uses.items c.in_ok-uses.ensures _ (c.in_ok-used.ensures.writes ∙ ap (λ l. map f (names_used (λ u. u.written) (map use_view l))) c.as_slice.ensures.value) in
    λ (number : ℕ). c.in_ok-spread_writes.ensures (block_with f body) reads writes number
