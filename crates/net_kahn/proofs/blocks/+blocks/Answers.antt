use Rattle.std.proofs.Common.{◌≡◌, ◌<◌, ◌≤◌, ◌*◌, ℕ, ℤ, pos, length, true, false, sym, ap, subst, ◌∙◌, arith}
use Rattle.std.specs.Prelude.{◌-ℤ◌}
use Rattle.std.proofs.lemmas.Result.{err_from_is_err_and}
use Rattle.tis_base.specs.Saturation.{sat}
use Rattle.net_tree.specs.Tree.{statements_of}
use Rattle.net_numbered.specs.View.{numbered_block, numbered_statement}
use Rattle.net_rules.specs.Sizes.{block_size, statement_size}
use Rattle.net_rules.specs.Process.{is_positive, passes}
use Rattle.net_rules.specs.Sure.{IsSure}
use Rattle.net_kahn.specs.declared.machine.Machine.{Machine}
use Rattle.net_kahn.specs.Machines.{value_of, with_value}
use Rattle.net_kahn.proofs.Finishing.{finishes}
use Rattle.net_kahn.proofs.Walking.{smaller, sure_at, written_at, walk_begins, walk_next, walk_stops, walk_ends, ready_after, sure_again, written_again, while_next, while_stops, while_ends, natural, CountTurns, value_set, count_next, count_stops, count_ends, count_falls}
use Rattle.net_kahn.proofs.blocks.+blocks.Goals as goal

pub count_down-do_block-requires : goal.count_down-do_block-requires
count_down-do_block-requires t c =
    let body = numbered_block c.args.body.now in
    let after = c.turns.invariant.after in
    (subst (λ (n : ℕ). 2 * block_size body < n) c.decreases (omega arith), (c.turns.invariant.ready, (sure_again body c.args.machine.now c.turns.machine after c.requires.sure.1, written_again body c.args.machine.now c.turns.machine after c.requires.written)))

pub count_down-returns-in_err-do_block : goal.count_down-returns-in_err-do_block
count_down-returns-in_err-do_block t c =
    let p = err_from_is_err_and c.from_residual.result c.from_residual.ensures.1 in
    let is : is_positive (value_of c.args.var c.turns.machine) ≡ true = ap is_positive (sym c.value.ensures) ∙ sym c.passes.ensures ∙ c.turns-test.true in
    rw (p.1, p.2) (count_stops c.args.var (numbered_block c.args.body.now) c.args.machine.now c.turns.machine c.in_err-do_block.field-0.0 c.do_block.new.machine is c.in_err-do_block.ensures c.turns.invariant)

pub count_down-turns-smaller : goal.count_down-turns-smaller
count_down-turns-smaller t c =
    let body = numbered_block c.args.body.now in
    let now = c.turns.machine in
    let middle = c.do_block.new.machine in
    let is : is_positive (value_of c.args.var now) ≡ true = ap is_positive (sym c.value.ensures) ∙ sym c.passes.ensures ∙ c.turns-test.true in
    let same : value_of c.args.var c.set.new.self ≡ sat (value_of c.args.var middle -ℤ pos 1) =
    ap (value_of c.args.var) c.set.ensures ∙ value_set c.args.var c.one_less-less.result middle ∙ c.one_less-less.ensures ∙ ap (λ v. sat (v -ℤ pos 1)) c.value-in-turns.ensures in
    subst (λ (v : ℤ). natural v < natural (value_of c.args.var now)) (sym same)
    (count_falls c.args.var body now middle c.turns.invariant.ready (sure_again body c.args.machine.now now c.turns.invariant.after c.requires.sure.1) c.requires.sure.0 is c.in_ok-do_block.ensures)

pub count_down-turns-preserved : goal.count_down-turns-preserved
count_down-turns-preserved t c =
    let body = numbered_block c.args.body.now in
    let now = c.turns.machine in
    let middle = c.do_block.new.machine in
    let is : is_positive (value_of c.args.var now) ≡ true = ap is_positive (sym c.value.ensures) ∙ sym c.passes.ensures ∙ c.turns-test.true in
    let same : c.set.new.self ≡ with_value c.args.var (sat (value_of c.args.var middle -ℤ pos 1)) middle =
    c.set.ensures ∙ ap (λ v. with_value c.args.var v middle) (c.one_less-less.ensures ∙ ap (λ v. sat (v -ℤ pos 1)) c.value-in-turns.ensures) in
    subst (λ (m : Machine). CountTurns c.args.var body c.args.machine.now m) (sym same)
    (count_next c.args.var body c.args.machine.now now middle (sure_again body c.args.machine.now now c.turns.invariant.after c.requires.sure.1) is c.in_ok-do_block.ensures c.turns.invariant)

pub count_down-returns : goal.count_down-returns
count_down-returns t c =
    let is : is_positive (value_of c.args.var c.turns.machine) ≡ false = ap is_positive (sym c.value.ensures) ∙ sym c.passes.ensures ∙ c.turns-test.false in
    count_ends c.args.var (numbered_block c.args.body.now) c.args.machine.now c.turns.machine is c.turns.invariant

pub do_block-statements-init : goal.do_block-statements-init
do_block-statements-init t c = walk_begins (numbered_block c.args.block.now) c.args.machine.now c.requires.ready

pub do_block-do_statement-requires : goal.do_block-do_statement-requires
do_block-do_statement-requires t c =
    let block = numbered_block c.args.block.now in
    let statement = numbered_statement c.at.result.now in
    let now = c.statements.machine in
    let after = c.statements.invariant.after in
    let count : ℕ = length now.links.items in
    let below : 2 * statement_size statement < 2 * block_size block = omega (arith, smaller block c.statements.index statement c.at.ensures) in (
      subst (λ (n : ℕ). 2 * statement_size statement < n) c.decreases below,
      (
        c.statements.invariant.ready,
        (
          sure_at (λ name. name < count) block c.statements.index statement c.at.ensures (sure_again block c.args.machine.now now after c.requires.sure),
          written_at count block c.statements.index statement c.at.ensures (written_again block c.args.machine.now now after c.requires.written),
        ),
      ),
    )

pub do_block-returns-in_err-do_statement : goal.do_block-returns-in_err-do_statement
do_block-returns-in_err-do_statement t c =
    let p = err_from_is_err_and c.from_residual.result c.from_residual.ensures.1 in
    rw (p.1, p.2) (walk_stops (numbered_block c.args.block.now) c.statements.index (numbered_statement c.at.result.now) c.args.machine.now c.statements.machine c.at.ensures c.statements.invariant c.in_err-do_statement.field-0.0 c.do_statement.new.machine c.in_err-do_statement.ensures)

pub do_block-statements-preserved : goal.do_block-statements-preserved
do_block-statements-preserved t c =
    let block = numbered_block c.args.block.now in
    let statement = numbered_statement c.at.result.now in
    let now = c.statements.machine in
    let sure : IsSure (λ name. name < length now.links.items) statement = sure_at (λ name. name < length now.links.items) block c.statements.index statement c.at.ensures (sure_again block c.args.machine.now now c.statements.invariant.after c.requires.sure) in
    walk_next block c.statements.index statement c.args.machine.now now c.at.ensures c.statements.invariant c.do_statement.new.machine c.in_ok-do_statement.ensures
    (ready_after statement now c.do_statement.new.machine c.statements.invariant.ready sure c.in_ok-do_statement.ensures)

pub do_block-returns : goal.do_block-returns
do_block-returns t c =
    let past : length (statements_of (numbered_block c.args.block.now)) ≤ c.statements.index = subst (λ (n : ℕ). n ≤ c.statements.index) c.len-index-end.ensures c.statements-test.false in
    walk_ends (numbered_block c.args.block.now) c.statements.index c.args.machine.now c.statements.machine past c.statements.invariant

pub repeat-do_block-requires : goal.repeat-do_block-requires
repeat-do_block-requires t c =
    let body = numbered_block c.args.body.now in
    let after = c.turns.invariant.after in
    (subst (λ (n : ℕ). 2 * block_size body < n) c.decreases (omega arith), (c.turns.invariant.ready, (sure_again body c.args.machine.now c.turns.machine after c.requires.sure.1, written_again body c.args.machine.now c.turns.machine after c.requires.written)))

pub repeat-turns-smaller : goal.repeat-turns-smaller
repeat-turns-smaller t c =
    let body = numbered_block c.args.body.now in
    (finishes body c.turns.machine c.turns.invariant.ready (sure_again body c.args.machine.now c.turns.machine c.turns.invariant.after c.requires.sure.1) c.do_block.new.machine c.in_ok-do_block.ensures).fewer c.requires.sure.0

pub repeat-turns-preserved : goal.repeat-turns-preserved
repeat-turns-preserved t c =
    let body = numbered_block c.args.body.now in
    let now = c.turns.machine in
    let is : passes c.args.test (value_of c.args.var now) ≡ true = ap (passes c.args.test) (sym c.value.ensures) ∙ sym c.passes.ensures ∙ c.turns-test.true in
    while_next c.args.var c.args.test body c.args.machine.now now c.do_block.new.machine (sure_again body c.args.machine.now now c.turns.invariant.after c.requires.sure.1) is c.in_ok-do_block.ensures c.turns.invariant

pub repeat-returns-in_err-do_block : goal.repeat-returns-in_err-do_block
repeat-returns-in_err-do_block t c =
    let p = err_from_is_err_and c.from_residual.result c.from_residual.ensures.1 in
    let is : passes c.args.test (value_of c.args.var c.turns.machine) ≡ true = ap (passes c.args.test) (sym c.value.ensures) ∙ sym c.passes.ensures ∙ c.turns-test.true in
    rw (p.1, p.2) (while_stops c.args.var c.args.test (numbered_block c.args.body.now) c.args.machine.now c.turns.machine c.in_err-do_block.field-0.0 c.do_block.new.machine is c.in_err-do_block.ensures c.turns.invariant)

pub repeat-returns : goal.repeat-returns
repeat-returns t c =
    let is : passes c.args.test (value_of c.args.var c.turns.machine) ≡ false = ap (passes c.args.test) (sym c.value.ensures) ∙ sym c.passes.ensures ∙ c.turns-test.false in
    while_ends c.args.var c.args.test (numbered_block c.args.body.now) c.args.machine.now c.turns.machine is c.turns.invariant
