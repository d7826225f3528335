use Rattle.std.proofs.Common.{drop}
use Rattle.net_tree.specs.Tree.{statements_of}
use Rattle.net_numbered.specs.View.{numbered_block, numbered_statement}
use Rattle.net_column.specs.Column.{computes_and_sends}
use Rattle.net_column.proofs.Forms.{found_sending, found_computing, found_neither}
use Rattle.net_column.proofs.form.computes_and_sends.Goals as goal

pub returns-then-last-sends : goal.returns-then-last-sends
returns-then-last-sends c =
    let all = statements_of (numbered_block c.args.body.now) in
    found_sending c.args.written all c.statements.index c.len.result (numbered_statement c.at-statement.result.now) c.at-statement.ensures (computes_and_sends c.args.written (drop 1 all)) c.statements.invariant c.len.ensures c.sends_on-sends.result c.sends_on-sends.ensures c.if-last-sends.true

pub returns-then-not-is_operation : goal.returns-then-not-is_operation
returns-then-not-is_operation c =
    let all = statements_of (numbered_block c.args.body.now) in
    found_neither c.args.written all c.statements.index c.len.result (numbered_statement c.at-statement.result.now) c.at-statement.ensures (computes_and_sends c.args.written (drop 1 all)) c.statements.invariant c.len.ensures c.sends_on-sends.result c.is_operation.result c.sends_on-sends.ensures c.is_operation.ensures c.if-last-sends.false c.if-not-is_operation.true

pub statements-preserved : goal.statements-preserved
statements-preserved c =
    let all = statements_of (numbered_block c.args.body.now) in
    found_computing c.args.written all c.statements.index c.len.result (numbered_statement c.at-statement.result.now) c.at-statement.ensures (computes_and_sends c.args.written (drop 1 all)) c.statements.invariant c.len.ensures c.sends_on-sends.result c.is_operation.result c.sends_on-sends.ensures c.is_operation.ensures c.if-last-sends.false c.if-not-is_operation.false
