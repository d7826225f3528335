use Rattle.std.proofs.Common.{◌≡◌, List, [], ◌∷◌, ◌++◌, ap, sym, ◌∙◌}
use Rattle.tis_words.specs.Words.{Words}
use Rattle.net_tree.specs.Tree.{If}
use Rattle.net_tree.specs.NetText.{line_text, lines_text, block_lines, inner_lines, else_lines, end_line}
use Rattle.net_tree.specs.View.{block_view, statement_view}
use Rattle.net_tree.proofs.Views.{if_seen}
use Rattle.net_tree.proofs.Writing.{on_ok, closed_is, branches_are, statement_written, block_written}
use Rattle.net_tree.proofs.write.+write.Goals as goal

pub push_block-statements-preserved : goal.push_block-statements-preserved
push_block-statements-preserved t c =
    statement_written c.as_slice-numbered-items.result.now c.statements.numbered-index c.numbered-item.result c.args.out.now.items c.statements.out.items c.push_statement.new.out.items c.statements-test.true c.numbered-item.is c.statements.invariant c.in_ok-push_statement.ensures

pub push_block-returns : goal.push_block-returns
push_block-returns t c =
    block_written c.args.block.now c.as_slice-numbered-items.result.now c.statements.numbered-index c.args.out.now.items c.statements.out.items c.as_slice-numbered-items.ensures c.statements-test.false c.statements.invariant

pub push_closed-returns : goal.push_closed-returns
push_closed-returns t c =
    on_ok (c.push_one.new.out.items ≡ c.push_block.new.out.items ++ line_text end_line) (c.push_one.new.out.items ≡ c.args.out.now.items ++ lines_text (block_lines (block_view c.args.block.now) ++ end_line ∷ [])) c.push_one.result
    (λ last. closed_is c.args.out.now.items c.push_block.new.out.items c.push_one.new.out.items (block_lines (block_view c.args.block.now)) end_line c.in_ok-push_block.ensures last)
    c.push_one.ensures

pub push_inner-returns-in_ok-push_else-in-If : goal.push_inner-returns-in_ok-push_else-in-If
push_inner-returns-in_ok-push_else-in-If t c =
    let seen : statement_view c.args.statement.now ≡ If c.in-If.field-0 c.in-If.field-1 (block_view c.in-If.first) (block_view c.in-If.second) = ap statement_view c.in-If.is ∙ if_seen c.in-If.field-0 c.in-If.field-1 c.in-If.first c.in-If.second in
    let lines : inner_lines (statement_view c.args.statement.now) ≡ (block_lines (block_view c.in-If.first) ++ else_lines (block_view c.in-If.second)) ++ end_line ∷ [] = ap inner_lines seen in
    on_ok (c.push_one.new.out.items ≡ c.push_else.new.out.items ++ line_text end_line) (c.push_one.new.out.items ≡ c.args.out.now.items ++ lines_text (inner_lines (statement_view c.args.statement.now))) c.push_one.result
    (λ last.
    branches_are c.args.out.now.items c.push_block.new.out.items c.push_else.new.out.items c.push_one.new.out.items (block_lines (block_view c.in-If.first)) (else_lines (block_view c.in-If.second)) end_line c.in_ok-push_block-in-If.ensures c.in_ok-push_else-in-If.ensures last
    ∙ ap (λ (l : List Words). c.args.out.now.items ++ lines_text l) (sym lines))
    c.push_one.ensures
