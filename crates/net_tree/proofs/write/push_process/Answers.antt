use Rattle.std.proofs.Common.{◌≡◌, ◌++◌}
use Rattle.net_tree.specs.NetText.{line_text, lines_text, process_line, process_lines, block_lines, end_line}
use Rattle.net_tree.specs.View.{block_view, process_view}
use Rattle.net_tree.proofs.Writing.{on_ok, process_is}
use Rattle.net_tree.proofs.write.push_process.Goals as goal

pub returns : goal.returns
returns c =
    on_ok (c.push_one.new.out.items ≡ c.push_block.new.out.items ++ line_text end_line) (c.push_one.new.out.items ≡ c.args.out.now.items ++ lines_text (process_lines (process_view c.args.process.now))) c.push_one.result
    (λ last. process_is c.args.out.now.items c.push_process_line.new.out.items c.push_block.new.out.items c.push_one.new.out.items (process_line c.args.process.now.name c.args.process.now.at) (block_lines (block_view c.args.process.now.body)) end_line c.in_ok-push_process_line.ensures c.in_ok-push_block.ensures last)
    c.push_one.ensures
