use Rattle.std.proofs.Common.{ℕ, ap, sym, ◌∙◌}
use Rattle.net_tree.specs.Tree.{Block, Empty}
use Rattle.net_rules.specs.CheckedNet.{net_of}
use Rattle.net_rules.specs.Numbers.{numbered}
use Rattle.net_rules.specs.Sizes.{held_count}
use Rattle.net_select.specs.Selection.{block_lines}
use Rattle.net_select.proofs.Counting.{lines_held}
use Rattle.net_select.proofs.Processes.{body_is}
use Rattle.net_select.proofs.selection.lines_of.Goals as goal

pub returns : goal.returns
returns c =
    c.block_lines.ensures ∙ ap (λ (b : Block ℕ). held_count (block_lines b)) (sym (body_is (numbered (net_of c.args.net.now)).processes c.args.process Empty _ c.process.ensures))
    ∙ lines_held (net_of c.args.net.now) c.args.process c.requires.checked.small.statements
