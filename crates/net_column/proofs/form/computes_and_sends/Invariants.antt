use Rattle.std.proofs.Common.{◌≡◌, drop}
use Rattle.net_tree.specs.Tree.{statements_of}
use Rattle.net_numbered.specs.View.{numbered_block}
use Rattle.net_column.specs.Column.{computes_and_sends}
use Rattle.net_column.proofs.form.computes_and_sends.Given as goal

abbrev pub invariant-statements : goal.invariant-statements
invariant-statements l = computes_and_sends l.written (drop 1 (statements_of (numbered_block l.body))) ≡ computes_and_sends l.written (drop l.index (statements_of (numbered_block l.body)))
