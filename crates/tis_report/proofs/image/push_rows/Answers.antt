use Rattle.std.proofs.Common.{ℕ, ◌++◌, ap, ◌∙◌, le_antisymm}
use Rattle.std.specs.Prelude.{flat_map}
use Rattle.std.specs.List.{range_with_len}
use Rattle.tis_report.specs.Outputs.{row_text}
use Rattle.tis_report.proofs.Growing.{number_more}
use Rattle.tis_report.proofs.image.push_rows.Goals as goal

pub loop-y-preserved : goal.loop-y-preserved
loop-y-preserved c = number_more (row_text c.args.console.now.colours) c.args.out.now.items c.loop-y.out.items c.push_row.new.out.items c.loop-y.y c.in_ok-push_row.ensures c.loop-y.invariant

pub returns : goal.returns
returns c = c.loop-y.invariant ∙ ap (λ (n : ℕ). c.args.out.now.items ++ flat_map (row_text c.args.console.now.colours) (range_with_len 0 n)) (le_antisymm c.loop-y.auto.y-end c.loop-y-test.false)
