use Rattle.std.proofs.Common.{arith}
use Rattle.net_rules.specs.Found.{Use}
use Rattle.net_rules.specs.Known.{number_by}
use Rattle.net_rules.proofs.Joining.{next_numbers}
use Rattle.net_rules.proofs.joins.numbers_of.Goals as goal

pub uses-preserved : goal.uses-preserved
uses-preserved c =
    record {
      read = next_numbers (number_by c.args.numbers.table.now c.args.numbers.other) (λ (found : Use). found.read) c.args.uses.now c.uses.found-index c.found-item.result _ _ _ c.uses.invariant.read (omega arith) c.found-item.is c.in_ok-push_number.ensures;
      written = next_numbers (number_by c.args.numbers.table.now c.args.numbers.other) (λ (found : Use). found.written) c.args.uses.now c.uses.found-index c.found-item.result _ _ _ c.uses.invariant.written (omega arith) c.found-item.is c.in_ok-push_number-2.ensures;
    }
