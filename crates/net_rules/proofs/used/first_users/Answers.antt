use Rattle.std.proofs.Common.{ap, sym, map, arith}
use Rattle.std.specs.Option.{option_or}
use Rattle.net_rules.specs.Tables.{value_of}
use Rattle.net_rules.specs.Found.{Use, use_view}
use Rattle.net_rules.specs.Known.{first_user}
use Rattle.net_rules.proofs.FirstUsers.{first_more}
use Rattle.net_rules.proofs.used.first_users.Goals as goal

pub uses-init : goal.uses-init
uses-init c =
    record {
      reads = λ name. ap (λ t. option_or (value_of t name) (first_user (λ found. found.read) (map use_view c.args.uses.now) name)) (sym c.new-readers.ensures);
      writes = λ name. ap (λ t. option_or (value_of t name) (first_user (λ found. found.written) (map use_view c.args.uses.now) name)) (sym c.new-writers.ensures);
    }

pub uses-preserved : goal.uses-preserved
uses-preserved c =
    record {
      reads = λ name. first_more (λ (found : Use). found.read) c.args.uses.now c.uses.found-index c.found-item.result _ _ name _ (c.uses.invariant.reads name) (omega arith) c.found-item.is (c.in_ok-note_first.ensures name);
      writes = λ name. first_more (λ (found : Use). found.written) c.args.uses.now c.uses.found-index c.found-item.result _ _ name _ (c.uses.invariant.writes name) (omega arith) c.found-item.is (c.in_ok-note_first-2.ensures name);
    }
