use Rattle.std.proofs.Common.{ℕ, List, cond, Some, ap, ◌∙◌}
use Rattle.std.specs.Str.{bytes_eq}
use Rattle.net_rules.specs.Tables.{value_of}
use Rattle.net_rules.proofs.Tables.{seen, updated, looked_up}
use Rattle.net_rules.proofs.names.NameTable.replace.Goals as goal

pub returns : goal.returns
returns c =
    record {
      before = c.in_ok-before.ensures.old ∙ looked_up c.self.inside.numbers.entries _ ∙ ap (value_of _) c.bytes.ensures.bytes ∙ ap (λ t. value_of t c.args.name.now) c.self.view_is;
      set = λ (other : List ℕ).
          updated c.self.inside.numbers.entries c.insert.new.self.entries c.bytes.result.now c.args.number c.in_ok-before.ensures.updates.0 other
          ∙ ap (λ (name : List ℕ). cond (bytes_eq other name) (Some c.args.number) (value_of (seen c.self.inside.numbers.entries) other)) c.bytes.ensures.bytes
          ∙ ap (λ t. cond (bytes_eq other c.args.name.now) (Some c.args.number) (value_of t other)) c.self.view_is;
    }
