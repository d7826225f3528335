use Rattle.std.proofs.Common.{ap}
use Rattle.net_rules.specs.Known.{has}
use Rattle.net_rules.proofs.declarations.Declared.new.Goals as goal

pub returns : goal.returns
returns c =
    record {
      names = λ name. ap (λ t. has t name) c.new.ensures;
      processes = λ name. ap (λ t. has t name) c.new-2.ensures;
      inputs = λ position below. c.no_places.ensures position below;
      outputs = λ position below. c.no_places-2.ensures position below;
    }
