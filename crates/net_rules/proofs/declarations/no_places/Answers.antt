use Rattle.std.proofs.Common.{false}
use Rattle.std.proofs.lemmas.List.{get_or-replicate}
use Rattle.net_rules.proofs.declarations.no_places.Goals as goal

pub returns : goal.returns
returns c = λ position below. get_or-replicate 256 position false false below
