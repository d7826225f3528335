use Rattle.net_syntax.proofs.AgainText.{written_is_read}
use Rattle.net_syntax.proofs.laws.written_networks_are_read.Goals as goal

pub returns : goal.returns
returns c = written_is_read
