use Rattle.tis_cli.proofs.Statuses.{answers_are_one}
use Rattle.tis_cli.proofs.laws.answers_are_one.Goals as goal

pub returns : goal.returns
returns c = answers_are_one
