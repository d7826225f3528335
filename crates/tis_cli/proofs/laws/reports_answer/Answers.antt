use Rattle.tis_cli.proofs.Reported.{reports_answer}
use Rattle.tis_cli.proofs.laws.reports_answer.Goals as goal

pub returns : goal.returns
returns c = reports_answer
