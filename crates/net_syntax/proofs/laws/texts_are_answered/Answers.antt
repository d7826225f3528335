use Rattle.net_syntax.proofs.Refused.{text_is_answered}
use Rattle.net_syntax.proofs.laws.texts_are_answered.Goals as goal

pub returns : goal.returns
returns c = text_is_answered
