use Rattle.encoding.proofs.Fillings.{sinks_agree}
use Rattle.encoding.proofs.laws.sinks_agree.Goals as goal

pub returns : goal.returns
returns c = sinks_agree
