use Rattle.message.proofs.ReadsBack.{exceptions_are_real}
use Rattle.message.proofs.laws.exceptions_are_real.Goals as goal

pub returns : goal.returns
returns c = exceptions_are_real
