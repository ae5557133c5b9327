use Rattle.encoding.proofs.Backs.{never_longer}
use Rattle.encoding.proofs.laws.never_longer.Goals as goal

pub returns : goal.returns
returns c = never_longer
