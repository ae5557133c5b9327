use Rattle.law.proofs.laws.same_verdicts_same_law.Goals as goal
use Rattle.law.proofs.Keeping.{same_verdicts_same_law}

pub returns : goal.returns
returns g c = same_verdicts_same_law g.H.DocumentHost.kind g.H.DocumentHost.LIMIT
