use Rattle.law.proofs.laws.one_call_more_keeps_the_law.Goals as goal
use Rattle.law.proofs.Keeping.{one_call_more}

pub returns : goal.returns
returns g c = one_call_more g.H.DocumentHost.kind g.H.DocumentHost.LIMIT g.met.H.DocumentHost.lawful
