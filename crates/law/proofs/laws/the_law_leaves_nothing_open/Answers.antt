use Rattle.law.proofs.laws.the_law_leaves_nothing_open.Goals as goal
use Rattle.law.proofs.Keeping.{nothing_is_open}

pub returns : goal.returns
returns g c = nothing_is_open g.H.DocumentHost.kind g.H.DocumentHost.LIMIT g.met.H.DocumentHost.lawful
