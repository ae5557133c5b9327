use Rattle.law.proofs.laws.what_happened_is_held.Goals as goal
use Rattle.law.proofs.Keeping.{what_happened_is_held}

pub returns : goal.returns
returns g c = what_happened_is_held g.H.DocumentHost.kind g.H.DocumentHost.LIMIT g.met.H.DocumentHost.lawful
