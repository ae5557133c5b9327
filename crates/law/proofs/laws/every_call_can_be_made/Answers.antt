use Rattle.law.proofs.laws.every_call_can_be_made.Goals as goal
use Rattle.law.proofs.Making.{every_call_can_be_made}

pub returns : goal.returns
returns g c = every_call_can_be_made g.H.DocumentHost.kind g.H.DocumentHost.LIMIT
