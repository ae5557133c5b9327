use Rattle.std.proofs.Common.{rules}
use Rattle.encoding.proofs.Fillings.{lent_stood}
use Rattle.encoding.proofs.entries_out.Chosen.fill.Goals as goal

pub returns : goal.returns
returns g c = (c.in_ok-len.ensures.0, lent_stood _ c.put_counted.new.sink _ _ tt c.in_ok-put_counted.ensures (search rules))
