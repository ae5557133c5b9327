use Rattle.std.proofs.Common.{arith, rules}
use Rattle.encoding.proofs.Fillings.{runs_count, lent_stood}
use Rattle.encoding.proofs.sink.fill.Goals as goal

pub returns : goal.returns
returns c =
    let n = runs_count _ c.put_all.new.self _ c.in_ok-put_all.ensures.1 in
    (omega (arith, n.0), lent_stood _ c.put_all-2.new.self _ _ tt c.in_ok-put_all-2.ensures (search rules))
