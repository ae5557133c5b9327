use Rattle.std.proofs.Common.{arith}
use Rattle.encoding.proofs.Fillings.{runs_count}
use Rattle.encoding.proofs.entries_out.Chosen.measure_within.Goals as goal

pub returns : goal.returns
returns g c =
    let p = c.in_ok-put_counted.ensures in
    let n = runs_count _ c.put_counted.new.sink _ p.1 in
    (omega (arith, n.0), omega (arith, n.0, p.0))
