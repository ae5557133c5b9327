use Rattle.std.proofs.Common.{refl, arith}
use Rattle.encoding.proofs.Fillings.{counter_runs}
use Rattle.encoding.proofs.sink.CounterSink.put_all.Goals as goal

pub returns : goal.returns
returns c = (omega arith, counter_runs _ _ _ refl refl)
