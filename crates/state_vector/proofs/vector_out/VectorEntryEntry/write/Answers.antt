use Rattle.encoding.proofs.Sendings.{numbers_sent}
use Rattle.state_vector.proofs.vector_out.VectorEntryEntry.write.Goals as goal

pub returns : goal.returns
returns g c = numbers_sent g.S.Sink.room g.S.Sink.step _ _ _ _ _ tt c.write_var-2.result c.in_ok-write_var.ensures c.write_var-2.ensures
