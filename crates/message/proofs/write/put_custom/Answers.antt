use Rattle.message.proofs.Sending.{led_sent}
use Rattle.message.proofs.write.put_custom.Goals as goal

pub returns : goal.returns
returns g c = led_sent g.S.Sink.room g.S.Sink.step _ _ _ _ _ tt c.write_buf.result c.in_ok-write_var.ensures c.write_buf.ensures
