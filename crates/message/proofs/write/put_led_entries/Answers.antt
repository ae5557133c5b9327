use Rattle.std.proofs.Common.{subst}
use Rattle.encoding.specs.Writing.{buffer_out, counted_out, Writes, told}
use Rattle.message.proofs.Sending.{led_sent}
use Rattle.message.proofs.write.put_led_entries.Goals as goal

pub returns : goal.returns
returns g c =
    let written = subst (λ es. Writes g.S.Sink.room g.S.Sink.step c.put_all.new.self (buffer_out (counted_out g.E.Entry.out es)) (told c.write_buf.result) c.write_buf.new.sink) c.all.ensures c.write_buf.ensures in
    led_sent g.S.Sink.room g.S.Sink.step _ _ _ _ _ tt c.write_buf.result c.in_ok-put_all.ensures written
