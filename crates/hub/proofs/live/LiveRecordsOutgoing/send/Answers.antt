use Rattle.std.proofs.Common.{subst, ap, ◌∙◌, filter, map, [], ◌∷◌}
use Rattle.encoding.specs.Writing.{buffer_out, counted_out, Writes, told}
use Rattle.message.specs.Writing.{presence_entry_out, presence_out}
use Rattle.message.proofs.Sending.{led_sent}
use Rattle.awareness.specs.Record.{entry_of, live}
use Rattle.hub.proofs.LiveOnes.{records_out}
use Rattle.hub.proofs.live.LiveRecordsOutgoing.send.Goals as goal

pub returns : goal.returns
returns g c =
    let is = ap (counted_out (λ r. presence_entry_out (entry_of r))) c.live.ensures ∙ records_out (filter live c.args.self.now.table.now.rows) in
    let written = subst (λ bs. Writes g.S.Sink.room g.S.Sink.step c.put_all.new.self (buffer_out bs) (told c.write_buf.result) c.write_buf.new.sink) is c.write_buf.ensures in
    led_sent g.S.Sink.room g.S.Sink.step c.args.sink.now c.put_all.new.self c.write_buf.new.sink (1 ∷ []) (buffer_out (presence_out (map entry_of (filter live c.args.self.now.table.now.rows)))) tt c.write_buf.result c.in_ok-put_all.ensures written
