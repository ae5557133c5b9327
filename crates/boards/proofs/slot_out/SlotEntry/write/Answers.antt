use Rattle.std.proofs.Common.{arith}
use Rattle.encoding.proofs.Sendings.{numbers_and_buffer}
use Rattle.boards.specs.Slots.{parts}
use Rattle.boards.proofs.slot_out.SlotEntry.write.Goals as goal

pub returns : goal.returns
returns g c =
    let short = (parts c.args.self.now c.clock.ensures.keepable).short in
    numbers_and_buffer g.S.Sink.room g.S.Sink.step _ _ _ _ _ _ _ _ _ _ tt tt c.write_buf.result c.client.ensures c.clock.ensures.value c.bytes.ensures (omega (arith, short)) c.in_ok-write_var.ensures c.in_ok-write_var-2.ensures c.write_buf.ensures
