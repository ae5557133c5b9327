use Rattle.std.proofs.Common.{ap, ◌∙◌, length, arith}
use Rattle.encoding.proofs.Sendings.{numbers_and_buffer}
use Rattle.message.specs.Owned.{state_text}
use Rattle.message.proofs.write.PresenceEntry.write.Goals as goal

pub returns : goal.returns
returns g c =
    let e = c.state_text.ensures.says ∙ ap state_text c.state.ensures.shows in
    numbers_and_buffer g.S.Sink.room g.S.Sink.step _ _ _ _ _ _ _ _ _ _ tt tt c.write_buf.result c.client.ensures.value c.clock.ensures.value e (omega (arith, ap length e, c.state_text.ensures.short)) c.in_ok-write_var.ensures c.in_ok-write_var-2.ensures c.write_buf.ensures
