use Rattle.std.proofs.Common.{length, ap, ◌∙◌, arith}
use Rattle.encoding.specs.Writing.{counted_out}
use Rattle.joined_tables.proofs.TableHosts.{news_is, news_long}
use Rattle.boards.specs.SlotBoard.{slot_out, slot_rows}
use Rattle.boards.specs.Slots.{slot_fair}
use Rattle.boards.proofs.slot_host.SlotBoardDocumentHost.update_len.Goals as goal

pub unreachable-requires : goal.unreachable-requires
unreachable-requires c = omega (arith, c.in-Err.ensures, ap (λ l. length (counted_out slot_out l)) c.by.ensures, news_long slot_rows slot_fair c.slots.result.now c.slots.ensures.sound c.args.since.now (omega (arith, c.slots.ensures.few)))

pub returns : goal.returns
returns c =
    let same = news_is slot_rows c.args.since.now c.args.self.now.slots c.slots.result.now c.slots.ensures.all c.args.self.now.sound in
    c.in-Ok.ensures.0 ∙ ap (λ l. length (counted_out slot_out l)) (c.by.ensures ∙ same)
