use Rattle.std.proofs.Common.{subst, ◌∙◌}
use Rattle.encoding.specs.TwoSinks.{Filled}
use Rattle.encoding.specs.Writing.{counted_out}
use Rattle.joined_tables.proofs.TableHosts.{news_is}
use Rattle.boards.specs.SlotBoard.{slot_out, slot_rows}
use Rattle.boards.proofs.slot_host.SlotBoardDocumentHost.update.Goals as goal

pub returns : goal.returns
returns c =
    let same = news_is slot_rows c.args.since.now c.args.self.now.slots c.slots.result.now c.slots.ensures.all c.args.self.now.sound in
    subst (λ l. Filled c.args.out.now 0 (counted_out slot_out l) c.fill.result c.fill.new.out) (c.by.ensures ∙ same) c.fill.ensures
