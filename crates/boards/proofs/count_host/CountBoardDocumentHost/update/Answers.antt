use Rattle.std.proofs.Common.{take, subst, ◌∙◌}
use Rattle.encoding.specs.TwoSinks.{Filled}
use Rattle.encoding.specs.Writing.{counted_out}
use Rattle.joined_tables.proofs.TableHosts.{news_is}
use Rattle.boards.specs.CountBoard.{count_out, count_rows}
use Rattle.boards.proofs.count_host.CountBoardDocumentHost.update.Goals as goal

pub returns : goal.returns
returns c =
    let same = news_is count_rows c.args.since.now (take c.args.self.now.len c.args.self.now.counts) c.counts.result.now c.counts.ensures.all c.args.self.now.sound in
    subst (λ l. Filled c.args.out.now 0 (counted_out count_out l) c.fill.result c.fill.new.out) (c.by.ensures ∙ same) c.fill.ensures
