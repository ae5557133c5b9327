use Rattle.std.proofs.Common.{length, take, ap, ◌∙◌, arith}
use Rattle.encoding.specs.Writing.{counted_out}
use Rattle.joined_tables.proofs.TableHosts.{news_is, news_long}
use Rattle.boards.specs.CountBoard.{count_out, count_rows}
use Rattle.boards.specs.Counts.{count_fair}
use Rattle.boards.proofs.count_host.CountBoardDocumentHost.update_len.Goals as goal

pub unreachable-requires : goal.unreachable-requires
unreachable-requires c = omega (arith, c.in-Err.ensures, ap (λ l. length (counted_out count_out l)) c.by.ensures, news_long count_rows count_fair c.counts.result.now c.counts.ensures.sound c.args.since.now c.counts.ensures.few)

pub returns : goal.returns
returns c =
    let same = news_is count_rows c.args.since.now (take c.args.self.now.len c.args.self.now.counts) c.counts.result.now c.counts.ensures.all c.args.self.now.sound in
    c.in-Ok.ensures.0 ∙ ap (λ l. length (counted_out count_out l)) (c.by.ensures ∙ same)
