use Rattle.std.proofs.Common.{Err, is_ok, length, take, ap, ◌∙◌, sym, arith}
use Rattle.std.proofs.lemmas.Bool.{le-leb, leb-false, leb-true}
use Rattle.std.proofs.lemmas.Result.{err_from_is_err_and}
use Rattle.encoding.specs.Entries.{entries}
use Rattle.joined_tables.specs.Whole.{wholly}
use Rattle.joined_tables.proofs.TableHosts.{surely_fits}
use Rattle.joined_tables.proofs.TableLaws.{takes_it, too_large}
use Rattle.boards.specs.CountBoard.{count_in, count_rows, board}
use Rattle.boards.specs.Counts.{count_fair}
use Rattle.boards.proofs.count_host.CountBoardDocumentHost.take.Goals as goal

pub overflow_add-counts : goal.overflow_add-counts
overflow_add-counts c = omega (arith, c.in_ok-update.ensures.few, c.counts.ensures.few)

pub unwrap-requires : goal.unwrap-requires
unwrap-requires c =
    let b = c.args.self.now in
    let u = c.in_ok-update.update in
    c.join.ensures.fits ∙ le-leb _ 64 (surely_fits count_rows 64 (take b.len b.counts) u.left u.rest.now b.sound (omega (arith, ap length c.counts.ensures.all, c.if-counts-update.true)))

pub returns-then-counts-update : goal.returns-then-counts-update
returns-then-counts-update c =
    let u = c.in_ok-update.update in
    let t = takes_it count_rows count_fair 64 (board (take c.args.self.now.len c.args.self.now.counts)) c.args.bytes.now (wholly (entries count_in u.left u.rest.now)) c.in_ok-update.ensures.reads c.in_ok-update.ensures.whole (leb-true _ 64 (sym c.join.ensures.fits ∙ ap is_ok c.unwrap.ensures)) in
    record { answer = t.0; document = (rw c.unwrap.ensures at c.join.ensures.joins) ∙ t.1 }

pub returns-in_err-join : goal.returns-in_err-join
returns-in_err-join c =
    let u = c.in_ok-update.update in
    let p = err_from_is_err_and c.from_residual-in_err-join.result c.from_residual-in_err-join.ensures.1 in
    let t = too_large count_rows count_fair 64 (board (take c.copy-joined.result.len c.copy-joined.result.counts)) c.args.bytes.now (wholly (entries count_in u.left u.rest.now)) c.in_ok-update.ensures.reads c.in_ok-update.ensures.whole (leb-false _ 64 (sym c.in_err-join.ensures.fits)) in
    rw (← c.copy-joined.ensures) (record { answer = p.1 ∙ ap Err p.2 ∙ t.0; document = t.1 })

pub returns : goal.returns
returns c =
    let u = c.in_ok-update.update in
    let t = takes_it count_rows count_fair 64 (board (take c.copy-joined.result.len c.copy-joined.result.counts)) c.args.bytes.now (wholly (entries count_in u.left u.rest.now)) c.in_ok-update.ensures.reads c.in_ok-update.ensures.whole (leb-true _ 64 (sym c.in_ok-join.ensures.fits)) in
    rw (← c.copy-joined.ensures) (record { answer = t.0; document = c.in_ok-join.ensures.joins ∙ t.1 })
