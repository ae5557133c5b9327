use Rattle.std.proofs.Common.{◌^◌, ◌<◌, leb, length, take, is_ok, Some, sym, ap, ◌∙◌, subst}
use Rattle.std.proofs.lemmas.Bool.{le-leb}
use Rattle.std.proofs.lemmas.Result.{err_from_is_err_and}
use Rattle.encoding.specs.Entries.{entries, Steps}
use Rattle.joined_tables.proofs.Steps.{no_room, gathered_all}
use Rattle.boards.specs.declared.count.Count.{Count}
use Rattle.boards.specs.CountBoard.{client_of, outranks, keepable, count_in, Board, board}
use Rattle.boards.specs.Counts.{board_within}
use Rattle.boards.proofs.count_board.CountBoard.join.Goals as goal

pub returns-in_err-offer-clause-fits : goal.returns-in_err-offer-clause-fits
returns-in_err-offer-clause-fits c =
    let it = c.loop-e.e-iterator in
    let then = c.next.new.self in
    let due = entries count_in it.left it.rest.now in
    let after = entries count_in then.left then.rest.now in
    let step = subst (λ r. Steps {E = Count} (λ e. e) (λ e. (e.client < 2 ^ 53) × (e.count < 2 ^ 32)) due (Some r) after then.rest.now) c.unwrap.ensures c.in-Some.ensures.steps in
    ap is_ok (err_from_is_err_and c.from_residual.result c.from_residual.ensures.1).1
    ∙ sym (no_room client_of outranks keepable c.unwrap.result due after c.loop-e.invariant.readable step.0 64 (board (take c.loop-e.self.len c.loop-e.self.counts)) _ c.loop-e.invariant.same (sym c.in_err-offer.ensures.fits))

pub returns-clause-fits : goal.returns-clause-fits
returns-clause-fits c =
    let b = c.loop-e.self in
    let it = c.loop-e.e-iterator in
    let is = sym c.loop-e.invariant.same ∙ gathered_all client_of outranks keepable (entries count_in it.left it.rest.now) _ (board (take b.len b.counts)) c.in-None.ensures.steps.0 in
    sym (ap (λ (d : Board). leb (length d.0) 64) is ∙ le-leb _ 64 (board_within b.len b.counts b.few b.sound))
