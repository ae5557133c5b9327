use Rattle.std.proofs.Common.{leb, length, is_ok, Some, sym, ap, ◌∙◌, subst}
use Rattle.std.proofs.lemmas.Bool.{le-leb}
use Rattle.std.proofs.lemmas.Result.{err_from_is_err_and}
use Rattle.encoding.specs.Entries.{entries, Steps}
use Rattle.joined_tables.proofs.Steps.{no_room, gathered_all}
use Rattle.joined_tables.proofs.TableHosts.{table_within}
use Rattle.boards.specs.SlotBoard.{Plain, client_of, outranks, keepable, slot_in, slot_rows, Board, board}
use Rattle.boards.proofs.slot_board.SlotBoard.join.Goals as goal

pub returns-in_err-offer-clause-fits : goal.returns-in_err-offer-clause-fits
returns-in_err-offer-clause-fits c =
    let it = c.loop-e.e-iterator in
    let then = c.next.new.self in
    let due = entries slot_in it.left it.rest.now in
    let after = entries slot_in then.left then.rest.now in
    let step = subst (λ r. Steps {E = Plain} (λ e. e) (λ _. Unit {0}) due (Some r) after then.rest.now) c.unwrap.ensures c.in-Some.ensures.steps in
    ap is_ok (err_from_is_err_and c.from_residual.result c.from_residual.ensures.1).1
    ∙ sym (no_room client_of outranks keepable c.unwrap.result due after c.loop-e.invariant.readable step.0 16 (board c.loop-e.self.slots) _ c.loop-e.invariant.same (sym c.in_err-offer.ensures.fits))

pub returns-clause-fits : goal.returns-clause-fits
returns-clause-fits c =
    let b = c.loop-e.self in
    let it = c.loop-e.e-iterator in
    let is = sym c.loop-e.invariant.same ∙ gathered_all client_of outranks keepable (entries slot_in it.left it.rest.now) _ (board b.slots) c.in-None.ensures.steps.0 in
    sym (ap (λ (d : Board). leb (length d.0) 16) is ∙ le-leb _ 16 (table_within slot_rows 16 b.slots b.few b.sound))
