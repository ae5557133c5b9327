use Rattle.std.proofs.Common.{sym, ap, ◌∙◌, is_ok}
use Rattle.std.proofs.lemmas.Result.{err_from_is_err_and}
use Rattle.joined_tables.proofs.Offered.{answered, comes_in, sound_offered}
use Rattle.boards.specs.SlotBoard.{client_of, outranks, keepable}
use Rattle.boards.proofs.slot_board.SlotBoard.offer.Goals as goal

pub invariant_of-self : goal.invariant_of-self
invariant_of-self c =
    let b = c.args.self.now in
    let after = sound_offered client_of outranks keepable 16 b.slots c.args.e b.few b.sound c.clock-held.ensures.keepable c.offer.new.self c.offer.ensures.used in
    record { few = after.0; sound = after.1 }

pub returns-in_err-offer-clause-fits : goal.returns-in_err-offer-clause-fits
returns-in_err-offer-clause-fits c =
    let b = c.args.self.now in
    ap is_ok (err_from_is_err_and c.from_residual.result c.from_residual.ensures.1).1 ∙ sym (ap is_ok c.in_err-offer.was)
    ∙ answered client_of outranks keepable 16 b.slots c.args.e b.few b.sound c.clock-held.ensures.keepable c.offer.result c.offer.ensures.answer

pub returns-clause-fits : goal.returns-clause-fits
returns-clause-fits c =
    let b = c.args.self.now in
    sym (ap is_ok c.in_ok-offer.was) ∙ answered client_of outranks keepable 16 b.slots c.args.e b.few b.sound c.clock-held.ensures.keepable c.offer.result c.offer.ensures.answer

pub returns-clause-comes : goal.returns-clause-comes
returns-clause-comes c =
    let b = c.args.self.now in
    comes_in client_of outranks keepable 16 b.slots c.args.e b.few b.sound c.clock-held.ensures.keepable c.offer.result c.offer.new.self c.offer.ensures.answer c.offer.ensures.used (ap is_ok c.in_ok-offer.was)
