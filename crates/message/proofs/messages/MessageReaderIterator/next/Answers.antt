use Rattle.std.proofs.Common.{◌≡◌, ◌-◌, ◌+◌, length, sym, ap, ◌∙◌, arith}
use Rattle.message.specs.Message.{means}
use Rattle.message.specs.Messages.{next, before}
use Rattle.message.specs.Reader.{to_come, row_from}
use Rattle.message.proofs.Contents.{next_shorter}
use Rattle.message.proofs.Rows.{row_whole}
use Rattle.message.proofs.messages.MessageReaderIterator.next.Goals as goal

pub invariant_of-self : goal.invariant_of-self
invariant_of-self c =
    let l = next_shorter c.self.inside.rest.now c.in-Whole.rest.now (means c.in-Whole.message) (sym c.in-Whole.ensures) in
    let w = c.self.invariant in
    omega arith

pub returns-in-Whole-clause-steps : goal.returns-in-Whole-clause-steps
returns-in-Whole-clause-steps c =
    let s = c.self.inside.rest.now in
    let bytes = c.self.inside.bytes.now in
    let after = c.in-Whole.rest.now in
    let m = means c.in-Whole.message in
    let l = next_shorter s after m (sym c.in-Whole.ensures) in
    let w = c.self.invariant in
    let here : length bytes - length s ≡ c.place-place.result = ap (λ r. r.place) c.self.view_is ∙ sym c.place-place.ensures in
    let k : (length bytes - length s) + (length s - length after) ≡ length bytes - length after = omega arith in
    let row = ap to_come (sym c.self.view_is) ∙ row_whole _ s after m (sym c.in-Whole.ensures) ∙ ap (λ n. before (n, m) (row_from ((length bytes - length s) + (length s - length after)) after)) here
    ∙ ap (λ n. before (c.place-place.result, m) (row_from n after)) k in
    record {
      message = ap (λ r. next r.left) (sym c.self.view_is) ∙ sym c.in-Whole.ensures;
      place = c.place-place.ensures;
      further = sym k ∙ ap (λ r. r.place + (length r.left - length after)) c.self.view_is;
      row = row;
    }

pub returns-in-Whole-clause-goes : goal.returns-in-Whole-clause-goes
returns-in-Whole-clause-goes c =
    let e = ap (λ ms. length ms.said) (returns-in-Whole-clause-steps c).row in
    omega arith
