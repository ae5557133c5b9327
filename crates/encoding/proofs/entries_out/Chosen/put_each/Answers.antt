use Rattle.std.proofs.Common.{ℕ, ◌+◌, List, take, drop, Ok, Err, filter, sym, ap, ◌∙◌, subst}
use Rattle.std.proofs.lemmas.Result.{err_from_is_err_and}
use Rattle.encoding.specs.Writing.{row_out, Sent}
use Rattle.encoding.proofs.Chosen.{kept_no, row_yes, row_parts}
use Rattle.encoding.proofs.Sendings.{sent_then, sent_short}
use Rattle.encoding.proofs.entries_out.Chosen.put_each.Goals as goal
use Rattle.encoding.proofs.entries_out.Chosen.put_each.Goals.{then-takes_entry+in_ok-write, else-takes_entry}

pub loop-e-preserved : goal.loop-e-preserved
loop-e-preserved g c =
    let takes = g.C.Choice.takes c.self.inside.choice.now in
    let out = g.E.Entry.out in
    let xs = c.self.inside.entries.now in
    let i = c.loop-e.e-index in
    let P : g.row.S.Denot → List ℕ → Type 0 = λ sink bs. Sent g.S.Sink.room g.S.Sink.step c.args.sink.now (Ok bs) (Ok tt) sink in
    elim c.if-takes_entry.branch [
      | then-takes_entry+in_ok-write w ↦
          let k = row_yes takes xs i c.e-item.result c.loop-e-test.true c.e-item.is out (sym c.takes_entry.ensures ∙ w.if-takes_entry.true) in
          let s = sent_then g.S.Sink.room g.S.Sink.step c.args.sink.now c.loop-e.sink w.write.new.sink (row_out out (filter takes (take i xs))) (out c.e-item.result) tt (Ok tt) c.loop-e.invariant w.in_ok-write.ensures in
          subst (λ t. P t (row_out out (filter takes (take (i + 1) xs)))) (sym w.sink-is) (subst (λ bs. P w.write.new.sink bs) (sym k) s)
      | else-takes_entry w ↦
          let k = ap (row_out out) (kept_no takes xs i c.e-item.result c.loop-e-test.true c.e-item.is (sym c.takes_entry.ensures ∙ w.if-takes_entry.false)) in
          subst (λ t. P t (row_out out (filter takes (take (i + 1) xs)))) (sym w.sink-is) (subst (λ bs. P c.loop-e.sink bs) (sym k) c.loop-e.invariant)
    ]

pub returns-in_err-write : goal.returns-in_err-write
returns-in_err-write g c =
    let p = err_from_is_err_and c.from_residual.result c.from_residual.ensures.1 in
    let takes = g.C.Choice.takes c.self.inside.choice.now in
    let out = g.E.Entry.out in
    let xs = c.self.inside.entries.now in
    let i = c.loop-e.e-index in
    let k = row_yes takes xs i c.e-item.result c.loop-e-test.true c.e-item.is out (sym c.takes_entry.ensures ∙ c.if-takes_entry.true) in
    let s = sent_then g.S.Sink.room g.S.Sink.step c.args.sink.now c.loop-e.sink c.write.new.sink (row_out out (filter takes (take i xs))) (out c.e-item.result) tt (Err c.in_err-write.field-0.0) c.loop-e.invariant c.in_err-write.ensures in
    let w = sent_short g.S.Sink.room g.S.Sink.step c.args.sink.now c.write.new.sink c.write.new.sink (row_out out (filter takes (take (i + 1) xs))) (row_out out (filter takes (drop (i + 1) xs))) c.in_err-write.field-0.0 (subst (λ bs. Sent g.S.Sink.room g.S.Sink.step c.args.sink.now (Ok bs) (Err c.in_err-write.field-0.0) c.write.new.sink) (sym k) s) in
    rw p.1 (subst (λ bs. Sent g.S.Sink.room g.S.Sink.step c.args.sink.now (Ok bs) (Err p.0) c.write.new.sink) (sym (row_parts takes out xs (i + 1)) ∙ ap (row_out out) c.self.view_is) w)
