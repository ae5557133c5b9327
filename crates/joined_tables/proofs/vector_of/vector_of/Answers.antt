use Rattle.std.proofs.Common.{◌≡◌, ◌+◌, map, length, drop, sym, ap, ◌∙◌, arith}
use Rattle.state_vector.specs.Tables.{always, entered, row}
use Rattle.state_vector.specs.Vector.{client_of, taken}
use Rattle.state_vector.proofs.Entering.{length_entered}
use Rattle.state_vector.proofs.Rows.{updates_keep}
use Rattle.state_vector.proofs.Vectors.{taken_known}
use Rattle.joined_tables.proofs.Vectors.{next_is, known_next}
use Rattle.joined_tables.proofs.vector_of.vector_of.Goals as goal

pub loop-e-init : goal.loop-e-init
loop-e-init g c = rw c.new-vector.ensures (record { few = omega arith; known = c.requires.known; same = (updates_keep client_of).ascending_stays (map g.E.InVector.tells c.args.entries.now) c.requires.ascends })

pub loop-e-preserved : goal.loop-e-preserved
loop-e-preserved g c =
    let f = g.E.InVector.tells in
    let xs = c.args.entries.now in
    let i = c.loop-e.e-index in
    let x = c.e-item.result in
    let v = c.loop-e.vector in
    let k = known_next f xs i x c.loop-e-test.true c.e-item.is c.loop-e.invariant.known in
    let came : c.put.new.self ≡ entered client_of always v (f x) = c.put.ensures.used ∙ ap (taken v) c.vector_entry.ensures ∙ taken_known v (f x) k.0 (omega arith) in
    record {
      few = omega (arith, ap length came, length_entered client_of always v (f x));
      known = k.1;
      same = ap (λ ys. row client_of always ys (map f (drop (i + 1) xs))) came ∙ sym (ap (row client_of always v) (next_is f xs i x c.loop-e-test.true c.e-item.is)) ∙ c.loop-e.invariant.same;
    }
