use Rattle.std.proofs.Common.{◌≡◌, ◌<◌, ◌^◌, length, Some, sym, ap, ◌∙◌, subst, arith}
use Rattle.encoding.specs.Entries.{entries, Steps}
use Rattle.state_vector.specs.declared.vector.VectorEntry.{VectorEntry}
use Rattle.state_vector.specs.Tables.{always, entered}
use Rattle.state_vector.specs.Vector.{client_of, vector_entry, tabled_after}
use Rattle.state_vector.proofs.Entering.{length_entered}
use Rattle.state_vector.proofs.Vectors.{tabled_first, taken_known}
use Rattle.state_vector.proofs.vector.StateVector.read.Goals as goal

pub loop-e-preserved : goal.loop-e-preserved
loop-e-preserved c =
    let e = c.in_ok-e.field-0 in
    let xs = c.loop-e.v in
    let it = c.loop-e.e-iterator in
    let then = c.next.new.self in
    let step = subst (λ r. Steps {E = VectorEntry} (λ x. x) (λ x. x.client < 2 ^ 53) (entries vector_entry it.left it.rest.now) (Some r) (entries vector_entry then.left then.rest.now) then.rest.now) c.in_ok-e.was c.in-Some.ensures.steps in
    let fewer : then.left < it.left = (c.in-Some.ensures.goes.on tt).2 in
    let came : c.put.new.self ≡ entered client_of always xs e = c.put.ensures.used ∙ taken_known xs e step.1 (omega arith) in (
      omega (arith, ap length came, length_entered client_of always xs e),
      c.loop-e.invariant.1 ∙ ap (tabled_after xs) step.0 ∙ tabled_first xs e (entries vector_entry then.left then.rest.now) ∙ ap (λ ys. tabled_after ys (entries vector_entry then.left then.rest.now)) (sym came),
    )
