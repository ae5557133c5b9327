use Rattle.awareness.proofs.Walking.{Left}
use Rattle.awareness.proofs.awareness.Awareness.take.Given as goal

-- what is still to be taken comes to what all comes to
abbrev pub invariant-loop-e : goal.invariant-loop-e
invariant-loop-e g l = Left g.O.Observer.after l.initial.self.own l.now l.initial.self.rows l.initial.update l.initial.seen l.self.own l.self.rows l.e-iterator l.seen
