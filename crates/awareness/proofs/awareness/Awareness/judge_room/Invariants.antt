use Rattle.std.proofs.Common.{ℕ}
use Rattle.awareness.proofs.Newcomers.{NewOnes}
use Rattle.awareness.proofs.awareness.Awareness.judge_room.Given as goal

-- the entries so far brought the new clients, whenever they came
abbrev pub invariant-loop-e : goal.invariant-loop-e
invariant-loop-e l = (now : ℕ) → NewOnes l.self.own now l.self.rows l.update l.new l.e-iterator
