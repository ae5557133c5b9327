use Rattle.std.proofs.Common.{ℕ}
use Rattle.awareness.specs.Following.{so_far, stands}
use Rattle.awareness.specs.Record.{held_of}
use Rattle.awareness.proofs.Following.{Follows}
use Rattle.awareness.proofs.awareness.Awareness.judge_own.Given as goal

-- the own record so far has this standing, whenever the entries came
abbrev pub invariant-loop-e : goal.invariant-loop-e
invariant-loop-e l = (now : ℕ) → Follows l.self.own now l.self.rows l.update (so_far l.followed (stands (held_of l.self.own l.self.rows))) l.e-iterator
