use Rattle.std.proofs.Common.{◌≡◌}
use Rattle.encoding.specs.Entries.{entries, past}
use Rattle.encoding.proofs.entries.skip_entries.Given as goal

-- what is due ends as the whole does
abbrev pub invariant-loop-e : goal.invariant-loop-e
invariant-loop-e g l = past (entries g.E.Decode.entry l.n l.s) ≡ past (entries g.E.Decode.entry l.walk.left l.walk.rest.now)

abbrev pub decreases-loop-e : goal.decreases-loop-e
decreases-loop-e g l = l.walk.left
