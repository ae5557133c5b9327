use Rattle.std.proofs.Common.{◌≡◌, ◌++◌}
use Rattle.encoding.specs.Writing.{shortest}
use Rattle.encoding.proofs.write.spelling.Given as goal

-- the bytes so far, and the spelling of what is left, are the whole
abbrev pub invariant-loop-high : goal.invariant-loop-high
invariant-loop-high l = l.bytes.items ++ shortest l.high ≡ shortest l.n

abbrev pub decreases-loop-high : goal.decreases-loop-high
decreases-loop-high l = l.high
