use Rattle.std.proofs.Common.{◌≡◌, length}
use Rattle.encoding.specs.Utf8.{is_text}
use Rattle.encoding.proofs.utf8.past_parts.Given as goal

-- what is left is text exactly where the whole is
abbrev pub invariant-loop-rest : goal.invariant-loop-rest
invariant-loop-rest l = is_text l.rest ≡ is_text l.s

abbrev pub decreases-loop-rest : goal.decreases-loop-rest
decreases-loop-rest l = length l.rest
