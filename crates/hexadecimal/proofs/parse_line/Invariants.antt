use Rattle.std.proofs.Common.{vec_items}
use Rattle.hexadecimal.proofs.Steps.{Kept}
use Rattle.hexadecimal.proofs.parse_line.Given as goal

-- the bytes so far and what is left give the line's answer
abbrev pub invariant-loop-i : goal.invariant-loop-i
invariant-loop-i l = Kept l.line l.i l.half (vec_items l.bytes)
