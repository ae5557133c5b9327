-- Each character that is taken keeps the invariant.
use Rattle.std.proofs.Common.{arith}
use Rattle.hexadecimal.proofs.Steps.{reading}
use Rattle.hexadecimal.proofs.parse_line.Goals as goal
use Rattle.hexadecimal.proofs.parse_line.Goals.{in-Blank-None, in-Digit-None, in-Digit-Some+in_ok-push-in-Digit-Some}

pub loop-i-preserved : goal.loop-i-preserved
loop-i-preserved c = elim c.match-from.branch [
  | in-Blank-None w ↦ grind (arith, reading)
  | in-Digit-None w ↦ grind (arith, reading)
  | in-Digit-Some+in_ok-push-in-Digit-Some w ↦ grind (arith, reading)
]
