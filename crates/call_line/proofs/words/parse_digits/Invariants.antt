use Rattle.std.proofs.Common.{◌≡◌, drop}
use Rattle.call_line.specs.Words.{digits_from, number}
use Rattle.call_line.proofs.words.parse_digits.Given as goal

-- the digits that are left say the rest
abbrev pub invariant-loop-c : goal.invariant-loop-c
invariant-loop-c l = number l.word ≡ digits_from l.value (drop l.c-index l.word)
