use Rattle.std.proofs.Common.{◌≡◌, ◌*◌, length, take}
use Rattle.hexadecimal.specs.Text.{spaced}
use Rattle.hexadecimal.proofs.spell.Given as goal

-- the bytes so far are spelt
abbrev pub invariant-loop-i : goal.invariant-loop-i
invariant-loop-i l = (take (3 * l.i) l.text ≡ spaced (take l.i l.bytes)) × (length l.text ≡ length l.fn.text)
