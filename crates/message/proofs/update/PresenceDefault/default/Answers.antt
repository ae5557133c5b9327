use Rattle.std.proofs.Common.{None, refl, arith}
use Rattle.message.proofs.Sound.{state_passes}
use Rattle.message.proofs.update.PresenceDefault.default.Goals as goal

pub invariant_of-result : goal.invariant_of-result
invariant_of-result c = (omega arith, omega arith, rw c.default-3.ensures (state_passes None refl))
