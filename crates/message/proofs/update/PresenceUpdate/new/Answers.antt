use Rattle.std.proofs.Common.{None, refl, arith}
use Rattle.message.proofs.Sound.{state_passes}
use Rattle.message.proofs.update.PresenceUpdate.new.Goals as goal

pub invariant_of-none : goal.invariant_of-none
invariant_of-none c = (omega arith, omega arith, state_passes None refl)
