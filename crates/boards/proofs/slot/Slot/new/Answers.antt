use Rattle.std.proofs.Common.{sym}
use Rattle.boards.proofs.MakingSlots.{made}
use Rattle.boards.proofs.slot.Slot.new.Goals as goal

pub invariant_of-result : goal.invariant_of-result
invariant_of-result c =
    rw c.copy_from_slice.ensures.after (made c.args.bytes.now (sym c.in_ok-check_bytes.ensures) c.args.client c.args.clock (sym c.in_ok-check_client_id.ensures) (sym c.in_ok-check_clock.ensures) c.ranges.clock.fits)
