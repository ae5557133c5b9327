use Rattle.boards.specs.Slots.{exact_slots, slots_are}
use Rattle.boards.proofs.slot_laws.slot_updates_are_as_spelt.Goals as goal

pub returns : goal.returns
returns c = record { reading = exact_slots; writing = slots_are }
