-- The examples of a slot board, computed.
use Rattle.std.proofs.Common.{refl}
use Rattle.encoding.specs.declared.fault.WireFault.TheVariants.{InvalidVarInt, EndOfBuffer, UnexpectedValue, InvalidClientId, TooManyEntries, TextTooLong}
use Rattle.encoding.specs.Writing.{spelt, shortest}
use Rattle.boards.specs.SlotLaws.{SlotExamples}

pub slot_examples : SlotExamples
unfolding shortest spelt
slot_examples = record {
  sends = refl;
  a_number_past_its_width = (InvalidVarInt, refl, refl);
  cut = (EndOfBuffer, refl, refl);
  left_over = (UnexpectedValue, refl, refl);
  clock_0 = (UnexpectedValue, refl, refl);
  large_client = (InvalidClientId, refl, refl);
  many_entries = (TooManyEntries, refl, refl);
  long_slot = (TextTooLong, refl, refl);
}
