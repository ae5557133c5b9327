-- The examples of a count board, computed.
use Rattle.std.proofs.Common.{refl}
use Rattle.encoding.specs.declared.fault.WireFault.TheVariants.{InvalidVarInt, EndOfBuffer, UnexpectedValue, InvalidClientId, TooManyEntries}
use Rattle.encoding.specs.Writing.{spelt, shortest}
use Rattle.boards.specs.CountLaws.{CountExamples}

pub count_examples : CountExamples
unfolding shortest spelt
count_examples = record {
  sends = refl;
  a_number_past_its_width = (InvalidVarInt, refl, refl);
  cut = (EndOfBuffer, refl, refl);
  left_over = (UnexpectedValue, refl, refl);
  large_client = (InvalidClientId, refl, refl);
  many_entries = (TooManyEntries, refl, refl);
}
