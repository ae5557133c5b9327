-- The numbers of the faults of bytes.
--   wire_number   the number under which a fault is known
use Rattle.std.specs.Prelude.{ℕ}
use Rattle.encoding.specs.declared.fault.WireFault.{WireFault}
use Rattle.encoding.specs.declared.fault.WireFault.TheVariants.{InvalidVarInt, EndOfBuffer, UnexpectedValue, InvalidClientId, TooManyEntries, TextTooLong}

-- the number under which a fault is known
abbrev pub wire_number : WireFault → ℕ
wire_number InvalidVarInt = 1
wire_number EndOfBuffer = 2
wire_number UnexpectedValue = 3
wire_number InvalidClientId = 4
wire_number TooManyEntries = 5
wire_number TextTooLong = 6
