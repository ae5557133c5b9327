-- The refusals of presence, with their numbers.
--   presence_number   the number of a presence fault
--   awareness_number   the number of a fault of a call
use Rattle.std.specs.Prelude.{ℕ}
use Rattle.encoding.specs.Fault.{wire_number}
use Rattle.awareness.specs.declared.fault.PresenceFault.{PresenceFault}
use Rattle.awareness.specs.declared.fault.PresenceFault.TheVariants.{TooManyClients, ClockAtEnd, ClientNotFound}
use Rattle.awareness.specs.declared.fault.AwarenessFault.{AwarenessFault}
use Rattle.awareness.specs.declared.fault.AwarenessFault.TheVariants.{Wire, Presence, Short}

-- the number under which a presence fault is known to users
abbrev pub presence_number : PresenceFault → ℕ
presence_number TooManyClients = 7
presence_number ClockAtEnd = 8
presence_number ClientNotFound = 9

-- the number of a fault of a call: of the bytes, of presence, or of the caller's places
abbrev pub awareness_number : AwarenessFault → ℕ
awareness_number (Wire f) = wire_number f
awareness_number (Presence f) = presence_number f
awareness_number Short = 14
