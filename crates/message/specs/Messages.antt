-- Messages one after another, and how their row ends.
--   Next        what stands at the front of bytes
--   next        the first message with what its buffer has to hold, or why there is none
--   Ending      how a row of messages ends
--   Messages    a row of messages, each with the place of its first byte, and its end
--   onward      a row by what stands at its front
--   messages_in  the row that bytes hold from a place on
--   messages    the row that bytes hold
--   next_is, end_is, placed_is   what the borrowing types mean
--   end_of       the end, where there is room for the whole row
use Rattle.std.specs.Prelude.{ℕ, zero, suc, ◌+◌, ◌-◌, cond, List, [], ◌∷◌, length, Some, None, Ok, Err, Option, Result, ◌==◌, nat_le}
use Rattle.encoding.specs.declared.fault.WireFault.{WireFault}
use Rattle.encoding.specs.Fault.{wire_number}
use Rattle.encoding.specs.Reading.{Reading}
use Rattle.message.specs.declared.messages.Next.{Next as Found}
use Rattle.message.specs.declared.messages.Next.TheVariants.{Whole, Ended, Cut, Refused}
use Rattle.message.specs.declared.messages.Placed.{Placed}
use Rattle.message.specs.declared.messages.End.{End}
use Rattle.message.specs.declared.messages.End.TheVariants.{Ended as EndEnded, Cut as EndCut, Refused as EndRefused}
use Rattle.message.specs.Message.{Said, means, message, contents}

-- what stands at the front of bytes: a message and the bytes after it, nothing, a message cut short, or one that is refused
pub data Next : Type 0 where
  whole : Said → List ℕ → Next
  ended : Next
  cut : Next
  refused : WireFault → Next

-- a message whose buffer was looked into
abbrev pub judged : Result (Unit {0}) WireFault → Said → List ℕ → Next
judged (Ok u) m rest = whole m rest
judged (Err f) m rest = refused f

-- a message that was read: outside of its buffer, bytes that are not there are a cut
abbrev pub found : Reading Said → Next
found (Ok p) = judged (contents p.0) p.0 p.1
found (Err f) = cond (wire_number f == 2) cut (refused f)

-- the first message with what its buffer has to hold, or why there is none
abbrev pub next : List ℕ → Next
next [] = ended
next (b ∷ bs) = found (message (b ∷ bs))

-- how a row of messages ends: with the bytes, or at the place of a message that is cut short or refused
pub data Ending : Type 0 where
  ended : Ending
  cut : ℕ → Ending
  refused : ℕ → WireFault → Ending

-- a row of messages, each with the place of its first byte, and its end
pub record Messages : Type 0 where
  pub said : List (ℕ × Said)
  pub end : Ending

-- a message in front of a row
abbrev pub before : ℕ × Said → Messages → Messages
before m ms = record { said = m ∷ ms.said; end = ms.end }

-- a row by what stands at its front, where go says how it goes on from a place
abbrev pub onward : (ℕ → List ℕ → Messages) → ℕ → List ℕ → Next → Messages
onward go place s (whole m rest) = before (place, m) (go (place + (length s - length rest)) rest)
onward go place s ended = record { said = []; end = ended }
onward go place s cut = record { said = []; end = cut place }
onward go place s (refused f) = record { said = []; end = refused place f }

-- the row that bytes hold from a place on, with so many messages at most
abbrev pub messages_in : ℕ → ℕ → List ℕ → Messages
messages_in zero place s = record { said = []; end = ended }
messages_in (suc k) place s = onward (messages_in k) place s (next s)

-- the row that bytes hold: each message takes a byte at least
unfoldable pub messages : List ℕ → Messages
messages s = messages_in (length s) 0 s

-- what the front of borrowed bytes means
abbrev pub next_is : Found → Next
next_is (Whole m rest) = whole (means m) rest.now
next_is Ended = ended
next_is Cut = cut
next_is (Refused f) = refused f

-- what a borrowed message at its place means
abbrev pub placed_is : Placed → ℕ × Said
placed_is p = (p.place, means p.message)

-- the end as it is answered
abbrev pub end_is : Ending → End
end_is ended = EndEnded
end_is (cut place) = EndCut place
end_is (refused place f) = EndRefused place f

-- the end, where there is room for the whole row
abbrev pub end_of : ℕ → Messages → Option End
end_of room ms = cond (nat_le (length ms.said) room) (Some (end_is ms.end)) None
