-- What is read of a message that was written.
--   said          the message that the bytes of a written one are
--   as_read        an entry as it is read again
--   OwnTag        a custom message has a tag of its own
--   Same          what the buffer of a written message holds
--   ReadsBack    the bytes of a written message read as that message
--   ExceptionsAreReal   the two exceptions are met by messages
use Rattle.std.specs.Prelude.{◌≡◌, ℕ, ◌^◌, ◌<◌, ◌≤◌, List, [], ◌∷◌, ◌++◌, map, Some, None, Ok, codes}
use Rattle.state_vector.specs.Vector.{vector}
use Rattle.state_vector.specs.VectorOut.{vector_out}
use Rattle.message.specs.Message.{Said}
use Rattle.message.specs.Messages.{whole, next}
use Rattle.message.specs.Owned.{state_text}
use Rattle.message.specs.Presence.{Entry, state_of, presence}
use Rattle.message.specs.Writing.{Told, step1, step2, update, awareness, denied, granted, query, custom, presence_out, message_out}

-- the message that the bytes of a written one are, by the bytes of its parts
abbrev pub said : Told → Said
said (step1 es) = Said.step1 (vector_out es)
said (step2 part) = Said.step2 part
said (update part) = Said.update part
said (awareness es) = Said.awareness (presence_out es)
said (denied reason) = Said.denied reason
said granted = Said.granted
said query = Said.query
said (custom tag part) = Said.custom tag part

-- an entry as it is read again: a text that spells null is none, every other state is itself
abbrev pub as_read : Entry → Entry
as_read e = record { client = e.client; clock = e.clock; state = state_of (state_text e.state) }

-- a custom message has a tag of its own: one of 8 bits that is none of 0 to 3
abbrev pub OwnTag : Told → Type 0
OwnTag (custom tag part) = (4 ≤ tag) × (tag < 2 ^ 8)
OwnTag (step1 es) = Unit {0}
OwnTag (step2 part) = Unit {0}
OwnTag (update part) = Unit {0}
OwnTag (awareness es) = Unit {0}
OwnTag (denied reason) = Unit {0}
OwnTag granted = Unit {0}
OwnTag query = Unit {0}

-- what the buffer of a written message holds: the vector, and the entries as they are read again
abbrev pub Same : Told → Type 0
Same (step1 es) = vector (vector_out es) ≡ Ok es
Same (awareness es) = presence (presence_out es) ≡ Ok (map as_read es, [])
Same (step2 part) = Unit {0}
Same (update part) = Unit {0}
Same (denied reason) = Unit {0}
Same granted = Unit {0}
Same query = Unit {0}
Same (custom tag part) = Unit {0}

-- the bytes of a written message, whatever follows them, read as that message, and its buffer holds what it was written from
pub record ReadsBack (t : Told) (bs : List ℕ) : Type 0 where
  -- but for a custom tag below 4, which has another meaning
  pub whole_message : OwnTag t → (rest : List ℕ) → next (bs ++ rest) ≡ whole (said t) rest
  -- but for a text that spells null, which is read as none
  pub same_contents : Same t

-- the two exceptions are met by messages
pub record ExceptionsAreReal : Type 0 where
  -- custom tag 3 without data is read as a query, and a byte is left
  pub low_tag : (message_out (custom 3 []) ≡ Ok (3 ∷ 0 ∷ [])) × (next (3 ∷ 0 ∷ []) ≡ whole Said.query (0 ∷ []))
  -- a text null is read as none
  pub live_null : as_read (record { client = 7; clock = 3; state = Some (codes "null") }) ≡ record { client = 7; clock = 3; state = None }
