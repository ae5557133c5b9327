-- Messages as they are written.
--   presence_entry_out   an entry: its client id, its clock, then its text
--   presence_out        a presence update: a count, then so many entries
--   Told               what a message to be written says, by its parts
--   Readable           an entry that can be read again
--   Sound              the parts of a message can be read again
--   asks               what reading would ask of the parts
--   led                a row with bytes in front
--   drafted            the bytes of a message, where its lengths fit
--   message_out         a message as it is written, or why it is not
--   Written            a message in a buffer, or a refusal that changes nothing
use Rattle.std.specs.Prelude.{◌≡◌, ℕ, ◌-◌, ◌^◌, ◌<◌, ◌≤◌, true, List, [], ◌∷◌, ◌++◌, length, Ok, Err, Result}
use Rattle.std.specs.List.{All}
use Rattle.encoding.specs.declared.fault.WireFault.{WireFault}
use Rattle.encoding.specs.declared.write.WriteFault.{WriteFault}
use Rattle.encoding.specs.declared.write.WriteFault.TheVariants.{Short}
use Rattle.encoding.specs.Fields.{plain_text, presence_text}
use Rattle.encoding.specs.TwoSinks.{stood}
use Rattle.encoding.specs.Writing.{shortest, packed, Row, asked, buffer_out, counted_out}
use Rattle.state_vector.specs.declared.vector.VectorEntry.{VectorEntry}
use Rattle.state_vector.specs.Tables.{ascends, all_below}
use Rattle.state_vector.specs.Vector.{client_of}
use Rattle.state_vector.specs.VectorOut.{vector_out}
use Rattle.message.specs.Owned.{state_text}
use Rattle.message.specs.Presence.{Entry}

-- an entry: its client id, its clock, then its text
abbrev pub presence_entry_out : Entry → List ℕ
presence_entry_out e = shortest e.client ++ (shortest e.clock ++ packed (state_text e.state))

-- a row with bytes in front
abbrev pub led : List ℕ → Row → Row
led lead (Ok bs) = Ok (lead ++ bs)
led lead (Err f) = Err f

-- a presence update: a count, then so many entries
abbrev pub presence_out : List Entry → List ℕ
presence_out es = counted_out presence_entry_out es

-- what a message to be written says, by its parts
pub data Told : Type 0 where
  step1 : List VectorEntry → Told
  step2 : List ℕ → Told
  update : List ℕ → Told
  awareness : List Entry → Told
  denied : List ℕ → Told
  granted : Told
  query : Told
  custom : ℕ → List ℕ → Told

-- an entry that can be read again: its id, its clock and its text are within their limits
abbrev pub Readable : Entry → Type 0
Readable e = (e.client < 2 ^ 53) × (e.clock < 2 ^ 32) × (presence_text (state_text e.state) ≡ Ok tt)

-- the parts of a message can be read again: at most 64 entries that ascend by client, each within its limits
abbrev pub Sound : Told → Type 0
Sound (step1 es) = (length es ≤ 64) × (ascends client_of es ≡ true) × (all_below client_of (2 ^ 53) es ≡ true) × (all_below (λ e. e.clock) (2 ^ 32) es ≡ true)
Sound (awareness es) = (length es ≤ 64) × (ascends (λ e. e.client) es ≡ true) × All Readable es
Sound (step2 part) = Unit {0}
Sound (update part) = Unit {0}
Sound (denied reason) = Unit {0}
Sound granted = Unit {0}
Sound query = Unit {0}
Sound (custom tag part) = Unit {0}

-- what reading would ask of the parts, and their types do not answer: a reason is a text
abbrev pub asks : Told → Result (Unit {0}) WireFault
asks (step1 es) = Ok tt
asks (step2 part) = Ok tt
asks (update part) = Ok tt
asks (awareness es) = Ok tt
asks (denied reason) = plain_text reason
asks granted = Ok tt
asks query = Ok tt
asks (custom tag part) = Ok tt

-- the bytes of a message, where its lengths fit 32 bits
abbrev pub drafted : Told → Row
drafted (step1 es) = led (0 ∷ 0 ∷ []) (buffer_out (vector_out es))
drafted (step2 part) = led (0 ∷ 1 ∷ []) (buffer_out part)
drafted (update part) = led (0 ∷ 2 ∷ []) (buffer_out part)
drafted (awareness es) = led (1 ∷ []) (buffer_out (presence_out es))
drafted (denied reason) = led (2 ∷ 0 ∷ []) (buffer_out reason)
drafted granted = Ok (2 ∷ 1 ∷ [])
drafted query = Ok (3 ∷ [])
drafted (custom tag part) = led (shortest tag) (buffer_out part)

-- a message as it is written, or why it is not: what reading would ask comes first
abbrev pub message_out : Told → Row
message_out t = asked (asks t) (drafted t)

-- the bytes stand in the buffer from a place on, and their number is told; or they do not fit, or there are none: then the buffer is as it was
abbrev pub Written : List ℕ → ℕ → Row → Result ℕ WriteFault → List ℕ → Type 0
Written old at (Ok bs) (Ok n) new = (n ≡ length bs) × (new ≡ stood old at bs)
Written old at (Ok bs) (Err f) new = (f ≡ Short) × (length old - at < length bs) × (new ≡ old)
Written old at (Err f) r new = (r ≡ Err f) × (new ≡ old)
