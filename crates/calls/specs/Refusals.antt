-- What calls other than handle answer, and leave in the caller's buffer.
--   alone        a refusal outside of handle
--   of_wire      a verdict on the wire among those of all layers
--   lifted       what a call of presence answers, among the answers of all layers
--   shown_of     what is held of a client, or why it can't be told
--   listing_of   the update of some clients, or why there is none
--   sent         bytes that are written, or why they are not
--   Put          bytes at the front of the caller's buffer, or a refusal that changes nothing
use Rattle.std.specs.Prelude.{◌≡◌, ℕ, ◌<◌, List, length, Ok, Err, Result}
use Rattle.encoding.specs.declared.fault.WireFault.{WireFault}
use Rattle.encoding.specs.TwoSinks.{stood}
use Rattle.encoding.specs.Writing.{Row}
use Rattle.awareness.specs.declared.fault.AwarenessFault.{AwarenessFault}
use Rattle.calls.specs.declared.answer.Refusal.{Refusal}
use Rattle.calls.specs.declared.fault.Fault.{Fault}
use Rattle.calls.specs.declared.fault.Fault.TheVariants.{Wire, Buffer}
use Rattle.calls.specs.Faults.{of_awareness, of_writing}

-- a refusal outside of handle: at no message, no byte, and without replies
abbrev pub alone : Fault → Refusal
alone f = record { fault = f; message = 0; place = 0; replies = 0 }

-- what a call of presence answers, among the answers of all layers
abbrev pub lifted : {X : Type 0} → Result X AwarenessFault → Result X Refusal
lifted (Ok x) = Ok x
lifted (Err f) = Err (alone (of_awareness f))

-- the same of a question to the wire
abbrev pub asked_of : {X : Type 0} → Result X WireFault → Result X Refusal
asked_of (Ok x) = Ok x
asked_of (Err f) = Err (alone (Wire f))

-- a row of presence, or its fault among those of all layers
abbrev pub row_of : Result (List ℕ) AwarenessFault → Result (List ℕ) Fault
row_of (Ok bs) = Ok bs
row_of (Err f) = Err (of_awareness f)

-- bytes that are written, or why they are not
abbrev pub sent : Row → Result (List ℕ) Fault
sent (Ok bs) = Ok bs
sent (Err f) = Err (of_writing f)

-- the bytes stand at the front of the buffer, and their number is told; or they do not fit, or there are none: then the buffer is as it was
abbrev pub Put : List ℕ → Result (List ℕ) Fault → Result ℕ Refusal → List ℕ → Type 0
Put old (Ok bs) (Ok n) new = (n ≡ length bs) × (new ≡ stood old 0 bs)
Put old (Ok bs) (Err x) new = (x ≡ alone Buffer) × (length old < length bs) × (new ≡ old)
Put old (Err f) r new = (r ≡ Err (alone f)) × (new ≡ old)
