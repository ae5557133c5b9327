-- What handling bytes does to a hub: its messages, one after another, up to the end of reading or a refusal.
--   Hub        what a hub means: its client id, its records and its document
--   Step       what a message does: a verdict, the hub then, the bytes of its reply, and whether the clock was read
--   fits       a reply, where it fits the room
--   one        one message, at a time and with so much room for its reply
--   Handling   what all messages of bytes do
--   each       the messages of a row, one after another
--   handle     the messages that bytes hold
use Rattle.std.specs.Prelude.{◌≡◌, ℕ, suc, ◌-◌, Bool, true, false, cond, List, [], ◌∷◌, ◌++◌, map, filter, length, Ok, Err, Result, is_ok, nat_le}
use Rattle.encoding.specs.declared.fault.WireFault.{WireFault}
use Rattle.encoding.specs.Writing.{Row}
use Rattle.state_vector.specs.declared.vector.VectorEntry.{VectorEntry}
use Rattle.state_vector.specs.Vector.{vector}
use Rattle.message.specs.Message.{Said, step1, step2, update, awareness, denied, granted, query, custom}
use Rattle.message.specs.Messages.{Ending, ended, cut, refused, messages}
use Rattle.message.specs.Presence.{presence}
use Rattle.message.specs.Writing.{step2 as told_step2, awareness as told_awareness, message_out}
use Rattle.awareness.specs.Calls.{Settled, applied}
use Rattle.awareness.specs.Record.{Record, entry_of, live}
use Rattle.document.specs.declared.fault.DocumentFault.{DocumentFault}
use Rattle.document.specs.Kind.{Kind}
use Rattle.document.specs.Taking.{accepts, taken}
use Rattle.awareness.specs.declared.fault.AwarenessFault.{AwarenessFault}
use Rattle.calls.specs.declared.answer.Handled.{Handled}
use Rattle.calls.specs.declared.answer.Refusal.{Refusal}
use Rattle.calls.specs.declared.fault.Fault.{Fault}
use Rattle.calls.specs.declared.fault.Fault.TheVariants.{Wire, Policy, Document, Buffer}
use Rattle.calls.specs.declared.fault.PolicyFault.TheVariants.{PermissionDenied, Unsupported}
use Rattle.calls.specs.Faults.{of_awareness}

module _ (k : Kind) where
  -- what a hub means
  pub record Hub : Type 0 where
    pub own : ℕ
    pub rows : List Record
    pub document : k.Document

  -- what a message does: the verdict on it, the hub then, the bytes of its reply, and whether the clock was read
  pub record Step : Type 0 where
    pub verdict : Result (Unit {0}) Fault
    pub hub : Hub
    pub reply : List ℕ
    pub reads : Bool

  -- nothing but the verdict
  abbrev pub judged : Hub → Result (Unit {0}) Fault → Step
  judged h v = record { verdict = v; hub = h; reply = []; reads = false }

  -- a reply where it fits the room: neither is it longer, nor is its length past 32 bits
  abbrev pub fits : ℕ → Row → Result (List ℕ) Fault
  fits room (Ok bs) = cond (nat_le (length bs) room) (Ok bs) (Err Buffer)
  fits room (Err f) = Err Buffer

  abbrev pub replied : Hub → Result (List ℕ) Fault → Step
  replied h (Ok bs) = record { verdict = Ok tt; hub = h; reply = bs; reads = false }
  replied h (Err f) = judged h (Err f)

  -- step 1 is replied to with step 2: the update for its vector
  abbrev pub asked : ℕ → Hub → Result (List VectorEntry) WireFault → Step
  asked room h (Ok v) = replied h (fits room (message_out (told_step2 (k.update h.document v))))
  asked room h (Err f) = judged h (Err (Wire f))

  -- a query is replied to with all live records
  abbrev pub queried : ℕ → Hub → Step
  queried room h = replied h (fits room (message_out (told_awareness (map entry_of (filter live h.rows)))))

  -- a verdict of presence among those of all layers
  abbrev pub of_presence : Result (Unit {0}) AwarenessFault → Result (Unit {0}) Fault
  of_presence (Ok u) = Ok u
  of_presence (Err f) = Err (of_awareness f)

  -- entries are taken at the time of the next reading
  abbrev pub settled : Hub → Settled → Step
  settled h s = record { verdict = of_presence s.answer; hub = record { own = h.own; rows = s.rows; document = h.document }; reply = []; reads = is_ok s.answer }

  -- a verdict of the host among those of all layers
  abbrev pub of_document : Result (Unit {0}) DocumentFault → Result (Unit {0}) Fault
  of_document (Ok u) = Ok u
  of_document (Err f) = Err (Document f)

  module _ (limit : ℕ) (accepted : Said → Bool) where
    -- a document update is joined
    abbrev pub joined : Hub → List ℕ → Step
    joined h part = record { verdict = of_document (accepts k limit h.document part); hub = record { own = h.own; rows = h.rows; document = taken k limit h.document part }; reply = []; reads = false }

    -- one message, at a time and with so much room for its reply
    abbrev pub one : ℕ → ℕ → Hub → Said → Step
    one room now h (step1 part) = asked room h (vector part)
    one room now h (step2 part) = joined h part
    one room now h (update part) = joined h part
    one room now h (awareness part) = settled h (applied h.own now h.rows (presence part))
    one room now h (denied reason) = judged h (cond (accepted (denied reason)) (Ok tt) (Err (Policy PermissionDenied)))
    one room now h granted = judged h (cond (accepted granted) (Ok tt) (Err (Policy PermissionDenied)))
    one room now h query = queried room h
    one room now h (custom tag part) = judged h (cond (accepted (custom tag part)) (Ok tt) (Err (Policy Unsupported)))

    -- what all messages of a row do: the answer, the hub then, the bytes of the replies, and the readings that are left
    pub record Handling : Type 0 where
      pub answer : Result Handled Refusal
      pub hub : Hub
      pub replies : List ℕ
      pub left : List ℕ

    -- so far: how many messages are done, the hub, the replies, and the readings of the clock that are to come
    pub record Sofar : Type 0 where
      pub count : ℕ
      pub hub : Hub
      pub replies : List ℕ
      pub readings : List ℕ

    -- the next reading; where there is none, no message reads one
    abbrev pub next_reading : List ℕ → ℕ
    next_reading [] = 0
    next_reading (n ∷ ns) = n

    abbrev pub after_reading : Bool → List ℕ → List ℕ
    after_reading false ns = ns
    after_reading true [] = []
    after_reading true (n ∷ ns) = ns

    -- the end of reading: with the bytes, or at a message that is cut short; or at one that is refused
    abbrev pub at_end : ℕ → Sofar → Ending → Handling
    at_end size s ended = record { answer = Ok (record { messages = s.count; place = size; replies = length s.replies }); hub = s.hub; replies = s.replies; left = s.readings }
    at_end size s (cut place) = record { answer = Ok (record { messages = s.count; place = place; replies = length s.replies }); hub = s.hub; replies = s.replies; left = s.readings }
    at_end size s (refused place f) = record { answer = Err (record { fault = Wire f; message = s.count; place = place; replies = length s.replies }); hub = s.hub; replies = s.replies; left = s.readings }

    -- after a message: the others, or its refusal
    abbrev pub onward : (Sofar → Handling) → Sofar → ℕ → Step → Handling
    onward go s place step = by step.verdict where
      by : Result (Unit {0}) Fault → Handling
      by (Ok u) = go (record { count = suc s.count; hub = step.hub; replies = s.replies ++ step.reply; readings = after_reading step.reads s.readings })
      by (Err f) = record { answer = Err (record { fault = f; message = s.count; place = place; replies = length s.replies }); hub = step.hub; replies = s.replies; left = s.readings }

    -- the messages of a row, one after another; each reply has the room that those before it left
    abbrev pub each : ℕ → ℕ → Ending → List (ℕ × Said) → Sofar → Handling
    each room size end [] s = at_end size s end
    each room size end (m ∷ ms) s = onward (each room size end ms) s m.0 (one (room - length s.replies) (next_reading s.readings) s.hub m.1)

    -- the messages that bytes hold
    abbrev pub handle : ℕ → List ℕ → Hub → List ℕ → Handling
    handle room readings h bytes = each room (length bytes) (messages bytes).end (messages bytes).said (record { count = 0; hub = h; replies = []; readings = readings })

-- the clock was read so often, each time with the reading that is told, and nothing else happened to it
abbrev pub Reads : {C : Type 0} → (C → ℕ) → (C → C → Type 0) → C → List ℕ → C → Type 0
Reads next leads c [] d = d ≡ c
Reads {C} next leads c (n ∷ ns) d = (m : C) × (n ≡ next c) × leads c m × Reads next leads m ns d
