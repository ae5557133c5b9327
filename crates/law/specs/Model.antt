-- A hub as a function from call to call.
--   lists_of, told_by, showed   what is told, by changes, by a verdict, and of a record
--   Step       what a call does: its answer, the hub then, and the readings of the clock that are left
--   looked, settled, handling, removing   a call that only looks, one that comes to records, a handle, and a removal
--   vector_bytes, live_bytes, listing_fits   the bytes that are written
--   perform    a call, where these are the next readings
--   readings_if   one reading, or none
--   Made       a call was made, and took exactly the readings that are told
--   fresh      a hub before its first call
--   Runs       calls, one after another, from a fresh hub on
use Rattle.std.specs.Prelude.{◌≡◌, ℕ, Bool, ◌&&◌, true, false, is_none, List, [], ◌∷◌, ◌++◌, map, filter, Ok, Err, Option, Result, is_ok}
use Rattle.encoding.specs.declared.fault.WireFault.{WireFault}
use Rattle.encoding.specs.Fields.{client_id}
use Rattle.encoding.specs.Writing.{Row}
use Rattle.message.specs.Message.{Said}
use Rattle.message.specs.Presence.{presence}
use Rattle.message.specs.Writing.{step1 as told_step1, awareness as told_awareness, message_out}
use Rattle.awareness.specs.declared.change.Change.{Change}
use Rattle.awareness.specs.declared.fault.AwarenessFault.{AwarenessFault}
use Rattle.awareness.specs.Calls.{Settled, apply as applied_to, set as set_to, remove as removed_from, listing}
use Rattle.awareness.specs.Changes.{is_added, is_updated, is_changed, is_removed, listed}
use Rattle.awareness.specs.Record.{Record, entry_of, held_of, live}
use Rattle.document.specs.Kind.{Kind}
use Rattle.calls.specs.declared.fault.Fault.TheVariants.{Wire}
use Rattle.calls.specs.Faults.{of_awareness}
use Rattle.calls.specs.Handling.{Hub, Handling, fits, next_reading, after_reading, handle as handled_by}
use Rattle.law.specs.Words.{Call, handle, apply, set, clean, remove, step1, start, show, list, Lists, Answer, handled, applied, done, shown, refused, Told, History, wrote, both}

-- the four lists that tell of changes
abbrev pub lists_of : List (ℕ × Change) → Lists
lists_of xs = record { added = listed is_added xs; updated = listed is_updated xs; changed = listed is_changed xs; removed = listed is_removed xs }

-- what is answered, by a verdict of presence
abbrev pub told_by : Result (Unit {0}) AwarenessFault → Answer → Answer
told_by (Ok u) a = a
told_by (Err f) a = refused (of_awareness f)

-- a record, or why none can be told
abbrev pub showed : Result (Unit {0}) WireFault → Option Record → Answer
showed (Ok u) o = shown o
showed (Err f) o = refused (Wire f)

module _ (k : Kind) where
  -- what a call does: its answer, the hub then, and the readings of the clock that are left
  pub record Step : Type 0 where
    pub answer : Answer
    pub hub : Hub k
    pub left : List ℕ

  -- a call that only looks
  abbrev pub looked : Hub k → List ℕ → Answer → Step
  looked h readings a = record { answer = a; hub = h; left = readings }

  -- step 1: the document's vector
  abbrev pub vector_bytes : Hub k → Row
  vector_bytes h = message_out (told_step1 (k.vector h.document))

  -- all live records, as an awareness message
  abbrev pub live_bytes : Hub k → Row
  live_bytes h = message_out (told_awareness (map entry_of (filter live h.rows)))

  -- the update of some clients, where it fits the room
  abbrev pub listing_fits : ℕ → Result (List ℕ) AwarenessFault → Answer
  listing_fits room (Ok bs) = wrote (fits k room (Ok bs))
  listing_fits room (Err f) = refused (of_awareness f)

  module _ (limit : ℕ) (accepts : Said → Bool) where
    -- a handle, as it is told
    abbrev pub handling : Handling k limit accepts → Step
    handling x = record { answer = handled x.answer x.replies; hub = x.hub; left = x.left }

    -- a call that came to records; it may have read the clock
    abbrev pub settled : Hub k → Settled → Answer → Bool → List ℕ → Step
    settled h s a reads readings = record { answer = told_by s.answer a; hub = record { own = h.own; rows = s.rows; document = h.document }; left = after_reading k limit accepts reads readings }

    -- a client is made null; the clock is read where nothing was held of it
    abbrev pub removing : Hub k → ℕ → List ℕ → Step
    removing h c readings = let s = removed_from c (next_reading k limit accepts readings) h.rows in settled h s done (is_ok s.answer && is_none (held_of c h.rows)) readings

    -- a call, where these are the next readings
    abbrev pub perform : Hub k → List ℕ → Call → Step
    perform h readings (handle bytes room) = handling (handled_by k limit accepts room readings h bytes)
    perform h readings (apply bytes enough) = let s = applied_to enough h.own (next_reading k limit accepts readings) h.rows (presence bytes) in settled h s (applied (lists_of s.changes)) (is_ok s.answer) readings
    perform h readings (set bytes) = let s = set_to h.own (next_reading k limit accepts readings) h.rows bytes in settled h s done (is_ok s.answer) readings
    perform h readings clean = removing h h.own readings
    perform h readings (remove c) = removing h c readings
    perform h readings (step1 room) = looked h readings (wrote (fits k room (vector_bytes h)))
    perform h readings (start room) = looked h readings (wrote (fits k room (both (vector_bytes h) (live_bytes h))))
    perform h readings (show c) = looked h readings (showed (client_id c) (held_of c h.rows))
    perform h readings (list cs room) = looked h readings (listing_fits room (listing h.rows cs))

    -- one reading, where one was taken
    abbrev pub readings_if : Bool → ℕ → List ℕ
    readings_if true n = n ∷ []
    readings_if false n = []

    -- a call was made, and took exactly the readings that are told: of these and a later one, the later is left
    pub record Made (h : Hub k) (t : Told) (then : Hub k) : Type 0 where
      pub later : ℕ
      pub is : perform h (t.readings ++ later ∷ []) t.call ≡ record { answer = t.answer; hub = then; left = later ∷ [] }

    -- a hub before its first call
    abbrev pub fresh : ℕ → Hub k
    fresh own = record { own = own; rows = []; document = k.empty }

    -- calls, one after another, from a fresh hub on
    pub data Runs (own : ℕ) : History → Hub k → Type 0 where
      none : Runs own [] (fresh own)
      more : {history : History} {h : Hub k} (t : Told) (then : Hub k) → Runs own history h → Made h t then → Runs own (history ++ t ∷ []) then
