-- What C is told of a call: numbers in place of answers.
--   number_of     a refusal's number, and 0 where the call is done
--   Answered      a call is answered so, and C is told its number
--   handled_told, changes_told, told_or   what stands in the caller's place for the answer
--   shown_told, text_told    what is told of what is held of a client, and where its text stands
--   unmade        the number of a call where no hub was made
use Rattle.std.specs.Prelude.{◌≡◌, ℕ, true, false, cond, length, List, Some, None, Option, Ok, Err, Result, nat_le}
use Rattle.awareness.specs.declared.summary.AwarenessUpdateSummary.{AwarenessUpdateSummary}
use Rattle.awareness.specs.Record.{Record}
use Rattle.calls.specs.declared.answer.Handled.{Handled}
use Rattle.calls.specs.declared.answer.Refusal.{Refusal}
use Rattle.calls.specs.declared.fault.Fault.TheVariants.{Buffer}
use Rattle.calls.specs.Faults.{fault_number, fault_wire}
use Rattle.calls.specs.Refusals.{alone}
use Rattle.encoding.specs.TwoSinks.{stood}
use Rattle.hub_c.specs.declared.told.HubHandled.{HubHandled}
use Rattle.hub_c.specs.declared.told.HubChanges.{HubChanges}
use Rattle.hub_c.specs.declared.told.HubRecord.{HubRecord}

-- the number of a refusal, and 0 where the call is done
abbrev pub number_of : {X : Type 0} → Result X Refusal → ℕ
number_of (Ok x) = 0
number_of (Err x) = fault_number x.fault

-- a call is answered so, and C is told its number
pub record Answered {X : Type 0} (n : ℕ) (Pins : Result X Refusal → Type 0) : Type 0 where
  pub answer : Result X Refusal
  pub number : n ≡ number_of answer
  pub pins : Pins answer

-- the number of a call where no hub was made: the memory holds none
abbrev pub unmade : ℕ
unmade = 14

-- a number that may be none, which C is told as 0
abbrev pub or_0 : Option ℕ → ℕ
or_0 None = 0
or_0 (Some n) = n

-- how far a handle came
abbrev pub handled_told : Result Handled Refusal → HubHandled
handled_told (Ok d) = record { messages = d.messages; place = d.place; replies = d.replies; wire = 0 }
handled_told (Err x) = record { messages = x.message; place = x.place; replies = x.replies; wire = or_0 (fault_wire x.fault) }

-- the lengths of the four lists; a refusal leaves the caller's place as it was
abbrev pub changes_told : HubChanges → Result AwarenessUpdateSummary Refusal → HubChanges
changes_told old (Ok n) = record { added = n.added; updated = n.updated; changed = n.changed; removed = n.removed }
changes_told old (Err x) = old

-- what a call answers, likewise
abbrev pub told_or : {X : Type 0} → X → Result X Refusal → X
told_or old (Ok x) = x
told_or old (Err x) = old

-- a record of this client that shows nothing
abbrev pub null_told : Record → HubRecord
null_told r = record { time = r.time; clock = r.clock; held = true; live = false; text = 0 }

-- a record whose text finds room, or the refusal where it does not
abbrev pub live_told : ℕ → Record → List ℕ → Result HubRecord Refusal
live_told room r bs = cond (nat_le (length bs) room) (Ok (record { time = r.time; clock = r.clock; held = true; live = true; text = length bs })) (Err (alone Buffer))

abbrev pub record_told : ℕ → Record → Option (List ℕ) → Result HubRecord Refusal
record_told room r None = Ok (null_told r)
record_told room r (Some bs) = live_told room r bs

-- what is held of a client, with room for so many bytes of its text
abbrev pub held_told : ℕ → Option Record → Result HubRecord Refusal
held_told room None = Ok (record { time = 0; clock = 0; held = false; live = false; text = 0 })
held_told room (Some r) = record_told room r r.state

abbrev pub shown_told : ℕ → Result (Option Record) Refusal → Result HubRecord Refusal
shown_told room (Ok o) = held_told room o
shown_told room (Err x) = Err x

-- the text stands at the front of the buffer where it is told of
abbrev pub put_text : List ℕ → Option (List ℕ) → List ℕ
put_text old None = old
put_text old (Some bs) = cond (nat_le (length bs) (length old)) (stood old 0 bs) old

abbrev pub held_text : List ℕ → Option Record → List ℕ
held_text old None = old
held_text old (Some r) = put_text old r.state

abbrev pub text_told : List ℕ → Result (Option Record) Refusal → List ℕ
text_told old (Ok o) = held_text old o
text_told old (Err x) = old
