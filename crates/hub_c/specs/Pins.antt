-- What each call does to a hub that ships, as the hub's own calls have it.
--   means         what such a hub means
--   Sound         what holds of a hub as C has it, before and after each call
--   made_number   the number of a call that makes a hub
--   Kept          what only handle changes
--   Carries       the law goes on with a call
--   lent, enough_in, applied_answer, settled, lists_over   of an apply, the caller's lists, whether each has its places, what it tells, does and leaves in them
--   Handling, Applied, Set, Removed, Cleaned, Shown, Listed, Asked, Started   what each call does
use Rattle.std.specs.Prelude.{◌≡◌, ℕ, ◌≤◌, Bool, true, false, ◌||◌, ◌&&◌, cond, List, length, take, map, filter, Ok, Err, Option, Result, nat_le}
use Rattle.std.specs.Result.{result_and}
use Rattle.encoding.specs.Fields.{client_id}
use Rattle.message.specs.Messages.{messages}
use Rattle.message.specs.Presence.{presence}
use Rattle.message.specs.Writing.{step1, awareness, message_out}
use Rattle.awareness.specs.Calls.{apply, listing, remove, set, Settled}
use Rattle.awareness.specs.Record.{Record, entry_of, held_of, live}
use Rattle.awareness.specs.Summaries.{lengths_of, over}
use Rattle.awareness.specs.Changes.{is_added, is_updated, is_changed, is_removed, listed}
use Rattle.awareness.specs.declared.clock.SetClock.{SetClock}
use Rattle.awareness.specs.declared.summary.AwarenessUpdateSummary.{AwarenessUpdateSummary}
use Rattle.boards.specs.CountBoard.{board, counts}
use Rattle.calls.specs.declared.answer.Handled.{Handled}
use Rattle.calls.specs.declared.answer.Refusal.{Refusal}
use Rattle.calls.specs.declared.fault.Fault.{Fault}
use Rattle.calls.specs.Faults.{fault_number}
use Rattle.calls.specs.Handling.{Hub}
use Rattle.calls.specs.Policies.{ranges_accept}
use Rattle.calls.specs.Refusals.{asked_of, lifted, row_of, sent, Put}
use Rattle.law.specs.Words.{Answer, Call, Lists, Told, applied, both, refused}
use Rattle.hub.specs.Lawful.{Keeps, HandleTold, ToldAs, done_answer, shown_answer, written_answer}
use Rattle.hub.specs.Steps.{hub_of, none_of, updates, for_policy, Handles}
use Rattle.hub_c.specs.Places.{ProductHub, hub_size}
use Rattle.hub_c.specs.Told.{number_of, shown_told, text_told, told_or}
use Rattle.hub_c.specs.declared.place.Place.{Place}
use Rattle.hub_c.specs.declared.told.HubRecord.{HubRecord}

-- what a hub that ships means
abbrev pub means : ProductHub → Hub counts
means h = hub_of counts h.presence (board (take h.host.host.len h.host.host.counts))

-- its clock's next reading, and what a reading leads to
abbrev pub next : SetClock → ℕ
next c = c.reading

abbrev pub leads : SetClock → SetClock → Type 0
leads c d = d.reading ≡ c.reading

-- a hub as C has it: it says whether one was made, and where none was and the memory is as large as a hub there is room for one
pub record Sound (made : Bool) (size : ℕ) (place : Place) : Type 0 where
  pub made_there : place.made ≡ made
  pub room_there : made ≡ false → hub_size ≤ size → place.room ≡ true

-- the number of a call that makes a hub: its id is judged first, and then whether the memory holds one or is as large
abbrev pub made_number : Bool → ℕ → Result (Hub counts) Fault → ℕ
made_number made size (Ok h) = cond (made || nat_le hub_size size) 0 14
made_number made size (Err f) = fault_number f

-- what only handle changes
pub record Kept (old new : ProductHub) : Type 0 where
  pub own : new.presence.own ≡ old.presence.own
  pub clock : new.clock.reading ≡ old.clock.reading
  pub host : new.host ≡ old.host
  pub policy : new.policy ≡ old.policy

-- the law goes on from any history to that history with the call that is told
abbrev pub Carries : ProductHub → ProductHub → (Told → Type 0) → Type 0
Carries old new Tells = Keeps counts 64 ranges_accept ranges_accept Tells (means old) (means new)

abbrev pub Tells : ProductHub → ProductHub → Call → Answer → Type 0
Tells old new call answer = Carries old new (ToldAs next leads call answer old.clock new.clock)

-- the caller's four lists
abbrev pub lent : List ℕ → List ℕ → List ℕ → List ℕ → Lists
lent a u c r = record { added = a; updated = u; changed = c; removed = r }

-- each list has 64 places
abbrev pub enough_in : Lists → Bool
enough_in l = nat_le 64 (length l.added) && (nat_le 64 (length l.updated) && (nat_le 64 (length l.changed) && nat_le 64 (length l.removed)))

-- what an apply tells: the four lists, as far as their lengths tell
abbrev pub applied_answer : Result AwarenessUpdateSummary Refusal → Lists → Answer
applied_answer (Ok n) l = applied (record { added = take n.added l.added; updated = take n.updated l.updated; changed = take n.changed l.changed; removed = take n.removed l.removed })
applied_answer (Err x) l = refused x.fault

-- messages
pub record Handling (old new : ProductHub) (bytes buffer then : List ℕ) (r : Result Handled Refusal) : Type 0 where
  pub handles : Handles next leads counts 64 ranges_accept bytes (record { hub = means old; clock = old.clock; buffer = buffer }) (record { hub = means new; clock = new.clock; buffer = then }) r
  pub host : none_of updates (messages bytes).said ≡ true → new.host ≡ old.host
  pub policy : none_of for_policy (messages bytes).said ≡ true → new.policy ≡ old.policy
  pub law : Carries old new (HandleTold next leads bytes buffer then old.clock new.clock r)

-- what an update does that comes to a hub, with these places for the lists
abbrev pub settled : ProductHub → List ℕ → Lists → Settled
settled h update places = apply (enough_in places) h.presence.own h.clock.reading h.presence.rows (presence update)

-- the four lists that it leaves, over the caller's places
abbrev pub lists_over : Settled → Lists → Lists
lists_over s places = record { added = over (listed is_added s.changes) places.added; updated = over (listed is_updated s.changes) places.updated; changed = over (listed is_changed s.changes) places.changed; removed = over (listed is_removed s.changes) places.removed }

-- an update, and the four lists that are told
pub record Applied (old new : ProductHub) (update : List ℕ) (places filled : Lists) (r : Result AwarenessUpdateSummary Refusal) : Type 0 where
  pub answer : r ≡ lifted (result_and (settled old update places).answer (Ok (lengths_of (settled old update places).changes)))
  pub rows : new.presence.rows ≡ (settled old update places).rows
  pub lists : filled ≡ lists_over (settled old update places) places
  pub kept : Kept old new
  pub law : Tells old new (Call.apply update (enough_in places)) (applied_answer r filled)

-- a text for the own client
pub record Set (old new : ProductHub) (text : List ℕ) (r : Result (Unit {0}) Refusal) : Type 0 where
  pub answer : r ≡ lifted (set old.presence.own old.clock.reading old.presence.rows text).answer
  pub rows : new.presence.rows ≡ (set old.presence.own old.clock.reading old.presence.rows text).rows
  pub kept : Kept old new
  pub law : Tells old new (Call.set text) (done_answer r)

-- a client is made null
pub record Removed (old new : ProductHub) (client : ℕ) (r : Result (Unit {0}) Refusal) : Type 0 where
  pub answer : r ≡ lifted (remove client old.clock.reading old.presence.rows).answer
  pub rows : new.presence.rows ≡ (remove client old.clock.reading old.presence.rows).rows
  pub kept : Kept old new
  pub law : Tells old new (Call.remove client) (done_answer r)

-- and the own one
pub record Cleaned (old new : ProductHub) (r : Result (Unit {0}) Refusal) : Type 0 where
  pub answer : r ≡ lifted (remove old.presence.own old.clock.reading old.presence.rows).answer
  pub rows : new.presence.rows ≡ (remove old.presence.own old.clock.reading old.presence.rows).rows
  pub kept : Kept old new
  pub law : Tells old new Call.clean (done_answer r)

-- what is held of a client, as C is told it
pub record Shown (hub : ProductHub) (client : ℕ) (old new : List ℕ) (told then : HubRecord) (n : ℕ) : Type 0 where
  pub answer : Result (Option Record) Refusal
  pub held : answer ≡ asked_of (result_and (client_id client) (Ok (held_of client hub.presence.rows)))
  pub number : n ≡ number_of (shown_told (length old) answer)
  pub told_of : then ≡ told_or told (shown_told (length old) answer)
  pub text : new ≡ text_told old answer
  pub law : Tells hub hub (Call.show client) (shown_answer answer)

-- the update of some clients
pub record Listed (hub : ProductHub) (clients old new : List ℕ) (r : Result ℕ Refusal) : Type 0 where
  pub written : Put old (row_of (listing hub.presence.rows clients)) r new
  pub law : Tells hub hub (Call.list clients (length old)) (written_answer r new)

-- the document's vector as a step 1 message
pub record Asked (hub : ProductHub) (old new : List ℕ) (r : Result ℕ Refusal) : Type 0 where
  pub written : Put old (sent (message_out (step1 (counts.vector (board (take hub.host.host.len hub.host.host.counts)))))) r new
  pub law : Tells hub hub (Call.step1 (length old)) (written_answer r new)

-- and all live records after it
pub record Started (hub : ProductHub) (old new : List ℕ) (r : Result ℕ Refusal) : Type 0 where
  pub written : Put old (sent (both (message_out (step1 (counts.vector (board (take hub.host.host.len hub.host.host.counts))))) (message_out (awareness (map entry_of (filter live hub.presence.rows)))))) r new
  pub law : Tells hub hub (Call.start (length old)) (written_answer r new)
