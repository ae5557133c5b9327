-- What each call answers and leaves, over the records of before.
--   past_end    a clock that would have to rise past 32 bits
--   room_for    room for so many records
--   rise_for    a clock that had to rise could
--   judged      whether these records can be held
--   Settled     an answer, the records then, and what entries did
--   settled_at   the records where they can be held, or else those of before
--   applied     what an update does that was read, or was not
--   apply        the same, where the caller's lists may be too short
--   set         what giving the own client a state does
--   remove      what making a client null does
--   reads_at    whether a removal reads the clock
--   ReadIf      the clock was read once, or not at all
--   summary_of   the lengths of the four lists of changes
--   lists_over   a list over the caller's places
--   all_known    each of the clients is held
--   Written      what is written, in the caller's buffer
--   listing      the update of some clients, or why there is none
use Rattle.std.specs.Prelude.{◌≡◌, ℕ, ◌^◌, ◌<◌, Bool, true, false, cond, List, [], ◌∷◌, map, filter, length, Some, None, Ok, Err, Option, Result, is_some, ◌==◌, nat_le, nat_lt}
use Rattle.std.specs.List.{list_all, list_any}
use Rattle.std.specs.Result.{result_and}
use Rattle.encoding.specs.declared.fault.WireFault.{WireFault}
use Rattle.encoding.specs.Fields.{client_id, count, presence_text}
use Rattle.encoding.specs.Reading.{Reading}
use Rattle.encoding.specs.TwoSinks.{stood}
use Rattle.message.specs.Presence.{Entry, state_of}
use Rattle.message.specs.Writing.{presence_out}
use Rattle.awareness.specs.declared.fault.AwarenessFault.{AwarenessFault}
use Rattle.awareness.specs.declared.fault.AwarenessFault.TheVariants.{Wire, Presence, Short}
use Rattle.awareness.specs.declared.fault.PresenceFault.{PresenceFault}
use Rattle.awareness.specs.declared.fault.PresenceFault.TheVariants.{TooManyClients, ClockAtEnd, ClientNotFound}
use Rattle.awareness.specs.declared.change.Change.{Change}
use Rattle.awareness.specs.Changes.{changes}
use Rattle.awareness.specs.Record.{Record, entry_of, held_of, live}
use Rattle.awareness.specs.Taking.{taken, set_to, removed, stored}

-- a held clock that has risen past 32 bits
abbrev pub past_end : Option Record → Bool
past_end None = false
past_end (Some r) = nat_le (2 ^ 32) r.clock

-- whether so many records can be held
abbrev pub room_for : List Record → Result (Unit {0}) PresenceFault
room_for rows = cond (nat_lt 64 (length rows)) (Err TooManyClients) (Ok tt)

-- whether a clock that had to rise could
abbrev pub rise_for : Option Record → Result (Unit {0}) PresenceFault
rise_for o = cond (past_end o) (Err ClockAtEnd) (Ok tt)

-- whether these records can be held, of which the clock of client c may have had to rise: room for all first, then that clock
abbrev pub judged : ℕ → List Record → Result (Unit {0}) PresenceFault
judged c rows = result_and (room_for rows) (rise_for (held_of c rows))

-- an answer, the records then, and what entries did
pub record Settled : Type 0 where
  pub answer : Result (Unit {0}) AwarenessFault
  pub rows : List Record
  pub changes : List (ℕ × Change)

-- a refusal leaves the records of before, and nothing was done
abbrev pub refused : AwarenessFault → List Record → Settled
refused f rows = record { answer = Err f; rows = rows; changes = [] }

-- the records that a call leads to, where they can be held, or else those of before
abbrev pub settled_at : Result (Unit {0}) PresenceFault → List Record → List Record → List (ℕ × Change) → Settled
settled_at (Ok u) rows then xs = record { answer = Ok u; rows = then; changes = xs }
settled_at (Err f) rows then xs = refused (Presence f) rows

-- what entries do that came at a time
abbrev pub brought : ℕ → ℕ → List Record → List Entry → Settled
brought own now rows es = let then = taken own now rows es in settled_at (judged own then) rows then (changes own now rows es)

-- what an update does that was read, or was not
abbrev pub applied : ℕ → ℕ → List Record → Reading (List Entry) → Settled
applied own now rows (Ok p) = brought own now rows p.0
applied own now rows (Err f) = refused (Wire f) rows

-- the same, where the caller's lists may not have the places
abbrev pub apply : Bool → ℕ → ℕ → List Record → Reading (List Entry) → Settled
apply enough own now rows update = cond enough (applied own now rows update) (refused Short rows)

-- a text that was judged is stored as the own state, null where it spells null
abbrev pub set_judged : Result (Unit {0}) WireFault → ℕ → ℕ → List Record → List ℕ → Settled
set_judged (Ok u) own now rows bs = let then = stored rows (set_to own now (state_of bs) (held_of own rows)) in settled_at (judged own then) rows then []
set_judged (Err f) own now rows bs = refused (Wire f) rows

-- what giving the own client a text does
abbrev pub set : ℕ → ℕ → List Record → List ℕ → Settled
set own now rows bs = set_judged (presence_text bs) own now rows bs

-- a client whose id was judged is made null
abbrev pub remove_judged : Result (Unit {0}) WireFault → ℕ → ℕ → List Record → Settled
remove_judged (Ok u) c now rows = let then = stored rows (removed c now (held_of c rows)) in settled_at (judged c then) rows then []
remove_judged (Err f) c now rows = refused (Wire f) rows

-- what making a client null does
abbrev pub remove : ℕ → ℕ → List Record → Settled
remove c now rows = remove_judged (client_id c) c now rows

-- the clock was read once, or not at all
abbrev pub ReadIf : {C : Type 0} → (C → C → Type 0) → Bool → C → C → Type 0
ReadIf leads true s t = leads s t
ReadIf leads false s t = t ≡ s

-- ids that are each below 2^53, or the fault of the first that is not
abbrev pub all_ids : List ℕ → Result (Unit {0}) WireFault
all_ids [] = Ok tt
all_ids (c ∷ cs) = result_and (client_id c) (all_ids cs)

-- each of the clients is held
abbrev pub all_known : List Record → List ℕ → Bool
all_known rows cs = list_all (λ c. is_some (held_of c rows)) cs

-- one of the numbers is this one
abbrev pub has : List ℕ → ℕ → Bool
has cs n = list_any (λ c. c == n) cs

-- the bytes of the update of some records, ascending, each once
abbrev pub update_of : (Record → Bool) → List Record → List ℕ
update_of picks rows = presence_out (map entry_of (filter picks rows))

-- the bytes of the update of all live records
abbrev pub live_update : List Record → List ℕ
live_update rows = update_of live rows

-- of clients that were judged, each has to be held
abbrev pub known : Bool → List Record → List ℕ → Result (List ℕ) AwarenessFault
known true rows cs = Ok (update_of (λ r. has cs r.client) rows)
known false rows cs = Err (Presence ClientNotFound)

-- the update of the given clients, or why there is none: at most 64 are given, their ids are judged in turn, then each has to be held
abbrev pub listing_of : Result (Unit {0}) WireFault → List Record → List ℕ → Result (List ℕ) AwarenessFault
listing_of (Err f) rows cs = Err (Wire f)
listing_of (Ok u) rows cs = known (all_known rows cs) rows cs

abbrev pub listing : List Record → List ℕ → Result (List ℕ) AwarenessFault
listing rows cs = listing_of (result_and (count (length cs)) (all_ids cs)) rows cs

-- the bytes stand at the front of the buffer, and their number is told; or they do not fit, or there are none: then the buffer is as it was
abbrev pub Written : List ℕ → Result (List ℕ) AwarenessFault → Result ℕ AwarenessFault → List ℕ → Type 0
Written old (Ok bs) (Ok n) new = (n ≡ length bs) × (new ≡ stood old 0 bs)
Written old (Ok bs) (Err f) new = (f ≡ Short) × (length old < length bs) × (new ≡ old)
Written old (Err f) r new = (r ≡ Err f) × (new ≡ old)
