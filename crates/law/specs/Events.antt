-- What happened to a hub, read off its calls and their answers alone.
--   Event      an entry that came, a state that was given to the own client, a client that was made null, or a document update
--   entries_in   the entries of a presence update
--   is_presence   a message is a presence update
--   first_of, rest_if   the next of the readings, and those after it where it is taken
--   said_events   what a message that was accepted brings, at a time
--   events_in   what messages bring that were accepted, one after another
--   left_after   the readings that are left after them
--   accepted   a call met no fault
--   count_in, done_count   how many messages a handle did: all before its fault, if it met one
--   call_events, events_of   what a call brings that was told
--   events     what a history brings
--   arrives, arrived_after, arrived    the entries that reached a hub; a client that was made null counts as a null above all that had arrived for it
--   highest    the highest clock that arrived for a client
--   Account    a clock and a state
--   meets, hears, puts   an account after an own entry, and after a state was put there
--   account_next, account_after, account    what the own client's events come to, one after another
--   Live, AtLeast   the account shows a text, or is at a clock or above
--   read_as, update_in, updates    the documents that updates are read as
--   all_joined   a document joined with others
--   document_of   the empty document, joined with every update
use Rattle.std.specs.Prelude.{ℕ, ◌+◌, ◌≤◌, ◌≢◌, Bool, true, false, cond, List, [], ◌∷◌, ◌++◌, map, take, max, Some, None, Ok, Err, Option, Result, ◌==◌, nat_le, nat_lt}
use Rattle.encoding.specs.declared.fault.WireFault.{WireFault}
use Rattle.message.specs.Arrived.{listed}
use Rattle.message.specs.Message.{Said, step1, step2, update, awareness, denied, granted, query, custom}
use Rattle.message.specs.Messages.{messages}
use Rattle.message.specs.Presence.{Entry, presence, state_of}
use Rattle.awareness.specs.Newest.{entry_of_client}
use Rattle.document.specs.Kind.{Kind}
use Rattle.calls.specs.declared.answer.Handled.{Handled}
use Rattle.calls.specs.declared.answer.Refusal.{Refusal}
use Rattle.law.specs.Words.{Call, handle, apply, set, clean, remove, step1 as step1_call, start, show, list, Answer, handled, applied, done, written, shown, refused, Told, History}

-- what happens to a hub
pub data Event : Type 0 where
  -- an entry of a presence update, at the reading that was taken for the update
  came : ℕ → Entry → Event
  -- a state for the own client, at a reading
  stated : ℕ → Option (List ℕ) → Event
  -- a client is made null, at a reading where nothing was held of it
  nulled : ℕ → ℕ → Event
  -- a document update, by its bytes
  joined : List ℕ → Event

-- the entries of a presence update
abbrev pub entries_in : List ℕ → List Entry
entries_in part = listed (presence part)

-- the message is a presence update
abbrev pub is_presence : Said → Bool
is_presence (awareness part) = true
is_presence (step1 part) = false
is_presence (step2 part) = false
is_presence (update part) = false
is_presence (denied reason) = false
is_presence granted = false
is_presence query = false
is_presence (custom tag part) = false

-- the next of the readings
abbrev pub first_of : List ℕ → ℕ
first_of [] = 0
first_of (n ∷ ns) = n

-- those after it, where it is taken
abbrev pub rest_if : Bool → List ℕ → List ℕ
rest_if false ns = ns
rest_if true [] = []
rest_if true (n ∷ ns) = ns

-- what a message brings that was accepted, at a time
abbrev pub said_events : ℕ → Said → List Event
said_events now (awareness part) = map (came now) (entries_in part)
said_events now (step2 part) = joined part ∷ []
said_events now (update part) = joined part ∷ []
said_events now (step1 part) = []
said_events now (denied reason) = []
said_events now granted = []
said_events now query = []
said_events now (custom tag part) = []

-- what messages bring that were accepted, one after another, each presence update at the next of the readings
abbrev pub events_in : List ℕ → List (ℕ × Said) → List Event
events_in ns [] = []
events_in ns (m ∷ ms) = said_events (first_of ns) m.1 ++ events_in (rest_if (is_presence m.1) ns) ms

-- the readings that are left after them
abbrev pub left_after : List ℕ → List (ℕ × Said) → List ℕ
left_after ns [] = ns
left_after ns (m ∷ ms) = left_after (rest_if (is_presence m.1) ns) ms

-- the messages that are done: all, or those before the one that was refused
abbrev pub count_in : Result Handled Refusal → ℕ
count_in (Ok h) = h.messages
count_in (Err r) = r.message

abbrev pub done_count : Answer → ℕ
done_count (handled r out) = count_in r
done_count (applied lists) = 0
done_count done = 0
done_count (written bs) = 0
done_count (shown o) = 0
done_count (refused f) = 0

-- a call met no fault
abbrev pub accepted : Answer → Bool
accepted (refused f) = false
accepted (handled r out) = true
accepted (applied lists) = true
accepted done = true
accepted (written bs) = true
accepted (shown o) = true

-- what a call brings that was answered so, with these readings
abbrev pub call_events : ℕ → Call → Answer → List ℕ → List Event
call_events own (handle bytes room) a ns = events_in ns (take (done_count a) (messages bytes).said)
call_events own (apply bytes enough) a ns = cond (accepted a) (map (came (first_of ns)) (entries_in bytes)) []
call_events own (set bytes) a ns = cond (accepted a) (stated (first_of ns) (state_of bytes) ∷ []) []
call_events own clean a ns = cond (accepted a) (nulled (first_of ns) own ∷ []) []
call_events own (remove c) a ns = cond (accepted a) (nulled (first_of ns) c ∷ []) []
call_events own (step1_call room) a ns = []
call_events own (start room) a ns = []
call_events own (show c) a ns = []
call_events own (list cs room) a ns = []

abbrev pub events_of : ℕ → Told → List Event
events_of own t = call_events own t.call t.answer t.readings

-- what a history brings
abbrev pub events : ℕ → History → List Event
events own [] = []
events own (t ∷ ts) = events_of own t ++ events own ts

-- the highest clock that arrived for a client, or 0
abbrev pub highest : ℕ → List Entry → ℕ
highest c [] = 0
highest c (e ∷ es) = cond (e.client == c) (max e.clock (highest c es)) (highest c es)

-- the entries that an event adds to those that arrived: its own, or for another client that was made null a null at 1 above the highest clock that had arrived for it
abbrev pub arrives : ℕ → List Entry → Event → List Entry
arrives own before (came now e) = e ∷ []
arrives own before (nulled now c) = cond (c == own) [] (entry_of_client c (highest c before + 1) None ∷ [])
arrives own before (stated now s) = []
arrives own before (joined part) = []

abbrev pub arrived_after : ℕ → List Entry → List Event → List Entry
arrived_after own before [] = before
arrived_after own before (d ∷ ds) = arrived_after own (before ++ arrives own before d) ds

-- all entries that reached a hub, in the order in which they came
abbrev pub arrived : ℕ → List Event → List Entry
arrived own ds = arrived_after own [] ds

-- a clock, and what is shown at it
pub record Account : Type 0 where
  pub clock : ℕ
  pub state : Option (List ℕ)

-- an account at clock n meets an own entry at clock m: a null not below a text only lifts its clock to one above the null, and anything else is taken where it is higher
abbrev pub meets : ℕ → Option (List ℕ) → ℕ → Option (List ℕ) → Account
meets n (Some text) m None = cond (nat_le n m) (record { clock = m + 1; state = Some text }) (record { clock = n; state = Some text })
meets n (Some text) m (Some other) = cond (nat_lt n m) (record { clock = m; state = Some other }) (record { clock = n; state = Some text })
meets n None m state = cond (nat_lt n m) (record { clock = m; state = state }) (record { clock = n; state = None })

-- an own entry is received
abbrev pub hears : Option Account → Entry → Account
hears None e = record { clock = e.clock; state = e.state }
hears (Some a) e = meets a.clock a.state e.clock e.state

-- a state is put there, one clock up, or at 1
abbrev pub puts : Option Account → Option (List ℕ) → Account
puts None state = record { clock = 1; state = state }
puts (Some a) state = record { clock = a.clock + 1; state = state }

-- an account after an event: an own entry, a state for the own client, or that it was made null
abbrev pub account_next : ℕ → Option Account → Event → Option Account
account_next own a (came now e) = cond (e.client == own) (Some (hears a e)) a
account_next own a (stated now state) = Some (puts a state)
account_next own a (nulled now c) = cond (c == own) (Some (puts a None)) a
account_next own a (joined part) = a

abbrev pub account_after : ℕ → Option Account → List Event → Option Account
account_after own a [] = a
account_after own a (d ∷ ds) = account_after own (account_next own a d) ds

-- what the own client's events come to
abbrev pub account : ℕ → List Event → Option Account
account own ds = account_after own None ds

-- the account shows a text
abbrev pub Live : Option Account → Type 0
Live None = ⊥
Live (Some a) = a.state ≢ None

-- the account is at clock n, or above
abbrev pub AtLeast : ℕ → Option Account → Type 0
AtLeast n None = ⊥
AtLeast n (Some a) = n ≤ a.clock

module _ (k : Kind) where
  -- what an update is read as, if it is read
  abbrev pub read_as : Result k.Document WireFault → List k.Document
  read_as (Ok u) = u ∷ []
  read_as (Err f) = []

  -- the documents that an event's update is read as
  abbrev pub update_in : Event → List k.Document
  update_in (joined part) = read_as (k.reading part)
  update_in (came now e) = []
  update_in (stated now state) = []
  update_in (nulled now c) = []

  abbrev pub updates : List Event → List k.Document
  updates [] = []
  updates (d ∷ ds) = update_in d ++ updates ds

  -- a document joined with others, one after another
  abbrev pub all_joined : k.Document → List k.Document → k.Document
  all_joined d [] = d
  all_joined d (u ∷ us) = all_joined (k.join d u) us

  -- the empty document, joined with every update that was accepted
  abbrev pub document_of : List Event → k.Document
  document_of ds = all_joined k.empty (updates ds)
