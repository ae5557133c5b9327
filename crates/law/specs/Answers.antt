-- What the rules answer to a call, by what happened before it.
--   Something   there is something in an account
--   Present, Crowded   a client of whom something came, and more than 64 of them
--   Reached    a clock that came for a client, or to which its account came
--   Judged     the verdict on records: too many clients, a clock that cannot rise, or none of these
--   FitsIn     bytes that are written where they fit the room, with every length in 32 bits
--   Entries    entries, ascending by client, that are exactly what is held of some clients
--   ShowsText   an entry shows a text
--   RequestAnswered, UpdateAnswered, PresenceAnswered, PolicyAnswered, QueryAnswered   the verdicts on messages, each with its reply
--   MessageAnswered   the verdict on a message with its reply
--   Done, said_of, replies_of   a message that was done, with its reply
--   length_told   the length of the replies that is told
--   EndsAt, Ends   where and why a handle ends
--   HandleAnswered   what a handle tells, message by message
--   Did, Tells   a list has the clients of whom one of the entries, met in turn, did what it tells
--   ListsTell   the four lists of an apply
--   ApplyAnswered, SetAnswered, RemoveAnswered, WriteAnswered, ShowAnswered, ListAnswered   what the other calls tell
--   Ids        ids that can be read
--   vector_written   the vector of the document, as a step 1
--   CallAnswered, Answered   what a call tells
--   presences   how many messages are presence updates
--   RemovalTakes, CallTakes, Takes   how many readings of the clock a call takes
use Rattle.std.specs.Prelude.{◌≡◌, ◌≢◌, ◌⊎◌, ◌↔◌, ℕ, suc, ◌-◌, ◌^◌, ◌<◌, ◌≤◌, Bool, true, false, cond, List, [], ◌∷◌, ◌++◌, map, take, length, Contains, Some, None, Ok, Err, Option, Result}
use Rattle.encoding.specs.declared.fault.WireFault.{WireFault}
use Rattle.encoding.specs.declared.write.WriteFault.{WriteFault}
use Rattle.encoding.specs.Fields.{client_id, count, presence_text}
use Rattle.encoding.specs.Writing.{Row}
use Rattle.state_vector.specs.declared.vector.VectorEntry.{VectorEntry}
use Rattle.state_vector.specs.Tables.{ascends}
use Rattle.state_vector.specs.Vector.{vector}
use Rattle.message.specs.Message.{Said, step1, step2, update, awareness, denied, granted, query, custom}
use Rattle.message.specs.Messages.{Ending, ended, cut, refused as refused_at, messages}
use Rattle.message.specs.Presence.{Entry, presence, state_of}
use Rattle.message.specs.Writing.{step1 as told_step1, step2 as told_step2, awareness as told_awareness, presence_out, message_out}
use Rattle.awareness.specs.declared.fault.PresenceFault.{PresenceFault}
use Rattle.awareness.specs.declared.fault.PresenceFault.TheVariants.{TooManyClients, ClockAtEnd, ClientNotFound}
use Rattle.awareness.specs.Newest.{Adds, Updates, Alters, Removes}
use Rattle.awareness.specs.Record.{Record, entry_of}
use Rattle.document.specs.declared.fault.DocumentFault.TheVariants.{Unreadable, TooLarge}
use Rattle.document.specs.Kind.{Kind}
use Rattle.calls.specs.declared.answer.Handled.{Handled}
use Rattle.calls.specs.declared.answer.Refusal.{Refusal}
use Rattle.calls.specs.declared.fault.Fault.{Fault}
use Rattle.calls.specs.declared.fault.Fault.TheVariants.{Wire, Presence, Policy, Document, Buffer}
use Rattle.calls.specs.declared.fault.PolicyFault.{PolicyFault}
use Rattle.calls.specs.declared.fault.PolicyFault.TheVariants.{PermissionDenied, Unsupported}
use Rattle.law.specs.Words.{Call, handle, apply, set, clean, remove, step1 as step1_call, start, show, list, Lists, Answer, handled, applied, done, shown, refused, Told, wrote, both}
use Rattle.law.specs.Events.{Event, came, stated, nulled, is_presence, events_in, count_in, done_count, accepted, arrived, Account, AtLeast, account, document_of}
use Rattle.law.specs.Shown.{Shows, Holds}

-- there is something in an account
abbrev pub Something : Option Account → Type 0
Something None = ⊥
Something (Some a) = Unit {0}

-- something came of a client: an entry of another, or what is in the own account
abbrev pub Present : ℕ → List Event → ℕ → Type 0
Present own ds c = ((c ≢ own) × (e : Entry) × Contains (arrived own ds) e × (e.client ≡ c)) ⊎ ((c ≡ own) × Something (account own ds))

-- something came of more than 64 clients
pub record Crowded (own : ℕ) (ds : List Event) : Type 0 where
  pub clients : List ℕ
  pub different : ascends (λ c. c) clients ≡ true
  pub many : 64 < length clients
  pub present : (c : ℕ) → Contains clients c → Present own ds c

-- the clock of client c is at n or above: such an entry of another came, or the own account is there
abbrev pub Reached : ℕ → List Event → ℕ → ℕ → Type 0
Reached own ds c n = ((c ≢ own) × (e : Entry) × Contains (arrived own ds) e × (e.client ≡ c) × (n ≤ e.clock)) ⊎ ((c ≡ own) × AtLeast n (account own ds))

-- the verdict where so much would have happened, and the clock of client c is the one that may have had to rise
pub record Judged {A : Type 0} (own : ℕ) (ds : List Event) (c : ℕ) (fails : PresenceFault → A) (passes answer : A) : Type 0 where
  -- more than 64 clients
  pub too_many : Crowded own ds → answer ≡ fails TooManyClients
  -- else a clock past 32 bits
  pub at_end : (Crowded own ds → ⊥) → Reached own ds c (2 ^ 32) → answer ≡ fails ClockAtEnd
  -- else it passes
  pub fine : (Crowded own ds → ⊥) → (Reached own ds c (2 ^ 32) → ⊥) → answer ≡ passes

-- bytes are written where they fit the room; there are none where a length is past 32 bits
pub record FitsIn (room : ℕ) (row : Row) (r : Result (List ℕ) Fault) : Type 0 where
  pub fits : (bs : List ℕ) → row ≡ Ok bs → length bs ≤ room → r ≡ Ok bs
  pub short : (bs : List ℕ) → row ≡ Ok bs → room < length bs → r ≡ Err Buffer
  pub long : (f : WriteFault) → row ≡ Err f → r ≡ Err Buffer

-- entries, ascending by client, that are exactly what is held of the clients of a sort
pub record Entries (own : ℕ) (ds : List Event) (Sort : Entry → Type 0) (es : List Entry) : Type 0 where
  pub ascending : ascends (λ e. e.client) es ≡ true
  pub exactly : (e : Entry) → Contains es e ↔ ((r : Record) × Holds own ds e.client (Some r) × (e ≡ entry_of r) × Sort e)

-- an entry shows a text
abbrev pub ShowsText : Entry → Type 0
ShowsText e = e.state ≢ None

module _ (k : Kind) (limit : ℕ) (accepts : Said → Bool) (own : ℕ) where
  -- step 1 is answered with step 2: the update of the document for its vector
  pub record RequestAnswered (ds : List Event) (room : ℕ) (part : List ℕ) (r : Result (List ℕ) Fault) : Type 0 where
    pub unreadable : (f : WireFault) → vector part ≡ Err f → r ≡ Err (Wire f)
    pub readable : (v : List VectorEntry) → vector part ≡ Ok v → FitsIn room (message_out (told_step2 (k.update (document_of k ds) v))) r

  -- an update is joined where it is readable and the join is within the limit
  pub record UpdateAnswered (ds : List Event) (part : List ℕ) (r : Result (List ℕ) Fault) : Type 0 where
    pub unreadable : (f : WireFault) → k.reading part ≡ Err f → r ≡ Err (Document (Unreadable f))
    pub too_large : (u : k.Document) → k.reading part ≡ Ok u → limit < k.size (k.join (document_of k ds) u) → r ≡ Err (Document TooLarge)
    pub fits : (u : k.Document) → k.reading part ≡ Ok u → k.size (k.join (document_of k ds) u) ≤ limit → r ≡ Ok []

  -- a presence update is taken where all its clients have room and the own clock can rise, at whatever time
  pub record PresenceAnswered (ds : List Event) (part : List ℕ) (r : Result (List ℕ) Fault) : Type 0 where
    pub unreadable : (f : WireFault) → presence part ≡ Err f → r ≡ Err (Wire f)
    pub readable : (es : List Entry) (rest : List ℕ) → presence part ≡ Ok (es, rest) → (now : ℕ) → Judged own (ds ++ map (came now) es) own (λ f. Err (Presence f)) (Ok []) r

  -- the policy's verdict decides
  pub record PolicyAnswered (m : Said) (f : PolicyFault) (r : Result (List ℕ) Fault) : Type 0 where
    pub yes : accepts m ≡ true → r ≡ Ok []
    pub no : accepts m ≡ false → r ≡ Err (Policy f)

  -- a query is answered with the entries of all clients that show a text
  abbrev pub QueryAnswered : List Event → ℕ → Result (List ℕ) Fault → Type 0
  QueryAnswered ds room r = (es : List Entry) × Entries own ds ShowsText es × FitsIn room (message_out (told_awareness es)) r

  -- the verdict on a message with its reply, where so much room is left
  abbrev pub MessageAnswered : List Event → ℕ → Said → Result (List ℕ) Fault → Type 0
  MessageAnswered ds room (step1 part) r = RequestAnswered ds room part r
  MessageAnswered ds room (step2 part) r = UpdateAnswered ds part r
  MessageAnswered ds room (update part) r = UpdateAnswered ds part r
  MessageAnswered ds room (awareness part) r = PresenceAnswered ds part r
  MessageAnswered ds room (denied reason) r = PolicyAnswered (denied reason) PermissionDenied r
  MessageAnswered ds room granted r = PolicyAnswered granted PermissionDenied r
  MessageAnswered ds room query r = QueryAnswered ds room r
  MessageAnswered ds room (custom tag part) r = PolicyAnswered (custom tag part) Unsupported r

-- a message that was done, with its reply
pub record Done : Type 0 where
  pub message : ℕ × Said
  pub reply : List ℕ

-- the messages that were done, and all their replies
abbrev pub said_of : List Done → List (ℕ × Said)
said_of ds = map (λ (d : Done). d.message) ds

abbrev pub replies_of : List Done → List ℕ
replies_of [] = []
replies_of (d ∷ ds) = d.reply ++ replies_of ds

-- the length of the replies that is told
abbrev pub length_told : Result Handled Refusal → ℕ
length_told (Ok h) = h.replies
length_told (Err r) = r.replies

-- reading met no fault: it came to the end of the bytes, or to a message that is cut short
abbrev pub EndsAt : ℕ → Ending → ℕ → Type 0
EndsAt size ended place = place ≡ size
EndsAt size (cut at) place = place ≡ at
EndsAt size (refused_at at f) place = ⊥

module _ (k : Kind) (limit : ℕ) (accepts : Said → Bool) (own : ℕ) where
  -- where a handle ends that did all messages but these: with all of them, where reading ended; where reading met a fault; or at the next message, with its place and its fault
  abbrev pub Ends : List Event → ℕ → ℕ → Ending → List (ℕ × Said) → Result Handled Refusal → Type 0
  Ends ds room size end [] (Ok h) = EndsAt size end h.place
  Ends ds room size end [] (Err r) = (f : WireFault) × (end ≡ refused_at r.place f) × (r.fault ≡ Wire f)
  Ends ds room size end (m ∷ ms) (Ok h) = ⊥
  Ends ds room size end (m ∷ ms) (Err r) = (r.place ≡ m.0) × MessageAnswered k limit accepts own ds room m.1 (Err r.fault)

  -- what a handle tells: it does messages from the first on, each as the rules answer it after those before, in the room that their replies left, up to the end of reading or the first that is refused
  pub record HandleAnswered (ds : List Event) (bytes : List ℕ) (room : ℕ) (ns : List ℕ) (r : Result Handled Refusal) (out : List ℕ) : Type 0 where
    pub dones : List Done
    pub rest : List (ℕ × Said)
    pub all : (messages bytes).said ≡ said_of dones ++ rest
    -- how many are done, their replies, and how long these are
    pub counted : count_in r ≡ length dones
    pub replies : out ≡ replies_of dones
    pub long : length_told r ≡ length out
    -- each of them
    pub each : (before : List Done) (d : Done) (after : List Done) → dones ≡ before ++ d ∷ after
        → MessageAnswered k limit accepts own (ds ++ events_in ns (said_of before)) (room - length (replies_of before)) d.message.1 (Ok d.reply)
    -- and the end
    pub ends : Ends (ds ++ events_in ns (said_of dones)) (room - length (replies_of dones)) (length bytes) (messages bytes).end rest r

-- one of the entries is client c's and does so to what is held just before it
abbrev pub Did : (Option Record → Entry → Type 0) → ℕ → List Event → ℕ → List Entry → ℕ → Type 0
Did Does own ds now es c = (before : List Entry) × (e : Entry) × (after : List Entry) × (es ≡ before ++ e ∷ after) × (e.client ≡ c) × (o : Option Record) × Shows own (ds ++ map (came now) before) c o × Does o e

-- a list ascends, and has the clients of whom one of the entries did so, at whatever time
pub record Tells (Does : Option Record → Entry → Type 0) (own : ℕ) (ds : List Event) (es : List Entry) (clients : List ℕ) : Type 0 where
  pub ascending : ascends (λ c. c) clients ≡ true
  pub exactly : (now c : ℕ) → Contains clients c ↔ Did Does own ds now es c

-- the four lists of an apply: where a text came to no record, where a text was taken over one or the own was raised, where it was another text, and where a null was taken
pub record ListsTell (own : ℕ) (ds : List Event) (es : List Entry) (l : Lists) : Type 0 where
  pub added : Tells Adds own ds es l.added
  pub updated : Tells (Updates own) own ds es l.updated
  pub changed : Tells Alters own ds es l.changed
  pub removed : Tells (Removes own) own ds es l.removed

module _ (own : ℕ) (ds : List Event) where
  -- an apply: its four lists need their places first, then its bytes are read, then its entries are judged and taken
  pub record ApplyAnswered (bytes : List ℕ) (enough : Bool) (a : Answer) : Type 0 where
    pub short : enough ≡ false → a ≡ refused Buffer
    pub unreadable : enough ≡ true → (f : WireFault) → presence bytes ≡ Err f → a ≡ refused (Wire f)
    pub readable : enough ≡ true → (es : List Entry) (rest : List ℕ) → presence bytes ≡ Ok (es, rest)
        → (l : Lists) × ListsTell own ds es l × ((now : ℕ) → Judged own (ds ++ map (came now) es) own (λ f. refused (Presence f)) (applied l) a)

  -- a text for the own client
  pub record SetAnswered (bytes : List ℕ) (a : Answer) : Type 0 where
    pub unreadable : (f : WireFault) → presence_text bytes ≡ Err f → a ≡ refused (Wire f)
    pub readable : presence_text bytes ≡ Ok tt → (now : ℕ) → Judged own (ds ++ stated now (state_of bytes) ∷ []) own (λ f. refused (Presence f)) done a

  -- a client that is made null
  pub record RemoveAnswered (c : ℕ) (a : Answer) : Type 0 where
    pub unreadable : (f : WireFault) → client_id c ≡ Err f → a ≡ refused (Wire f)
    pub readable : client_id c ≡ Ok tt → (now : ℕ) → Judged own (ds ++ nulled now c ∷ []) c (λ f. refused (Presence f)) done a

  -- bytes that are written into the room
  abbrev pub WriteAnswered : ℕ → Row → Answer → Type 0
  WriteAnswered room row a = (r : Result (List ℕ) Fault) × FitsIn room row r × (a ≡ wrote r)

  -- what is held of a client
  pub record ShowAnswered (c : ℕ) (a : Answer) : Type 0 where
    pub unreadable : (f : WireFault) → client_id c ≡ Err f → a ≡ refused (Wire f)
    pub readable : client_id c ≡ Ok tt → (o : Option Record) × Holds own ds c o × (a ≡ shown o)

  -- the ids can be read
  abbrev pub Ids : List ℕ → Type 0
  Ids cs = (c : ℕ) → Contains cs c → client_id c ≡ Ok tt

  -- the update of some clients: at most 64 are asked for, each with an id that can be read, and each held
  pub record ListAnswered (cs : List ℕ) (room : ℕ) (a : Answer) : Type 0 where
    pub too_many : (f : WireFault) → count (length cs) ≡ Err f → a ≡ refused (Wire f)
    pub unreadable : count (length cs) ≡ Ok tt → (before : List ℕ) (c : ℕ) (after : List ℕ) (f : WireFault) → cs ≡ before ++ c ∷ after → Ids before → client_id c ≡ Err f → a ≡ refused (Wire f)
    pub unknown : count (length cs) ≡ Ok tt → Ids cs → (c : ℕ) → Contains cs c → Holds own ds c None → a ≡ refused (Presence ClientNotFound)
    pub known : count (length cs) ≡ Ok tt → Ids cs → ((c : ℕ) → Contains cs c → (r : Record) × Holds own ds c (Some r))
        → (es : List Entry) × Entries own ds (λ e. Contains cs e.client) es × WriteAnswered room (Ok (presence_out es)) a

module _ (k : Kind) (limit : ℕ) (accepts : Said → Bool) (own : ℕ) where
  -- step 1: the vector of the document
  abbrev pub vector_written : List Event → Row
  vector_written ds = message_out (told_step1 (k.vector (document_of k ds)))

  -- what a call tells, after what happened
  abbrev pub CallAnswered : List Event → Call → Answer → List ℕ → Type 0
  CallAnswered ds (handle bytes room) a ns = (r : Result Handled Refusal) × (out : List ℕ) × (a ≡ handled r out) × HandleAnswered k limit accepts own ds bytes room ns r out
  CallAnswered ds (apply bytes enough) a ns = ApplyAnswered own ds bytes enough a
  CallAnswered ds (set bytes) a ns = SetAnswered own ds bytes a
  CallAnswered ds clean a ns = RemoveAnswered own ds own a
  CallAnswered ds (remove c) a ns = RemoveAnswered own ds c a
  CallAnswered ds (step1_call room) a ns = WriteAnswered own ds room (vector_written ds) a
  CallAnswered ds (start room) a ns = (es : List Entry) × Entries own ds ShowsText es × WriteAnswered own ds room (both (vector_written ds) (message_out (told_awareness es))) a
  CallAnswered ds (show c) a ns = ShowAnswered own ds c a
  CallAnswered ds (list cs room) a ns = ListAnswered own ds cs room a

  abbrev pub Answered : List Event → Told → Type 0
  Answered ds t = CallAnswered ds t.call t.answer t.readings

-- how many of the messages are presence updates
abbrev pub presences : List (ℕ × Said) → ℕ
presences [] = 0
presences (m ∷ ms) = cond (is_presence m.1) (suc (presences ms)) (presences ms)

-- a removal that was accepted takes a reading where nothing was held of the client
pub record RemovalTakes (own : ℕ) (ds : List Event) (c : ℕ) (a : Answer) (n : ℕ) : Type 0 where
  pub refused : accepted a ≡ false → n ≡ 0
  pub new : accepted a ≡ true → Holds own ds c None → n ≡ 1
  pub known : accepted a ≡ true → (r : Record) → Holds own ds c (Some r) → n ≡ 0

-- how many readings of the clock a call takes: one for each presence update and each set that is accepted, and for the removal of one of whom nothing was held
abbrev pub CallTakes : ℕ → List Event → Call → Answer → ℕ → Type 0
CallTakes own ds (handle bytes room) a n = n ≡ presences (take (done_count a) (messages bytes).said)
CallTakes own ds (apply bytes enough) a n = n ≡ cond (accepted a) 1 0
CallTakes own ds (set bytes) a n = n ≡ cond (accepted a) 1 0
CallTakes own ds clean a n = RemovalTakes own ds own a n
CallTakes own ds (remove c) a n = RemovalTakes own ds c a n
CallTakes own ds (step1_call room) a n = n ≡ 0
CallTakes own ds (start room) a n = n ≡ 0
CallTakes own ds (show c) a n = n ≡ 0
CallTakes own ds (list cs room) a n = n ≡ 0

abbrev pub Takes : ℕ → List Event → Told → Type 0
Takes own ds t = CallTakes own ds t.call t.answer (length t.readings)
