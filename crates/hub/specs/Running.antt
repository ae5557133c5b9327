-- A run: calls made one after another on a fresh hub, and what is told of them in the caller's places.
--   Places       the caller's places: bytes for what is written, and four lists for clients
--   clients_lent, places_lent, places_left   four lists, and all places, as they are lent; what then stands in them
--   places_enough   each list has 64 places
--   asked        a call, with the room and the places that are left for its answer
--   answer_done, answer_written, answer_applied   what is noted of the answer to a call
--   no_clients, bytes_in, clients_in   no client in any list; how many bytes, and how many clients in each list, belong to an answer
--   past, after  what is left past so much, and past an answer
--   front_lists, told_answer   an answer, with the bytes and the clients that belong to it, which stand at the front of what is left
--   CallTold     one call is told so
--   AllTold      calls are told so one after another, each past what belongs to those before it
--   BeyondOf, Beyond   past so much a list, and all places, are as they were
--   all_bytes, more_clients, all_clients   how much belongs to all answers
--   run_verdict  whether a run is made
--   Ran          a run that was made: the law holds of what is told
use Rattle.std.specs.Prelude.{◌≡◌, ℕ, ◌+◌, ◌≤◌, Bool, cond, ◌&&◌, List, [], ◌∷◌, take, drop, length, nat_le, Ok, Err, Result}
use Rattle.std.specs.Borrow.{MutBor}
use Rattle.std.specs.Result.{result_and}
use Rattle.encoding.specs.Fields.{client_id}
use Rattle.message.specs.Message.{Said}
use Rattle.awareness.specs.declared.summary.AwarenessUpdateSummary.{AwarenessUpdateSummary}
use Rattle.awareness.specs.declared.summary.ChangeLists.{ChangeLists}
use Rattle.document.specs.Kind.{Kind}
use Rattle.calls.specs.declared.answer.Refusal.{Refusal}
use Rattle.calls.specs.declared.fault.Fault.{Fault}
use Rattle.calls.specs.declared.fault.Fault.TheVariants.{Buffer}
use Rattle.calls.specs.Handling.{Hub, Reads}
use Rattle.law.specs.Words.{Lists, Told, History, handle, apply, set, clean, remove, step1, start, show, list, handled, applied, done, written, shown, refused}
use Rattle.law.specs.Words.{Call as LawCall, Answer as LawAnswer}
use Rattle.law.specs.Answers.{length_told}
use Rattle.law.specs.Law.{Law}
use Rattle.hub.specs.declared.run.Call.{Call}
use Rattle.hub.specs.declared.run.Call.TheVariants.{Handle, Apply, Set, Clean, Remove, Step1, Start, Show, List as ListOf}
use Rattle.hub.specs.declared.run.Answer.{Answer}
use Rattle.hub.specs.declared.run.Lent.{Lent}
use Rattle.hub.specs.declared.run.Answer.TheVariants.{Handled as HandledSo, Applied, Done, Written, Shown, Refused}
use Rattle.hub.specs.Steps.{of_wire}

-- the caller's places: bytes for what is written, and four lists for clients
pub record Places : Type 0 where
  pub bytes : List ℕ
  pub lists : Lists

-- four lists, as they are lent
abbrev pub clients_lent : ChangeLists → Lists
clients_lent l = record { added = l.added.now; updated = l.updated.now; changed = l.changed.now; removed = l.removed.now }

-- all places, as they are lent
abbrev pub places_lent : Lent → Places
places_lent l = record { bytes = l.out.now; lists = record { added = l.added.now; updated = l.updated.now; changed = l.changed.now; removed = l.removed.now } }

-- what then stands in all places: behind the field of each
abbrev pub places_left : MutBor (List ℕ) × (MutBor (List ℕ) × (MutBor (List ℕ) × (MutBor (List ℕ) × (MutBor (List ℕ) × Unit {0})))) → Places
places_left l = record { bytes = l.0.now; lists = record { added = l.1.0.now; updated = l.1.1.0.now; changed = l.1.1.1.0.now; removed = l.1.1.1.1.0.now } }

-- each list has 64 places
abbrev pub places_enough : Lists → Bool
places_enough l = nat_le 64 (length l.added) && (nat_le 64 (length l.updated) && (nat_le 64 (length l.changed) && nat_le 64 (length l.removed)))

-- a call, with the room and the places that are left for its answer
abbrev pub asked : Call → Places → LawCall
asked (Handle bytes) l = handle bytes.now (length l.bytes)
asked (Apply update) l = apply update.now (places_enough l.lists)
asked (Set text) l = set text.now
asked Clean l = clean
asked (Remove client) l = remove client
asked Step1 l = step1 (length l.bytes)
asked Start l = start (length l.bytes)
asked (Show client) l = show client
asked (ListOf clients) l = list clients.now (length l.bytes)

-- what is noted of an answer
abbrev pub answer_done : Result (Unit {0}) Refusal → Answer
answer_done (Ok u) = Done
answer_done (Err x) = Refused x.fault

abbrev pub answer_written : Result ℕ Refusal → Answer
answer_written (Ok n) = Written n
answer_written (Err x) = Refused x.fault

abbrev pub answer_applied : Result AwarenessUpdateSummary Refusal → Answer
answer_applied (Ok n) = Applied n
answer_applied (Err x) = Refused x.fault

-- how many bytes belong to an answer
abbrev pub bytes_in : Answer → ℕ
bytes_in (HandledSo r) = length_told r
bytes_in (Written n) = n
bytes_in (Applied n) = 0
bytes_in Done = 0
bytes_in (Shown o) = 0
bytes_in (Refused f) = 0

abbrev pub no_clients : AwarenessUpdateSummary
no_clients = record { added = 0; updated = 0; changed = 0; removed = 0 }

-- and how many clients in each list
abbrev pub clients_in : Answer → AwarenessUpdateSummary
clients_in (Applied n) = n
clients_in (HandledSo r) = no_clients
clients_in (Written n) = no_clients
clients_in Done = no_clients
clients_in (Shown o) = no_clients
clients_in (Refused f) = no_clients

-- what is left past so many bytes and clients
abbrev pub past : ℕ → AwarenessUpdateSummary → Places → Places
past n c l = record { bytes = drop n l.bytes; lists = record { added = drop c.added l.lists.added; updated = drop c.updated l.lists.updated; changed = drop c.changed l.lists.changed; removed = drop c.removed l.lists.removed } }

-- what is left of the caller's places past an answer
abbrev pub after : Answer → Places → Places
after a l = past (bytes_in a) (clients_in a) l

-- so many clients at the front of each list
abbrev pub front_lists : AwarenessUpdateSummary → Lists → Lists
front_lists n l = record { added = take n.added l.added; updated = take n.updated l.updated; changed = take n.changed l.changed; removed = take n.removed l.removed }

-- an answer, with the bytes and the clients that belong to it
abbrev pub told_answer : Answer → Places → LawAnswer
told_answer (HandledSo r) l = handled r (take (length_told r) l.bytes)
told_answer (Applied n) l = applied (front_lists n l.lists)
told_answer Done l = done
told_answer (Written n) l = written (take n l.bytes)
told_answer (Shown o) l = shown o
told_answer (Refused f) l = refused f

module _ {C : Type 0} (next : C → ℕ) (leads : C → C → Type 0) where
  -- one call is told so; what it told stands in the caller's places, and the clock gave its readings
  pub record CallTold (c : Call) (a : Answer) (l : Places) (clock then : C) (t : Told) : Type 0 where
    pub call : t.call ≡ asked c l
    pub answer : t.answer ≡ told_answer a l
    pub readings : Reads next leads clock t.readings then

  -- calls are told so one after another, each past what belongs to those before it
  abbrev pub AllTold : List Call → List Answer → Places → C → History → C → Type 0
  AllTold [] [] l clock history then = (history ≡ []) × (then ≡ clock)
  AllTold [] (a ∷ more) l clock history then = ⊥
  AllTold (c ∷ cs) [] l clock history then = ⊥
  AllTold (c ∷ cs) (a ∷ more) l clock history then = (t : Told) × (middle : C) × (rest : History) × (history ≡ t ∷ rest) × CallTold c a l clock middle t × AllTold cs more (after a l) middle rest then

-- past so many places a list is as it was, and so many it has
pub record BeyondOf {X : Type 0} (n : ℕ) (old new : List X) : Type 0 where
  pub fits : n ≤ length old
  pub same : drop n new ≡ drop n old
  pub long : length new ≡ length old

-- past an answer the caller's places are as they were
pub record Beyond (n : ℕ) (c : AwarenessUpdateSummary) (old new : Places) : Type 0 where
  pub bytes : BeyondOf n old.bytes new.bytes
  pub added : BeyondOf c.added old.lists.added new.lists.added
  pub updated : BeyondOf c.updated old.lists.updated new.lists.updated
  pub changed : BeyondOf c.changed old.lists.changed new.lists.changed
  pub removed : BeyondOf c.removed old.lists.removed new.lists.removed

-- how many bytes, and how many clients in each list, belong to all answers
abbrev pub all_bytes : List Answer → ℕ
all_bytes [] = 0
all_bytes (a ∷ more) = bytes_in a + all_bytes more

abbrev pub more_clients : AwarenessUpdateSummary → AwarenessUpdateSummary → AwarenessUpdateSummary
more_clients a b = record { added = a.added + b.added; updated = a.updated + b.updated; changed = a.changed + b.changed; removed = a.removed + b.removed }

abbrev pub all_clients : List Answer → AwarenessUpdateSummary
all_clients [] = no_clients
all_clients (a ∷ more) = more_clients (clients_in a) (all_clients more)

-- a run is made for a client whose id can be one, with a place for each answer
abbrev pub run_verdict : ℕ → ℕ → ℕ → Result (Unit {0}) Fault
run_verdict own calls places = result_and (of_wire (client_id own)) (cond (nat_le calls places) (Ok tt) (Err Buffer))

-- a run that was made: the law holds of what is told
pub record Ran {C : Type 0} (next : C → ℕ) (leads : C → C → Type 0) (k : Kind) (limit : ℕ) (accepts : Said → Bool) (own : ℕ) (calls : List Call) (clock : C) (answers : List Answer) (old new : Places) (hub : Hub k) (then : C) : Type 0 where
  -- what is told of each call, in turn
  pub history : History
  pub told : AllTold next leads calls answers new clock history then
  -- the law, whole
  pub law : Law k limit accepts own history hub
  -- what is past all answers is as it was
  pub beyond : Beyond (all_bytes answers) (all_clients answers) old new
