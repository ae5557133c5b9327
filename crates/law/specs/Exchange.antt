-- An exchange between two hubs with one kind of document, by the bytes that cross the wire.
--   AtEach     what was told is so at each place of a history
--   Asks       a call wrote a step 1, which holds this buffer
--   Another    another hub of the kind: its host has a limit of its own, it was answered by the rules, and was never past its limit
--   Replied    it was handed that step 1, among any messages, and replied to it with a step 2
--   HandedOver   what becomes of that step 2
--   Exchanges    where a hub asked, another replied and the hub is handed the reply, it is accepted exactly where the join of the two documents fits, and then is that join
use Rattle.std.specs.Prelude.{◌≡◌, ◌⊎◌, ℕ, suc, ◌≤◌, ◌<◌, Bool, List, [], ◌∷◌, ◌++◌, length, Result}
use Rattle.message.specs.Message.{Said, step1, step2}
use Rattle.message.specs.Messages.{whole, next, messages}
use Rattle.document.specs.Kind.{Kind, Lawful}
use Rattle.calls.specs.declared.answer.Handled.{Handled}
use Rattle.calls.specs.declared.answer.Refusal.{Refusal}
use Rattle.law.specs.Words.{handle, step1 as step1_call, start, handled, written, Told, told, History}
use Rattle.law.specs.Events.{Event, joined, events_in, count_in, events, document_of}
use Rattle.law.specs.Answers.{Done, said_of, Answered}

-- at each place of a history, what was told there is so after what happened before
abbrev pub AtEach : ℕ → (List Event → Told → Type 0) → History → Type 0
AtEach own So history = (before : History) (t : Told) (after : History) → history ≡ before ++ t ∷ after → So (events own before) t

-- a step 1 or a start wrote bytes that begin with a step 1, whose buffer is this
pub record Asks (t : Told) (part : List ℕ) : Type 0 where
  pub room : ℕ
  pub call : (t.call ≡ step1_call room) ⊎ (t.call ≡ start room)
  pub bytes : List ℕ
  pub answer : t.answer ≡ written bytes
  pub rest : List ℕ
  pub reads : next bytes ≡ whole (step1 part) rest

-- another hub of the kind, after a history of its own
pub record Another (k : Kind) : Type 0 where
  pub limit : ℕ
  pub lawful : Lawful k limit
  pub accepts : Said → Bool
  pub id : ℕ
  pub history : History
  pub answered : AtEach id (Answered k limit accepts id) history
  pub never_past : (before after : List Event) → events id history ≡ before ++ after → k.size (document_of k before) ≤ limit

-- in one of its handles, among any messages before and after, it was handed the step 1 with this buffer, and replied with the step 2 that holds u; its document was then there
pub record Replied (k : Kind) (hub : Another k) (part u : List ℕ) (there : k.Document) : Type 0 where
  pub earlier : History
  pub bytes : List ℕ
  pub room : ℕ
  pub result : Result Handled Refusal
  pub out : List ℕ
  pub readings : List ℕ
  pub later : History
  pub called : hub.history ≡ earlier ++ told (handle bytes room) (handled result out) readings ∷ later
  pub before : List Done
  pub done : Done
  pub after : List Done
  pub did : ((hub.answered earlier (told (handle bytes room) (handled result out) readings) later called).3).dones ≡ before ++ done ∷ after
  pub request : done.message.1 ≡ step1 part
  pub reply : next done.reply ≡ whole (step2 u) []
  pub document : there ≡ document_of k (events hub.id earlier ++ events_in readings (said_of before))

-- a hub with the document here is handed an update of one with the document there: whether it is accepted, its document then, and what it holds where that was the last that it was handed
pub record HandedOver (k : Kind) (limit : ℕ) (here there : k.Document) (Accepted : Type 0) (then : k.Document) (Last : Type 0) (held : k.Document) : Type 0 where
  pub accepted_if_it_fits : k.size (k.join here there) ≤ limit → Accepted
  pub fits_if_accepted : Accepted → k.size (k.join here there) ≤ limit
  pub joined : Accepted → then ≡ k.join here there
  pub held_last : Last → held ≡ k.join here there

module _ (k : Kind) (limit : ℕ) (id : ℕ) where
  -- a hub asked in some call and is handed the reply in a later one, among any messages before and after: where it comes to that message, that is accepted exactly where the join fits, and then the document is the join
  abbrev pub Exchanges : History → k.Document → Type 0
  Exchanges history document =
      (before between after : History) (asked : Told) (bytes : List ℕ) (room : ℕ) (result : Result Handled Refusal) (out readings : List ℕ)
      → history ≡ before ++ asked ∷ (between ++ told (handle bytes room) (handled result out) readings ∷ after)
      → (part u : List ℕ) (hub : Another k) (there : k.Document) → Asks asked part → Replied k hub part u there
      → (ms : List (ℕ × Said)) (place : ℕ) (others : List (ℕ × Said)) → (messages bytes).said ≡ ms ++ (place, step2 u) ∷ others → length ms ≤ count_in result
      → let past : List Event = events id (before ++ asked ∷ between) ++ events_in readings ms in
      HandedOver k limit (document_of k past) there (length ms < count_in result) (document_of k (past ++ joined u ∷ [])) ((after ≡ []) × (count_in result ≡ suc (length ms))) document
