-- The law of a hub: what it answers and what it holds, said of the calls that it was given and of what they told.
-- A history is what was told, call by call (Words). What happened is read off it: the entries that came, the states that were set, the clients that were made null, and the document updates (Events).
--   answered   every call was answered as the rules say, by what happened before it
--   others     of each other client the hub holds exactly the newest of what arrived: nothing where nothing arrived; else the highest clock that did, null where a null arrived at that clock, and else the text that arrived first at it
--   own        of its own client it holds the account; nothing received makes a live own text null; the own clock is as high as every clock received for it, and above each null received while a text was held
--   times      the clock is read once for each presence update and each set that is accepted, and for the removal of one of whom nothing was held; a record has the time of what last inserted, replaced or raised it
--   document   the document is the empty one joined with every update that was accepted, and never was past its limit
--   exchange   where the hub wrote a step 1, another hub of the kind was handed it and replied with a step 2, and the hub is handed that, among any messages and after any calls, it accepts it exactly where the join of the two documents is within its limit, and then has that join
-- Own, Times and Document have the sentences of three of these, and Law has all.
use Rattle.std.specs.Prelude.{◌≡◌, ◌≢◌, ℕ, ◌+◌, ◌≤◌, Bool, true, List, [], ◌∷◌, ◌++◌, Some, None, Option}
use Rattle.state_vector.specs.Tables.{ascends}
use Rattle.message.specs.Message.{Said}
use Rattle.message.specs.Presence.{Entry}
use Rattle.awareness.specs.Newest.{HoldsNewest}
use Rattle.awareness.specs.Record.{Record, client_of, held_of}
use Rattle.document.specs.Kind.{Kind}
use Rattle.calls.specs.Handling.{Hub}
use Rattle.law.specs.Words.{History}
use Rattle.law.specs.Events.{Event, came, events, arrived, Live, AtLeast, account, document_of}
use Rattle.law.specs.Shown.{standing, Last}
use Rattle.law.specs.Answers.{Answered, Takes}
use Rattle.law.specs.Exchange.{AtEach, Exchanges}

-- the own client
pub record Own (own : ℕ) (ds : List Event) (o : Option Record) : Type 0 where
  -- what is held is the account
  pub is_account : standing o ≡ account own ds
  -- nothing received makes a live text null
  pub text_kept : (before : List Event) (now : ℕ) (e : Entry) (after : List Event) → ds ≡ before ++ came now e ∷ after → e.client ≡ own → Live (account own before) → Live (account own (before ++ came now e ∷ []))
  -- the clock is as high as every clock received
  pub clock_led : (before : List Event) (now : ℕ) (e : Entry) (after : List Event) → ds ≡ before ++ came now e ∷ after → e.client ≡ own → AtLeast e.clock (standing o)
  -- and above each null received while a text was held
  pub null_passed : (before : List Event) (now : ℕ) (e : Entry) (after : List Event) → ds ≡ before ++ came now e ∷ after → e.client ≡ own → e.state ≡ None → Live (account own before) → AtLeast (e.clock + 1) (standing o)

-- the times
pub record Times (own : ℕ) (history : History) (rows : List Record) : Type 0 where
  -- so many readings are taken in each call
  pub readings : AtEach own (Takes own) history
  -- a record has the time of its last change
  pub last_change : (c : ℕ) (r : Record) → held_of c rows ≡ Some r → Last own (events own history) c r.time

module _ (k : Kind) (limit : ℕ) where
  -- the document
  pub record Document (own : ℕ) (history : History) (document : k.Document) : Type 0 where
    -- every update that was accepted is joined, as the kind reads it
    pub joined : document ≡ document_of k (events own history)
    -- and after none of them it was past the limit
    pub never_past : (before after : List Event) → events own history ≡ before ++ after → k.size (document_of k before) ≤ limit

  module _ (accepts : Said → Bool) where
    pub record Law (id : ℕ) (history : History) (hub : Hub k) : Type 0 where
      pub client : hub.own ≡ id
      -- a client is held once
      pub once : ascends client_of hub.rows ≡ true
      -- every call, after what happened before it
      pub answered : AtEach id (Answered k limit accepts id) history
      -- of each other client, the newest that arrived
      pub others : (c : ℕ) → c ≢ id → HoldsNewest c (arrived id (events id history)) (held_of c hub.rows)
      -- of its own, the account
      pub own : Own id (events id history) (held_of id hub.rows)
      -- readings of the clock, and the times of records
      pub times : Times id history hub.rows
      -- the empty document, joined with every update
      pub document : Document id history hub.document
      -- what comes of a step 1 that it wrote
      pub exchange : Exchanges k limit id history hub.document
