-- What taking entries comes to, in the words of presence.
--   entry_of_client   what a client says of itself
--   FirstText       a text that came for a client at a clock, before anything else at that clock
--   Came            a state that came for a client at a clock
--   Newest          a record is the newest of what came for its client
--   HoldsNewest     what is held of a client is the newest of what came
--   Update          entries that came together, and their time
--   taken_in_turn    the records after updates came, one after another
--   entries_of      the entries of updates
--   TablesHoldTheNewest   entries taken into an empty table leave the newest of each other client
--   Raises          the own record, live, meets a null that it has to stand above
--   Beats           an entry stands above a record
--   Adds, Updates, Alters, Removes   what an entry does that puts its client into the list of that name (Alters: changed)
--   Touches         what an entry does that gives a record its time
--   Did             one of the entries, met in turn, did so
--   Tells           a list has the clients of whom one of the entries did so
--   ListsTellWhatWasDone   what each of the four lists tells
--   Live            a text is held
--   OwnTextsStay    no entry makes a live own text null
--   Reaches         a record is held, at a clock or a higher one
--   OwnClocksLead   the own clock is as high as any that came for it, and above each null that it met while live
--   Timed           a record is held, with a time
--   TimesTellTheLastChange   a record's time is that of the entries which touched it last
--   WinnersAreStored   a record that an entry meets is held as what wins
use Rattle.std.specs.Prelude.{◌≡◌, ℕ, ◌+◌, ◌<◌, ◌≤◌, Bool, true, ◌≢◌, ◌⊎◌, ◌↔◌, List, [], ◌∷◌, ◌++◌, Contains, Some, None, Option}
use Rattle.state_vector.specs.Tables.{ascends}
use Rattle.message.specs.Presence.{Entry}
use Rattle.awareness.specs.declared.change.Change.{Change}
use Rattle.awareness.specs.Changes.{changes, is_added, is_updated, is_changed, is_removed, listed}
use Rattle.awareness.specs.Record.{Record, client_of, held_of}
use Rattle.awareness.specs.Taking.{met, received, taken}

-- what client c says of itself at clock n
abbrev pub entry_of_client : ℕ → ℕ → Option (List ℕ) → Entry
entry_of_client c n state = record { client = c; clock = n; state = state }

-- text t came for client c at clock n, and nothing came before it for that client at that clock
pub record FirstText (c n : ℕ) (t : List ℕ) (came : List Entry) : Type 0 where
  pub before : List Entry
  pub after : List Entry
  pub there : came ≡ before ++ entry_of_client c n (Some t) ∷ after
  pub first : (e : Entry) → Contains before e → e.client ≡ c → e.clock ≡ n → ⊥

-- a state came for client c at clock n: null at any place, a text before all else
abbrev pub Came : ℕ → ℕ → Option (List ℕ) → List Entry → Type 0
Came c n None came = Contains came (entry_of_client c n None)
Came c n (Some t) came = FirstText c n t came

-- the record is the newest of what came for client c
pub record Newest (c : ℕ) (came : List Entry) (r : Record) : Type 0 where
  -- its clock is the highest that came
  pub highest : (e : Entry) → Contains came e → e.client ≡ c → e.clock ≤ r.clock
  -- what it shows came at that clock
  pub came_so : Came c r.clock r.state came
  -- it is null where some null came at that clock
  pub null_wins : Contains came (entry_of_client c r.clock None) → r.state ≡ None

-- nothing is held where nothing came, and else the newest
abbrev pub HoldsNewest : ℕ → List Entry → Option Record → Type 0
HoldsNewest c came None = (e : Entry) → Contains came e → e.client ≡ c → ⊥
HoldsNewest c came (Some r) = Newest c came r

-- entries that came together, and their time
pub record Update : Type 0 where
  pub time : ℕ
  pub entries : List Entry

-- the records after updates came, one after another
abbrev pub taken_in_turn : ℕ → List Record → List Update → List Record
taken_in_turn own rows [] = rows
taken_in_turn own rows (u ∷ us) = taken_in_turn own (taken own u.time rows u.entries) us

-- the entries of updates, in the order in which they came
abbrev pub entries_of : List Update → List Entry
entries_of [] = []
entries_of (u ∷ us) = u.entries ++ entries_of us

-- entries taken from an empty table on leave the newest of each client but the own one
pub record TablesHoldTheNewest : Type 0 where
  -- entries that came together
  pub at_once : (own now : ℕ) (es : List Entry) (c : ℕ) → c ≢ own → HoldsNewest c es (held_of c (taken own now [] es))
  -- and those of any updates
  pub in_turn : (own : ℕ) (us : List Update) (c : ℕ) → c ≢ own → HoldsNewest c (entries_of us) (held_of c (taken_in_turn own [] us))

-- the own record, live, meets a null with a clock not below its own
abbrev pub Raises : ℕ → Record → Entry → Type 0
Raises own r e = (r.client ≡ own) × (r.state ≢ None) × (e.state ≡ None) × (r.clock ≤ e.clock)

-- the entry has a higher clock than the record, or is null at the same clock while that is live
abbrev pub Beats : Entry → Record → Type 0
Beats e r = (r.clock < e.clock) ⊎ ((e.clock ≡ r.clock) × (e.state ≡ None) × (r.state ≢ None))

-- a text comes where no record is
abbrev pub Adds : Option Record → Entry → Type 0
Adds None e = e.state ≢ None
Adds (Some r) e = ⊥

-- a text is taken over a record, or the own record is raised
abbrev pub Updates : ℕ → Option Record → Entry → Type 0
Updates own None e = ⊥
Updates own (Some r) e = Raises own r e ⊎ (Beats e r × (e.state ≢ None))

-- a text is taken over a record that is not live with the same bytes
abbrev pub Alters : Option Record → Entry → Type 0
Alters None e = ⊥
Alters (Some r) e = Beats e r × (e.state ≢ None) × (e.state ≢ r.state)

-- a null is taken over a record
abbrev pub Removes : ℕ → Option Record → Entry → Type 0
Removes own None e = ⊥
Removes own (Some r) e = (Raises own r e → ⊥) × Beats e r × (e.state ≡ None)

-- a record is inserted, replaced or raised
abbrev pub Touches : ℕ → Option Record → Entry → Type 0
Touches own None e = Unit {0}
Touches own (Some r) e = Raises own r e ⊎ Beats e r

-- one of the entries is client c's and does so to what is held just before it
abbrev pub Did : (Option Record → Entry → Type 0) → ℕ → ℕ → List Record → List Entry → ℕ → Type 0
Did Does own now rows es c = (before : List Entry) × (e : Entry) × (after : List Entry) × (es ≡ before ++ e ∷ after) × (e.client ≡ c) × Does (held_of c (taken own now rows before)) e

-- a client is in the list exactly when one of the entries, met in turn, did so
abbrev pub Tells : (Change → Bool) → (ℕ → Option Record → Entry → Type 0) → Type 0
Tells picks Does = (own now : ℕ) (rows : List Record) (es : List Entry) (c : ℕ) → Contains (listed picks (changes own now rows es)) c ↔ Did (Does own) own now rows es c

-- what the four lists of changes tell
pub record ListsTellWhatWasDone : Type 0 where
  pub added : Tells is_added (λ _. Adds)
  pub updated : Tells is_updated Updates
  pub changed : Tells is_changed (λ _. Alters)
  pub removed : Tells is_removed Removes
  -- each ascends, so that a client is in it once
  pub ascending : (picks : Change → Bool) (own now : ℕ) (rows : List Record) (es : List Entry) → ascends (λ c. c) (listed picks (changes own now rows es)) ≡ true

-- a text is held
abbrev pub Live : Option Record → Type 0
Live None = ⊥
Live (Some r) = r.state ≢ None

-- a live own text is live after every row of entries
abbrev pub OwnTextsStay : Type 0
OwnTextsStay = (own now : ℕ) (rows : List Record) (es : List Entry) → ascends client_of rows ≡ true → Live (held_of own rows) → Live (held_of own (taken own now rows es))

-- a record is held, at clock n or a higher one
abbrev pub Reaches : ℕ → Option Record → Type 0
Reaches n None = ⊥
Reaches n (Some r) = n ≤ r.clock

-- what entries do to the own clock
pub record OwnClocksLead : Type 0 where
  -- it never sinks
  pub never_sinks : (own now : ℕ) (rows : List Record) (es : List Entry) (n : ℕ) → ascends client_of rows ≡ true → Reaches n (held_of own rows) → Reaches n (held_of own (taken own now rows es))
  -- it is at least each that came for it
  pub none_is_higher : (own now : ℕ) (rows : List Record) (es : List Entry) (e : Entry) → ascends client_of rows ≡ true → Contains es e → e.client ≡ own → Reaches e.clock (held_of own (taken own now rows es))
  -- and above each null that came while a text was held
  pub nulls_are_lower : (own now : ℕ) (rows : List Record) (before : List Entry) (e : Entry) (after : List Entry) → ascends client_of rows ≡ true → e.client ≡ own → e.state ≡ None → Live (held_of own (taken own now rows before)) → Reaches (e.clock + 1) (held_of own (taken own now rows (before ++ e ∷ after)))

-- a record is held, with this time
abbrev pub Timed : ℕ → Option Record → Type 0
Timed now None = ⊥
Timed now (Some r) = r.time ≡ now

-- a record's time is the reading at which it was last inserted, replaced or raised
pub record TimesTellTheLastChange : Type 0 where
  -- what one of the entries touched has their time
  pub touched_then : (own now : ℕ) (rows : List Record) (es : List Entry) (c : ℕ) → ascends client_of rows ≡ true → Did (Touches own) own now rows es c → Timed now (held_of c (taken own now rows es))
  -- what none did is as it was, with its time
  pub else_as_before : (own now : ℕ) (rows : List Record) (es : List Entry) (c : ℕ) → ascends client_of rows ≡ true → (Did (Touches own) own now rows es c → ⊥) → held_of c (taken own now rows es) ≡ held_of c rows

-- an entry that meets a record leaves of its client what wins of the two
abbrev pub WinnersAreStored : Type 0
WinnersAreStored = (own now : ℕ) (rows : List Record) (e : Entry) (r : Record) → ascends client_of rows ≡ true → held_of e.client rows ≡ Some r → held_of e.client (received own now rows e) ≡ Some (met own now r e)
