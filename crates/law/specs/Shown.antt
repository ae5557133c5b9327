-- What a hub holds of a client, by what happened.
--   Of         what is held, if anything is, is of a client
--   standing   the clock and the state of what is held
--   Shows      the clock and the state that a hub holds of a client
--   Touches    an event inserts, replaces or raises what is held of a client
--   reading_of   the reading of an event
--   Last       a time is that of the event which last did so
--   TimeOf, Holds      what a hub holds of a client, with its time
use Rattle.std.specs.Prelude.{◌≡◌, ◌≢◌, ℕ, List, ◌∷◌, ◌++◌, Some, None, Option}
use Rattle.awareness.specs.Newest.{HoldsNewest, Touches as Changes}
use Rattle.awareness.specs.Record.{Record}
use Rattle.law.specs.Events.{Event, came, stated, nulled, joined, arrived, Account, account}

-- what is held, if anything is, is of client c
abbrev pub Of : ℕ → Option Record → Type 0
Of c None = Unit {0}
Of c (Some r) = r.client ≡ c

-- the clock and the state of what is held
abbrev pub standing : Option Record → Option Account
standing None = None
standing (Some r) = Some (record { clock = r.clock; state = r.state })

-- the clock and the state that a hub with this id holds of client c: for another client the newest that arrived, for its own the account
pub record Shows (own : ℕ) (ds : List Event) (c : ℕ) (o : Option Record) : Type 0 where
  pub client : Of c o
  pub another : c ≢ own → HoldsNewest c (arrived own ds) o
  pub itself : c ≡ own → standing o ≡ account own ds

-- an event inserts, replaces or raises what is held of client c, by what happened before: an entry of c that does so, a state for the own client, or the removal of one of whom nothing was held
abbrev pub Touches : ℕ → List Event → ℕ → Event → Type 0
Touches own before c (came now e) = (e.client ≡ c) × (o : Option Record) × Shows own before c o × Changes own o e
Touches own before c (stated now state) = c ≡ own
Touches own before c (nulled now d) = (d ≡ c) × Shows own before c None
Touches own before c (joined part) = ⊥

-- the reading of an event
abbrev pub reading_of : Event → ℕ
reading_of (came now e) = now
reading_of (stated now state) = now
reading_of (nulled now c) = now
reading_of (joined part) = 0

-- a time is the reading of the event that last touched what is held of client c
pub record Last (own : ℕ) (ds : List Event) (c time : ℕ) : Type 0 where
  pub before : List Event
  pub event : Event
  pub after : List Event
  pub there : ds ≡ before ++ event ∷ after
  pub touched : Touches own before c event
  pub read : reading_of event ≡ time
  pub since : (some : List Event) (d : Event) (rest : List Event) → after ≡ some ++ d ∷ rest → Touches own (before ++ event ∷ some) c d → ⊥

-- what is held has the time of its last change
abbrev pub TimeOf : ℕ → List Event → ℕ → Option Record → Type 0
TimeOf own ds c None = Unit {0}
TimeOf own ds c (Some r) = Last own ds c r.time

-- what a hub holds of client c
pub record Holds (own : ℕ) (ds : List Event) (c : ℕ) (o : Option Record) : Type 0 where
  pub shows : Shows own ds c o
  pub time : TimeOf own ds c o
