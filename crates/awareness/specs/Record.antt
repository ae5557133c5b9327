-- What a hub holds of each client, and which newcomer takes its place.
--   Record      a client, its clock, the time of its last change, and what it shows
--   client_of   the client of a record, its key
--   outranks    a clock and a state against those held
--   above       the same of two records
--   entry_of    what a record says of its client
--   live        it shows a text
--   Writable    a record that can be written and read again
--   held_of     the record held of a client
--   Clients     the own client id and all records
use Rattle.std.specs.Prelude.{ℕ, Bool, ◌&&◌, ◌||◌, List, Option, is_none, is_some, ◌==◌, nat_lt}
use Rattle.state_vector.specs.Tables.{held}
use Rattle.message.specs.Presence.{Entry}
use Rattle.message.specs.Writing.{Readable}

-- what is held of a client
pub record Record : Type 0 where
  pub client : ℕ
  pub clock : ℕ
  -- the reading of the clock at which it was last inserted, replaced or raised
  pub time : ℕ
  -- what it shows: null, which is none, or a live text
  pub state : Option (List ℕ)

-- the client of a record, its key
abbrev pub client_of : Record → ℕ
client_of r = r.client

-- a newcomer at clock m stands above what is held at clock n: at a higher clock, or as null at the same clock while that is live
abbrev pub outranks : ℕ → Option (List ℕ) → ℕ → Option (List ℕ) → Bool
outranks m s n t = nat_lt n m || (m == n && (is_none s && is_some t))

-- the same of two records
abbrev pub above : Record → Record → Bool
above e x = outranks e.clock e.state x.clock x.state

-- what a record says of its client
abbrev pub entry_of : Record → Entry
entry_of r = record { client = r.client; clock = r.clock; state = r.state }

-- it shows a text
abbrev pub live : Record → Bool
live r = is_some r.state

-- what it says can be written and read again
abbrev pub Writable : Record → Type 0
Writable r = Readable (entry_of r)

-- the record held of a client
abbrev pub held_of : ℕ → List Record → Option Record
held_of c rows = held client_of c rows

-- what a hub holds: its own client id, and the records, which ascend by client
pub record Clients : Type 0 where
  pub own : ℕ
  pub rows : List Record
