-- What entries that come to a hub do to its records. The hub has a client id of its own, and a time at which the entries come.
--   plain      an entry as a record
--   defies     the own record, live, meets a null with a clock not below its own
--   rises      a clock that has to rise can
--   lifted     it keeps its text, above the null
--   met        the record that is held after an entry met one
--   newcomer   the record that comes in with an entry
--   received   the records after an entry
--   taken      the records after a row of entries, one after another
--   next_clock   the clock after the one that is held
--   set_to       the own record after it was given a state
--   removed      a record after it was made null
--   stored       the records after one came that always takes its place
use Rattle.std.specs.Prelude.{ℕ, ◌+◌, ◌^◌, Bool, true, not, cond, ◌&&◌, ◌||◌, List, [], ◌∷◌, Some, None, Option, is_none, is_some, ◌==◌, nat_le, nat_lt}
use Rattle.state_vector.specs.Tables.{always, better, entered}
use Rattle.message.specs.Presence.{Entry}
use Rattle.awareness.specs.Record.{Record, client_of, above, held_of}

-- an entry as a record of its time
abbrev pub plain : ℕ → Entry → Record
plain now e = record { client = e.client; clock = e.clock; time = now; state = e.state }

-- the own record is live and meets a null with a clock not below its own
abbrev pub defies : ℕ → Record → Entry → Bool
defies own r e = (r.client == own) && (is_some r.state && (is_none e.state && nat_le r.clock e.clock))

-- it keeps its text, one clock above the null
abbrev pub lifted : ℕ → Record → Entry → Record
lifted now r e = record { client = r.client; clock = e.clock + 1; time = now; state = r.state }

-- the clock can rise where an entry makes it, and no further than 32 bits
abbrev pub rises : ℕ → Option Record → Entry → Bool
rises own None e = true
rises own (Some r) e = not (defies own r e) || nat_lt (e.clock + 1) (2 ^ 32)

-- the record that is held after an entry of its client met it
abbrev pub met : ℕ → ℕ → Record → Entry → Record
met own now r e = cond (defies own r e) (lifted now r e) (better above (plain now e) r)

-- the record that comes in with an entry, by what is held of its client
abbrev pub newcomer : ℕ → ℕ → Option Record → Entry → Record
newcomer own now None e = plain now e
newcomer own now (Some r) e = cond (defies own r e) (lifted now r e) (plain now e)

-- the records after an entry came
abbrev pub received : ℕ → ℕ → List Record → Entry → List Record
received own now rows e = entered client_of above rows (newcomer own now (held_of e.client rows) e)

-- the records after a row of entries came, one after another, each judged against the record just before it
abbrev pub taken : ℕ → ℕ → List Record → List Entry → List Record
taken own now rows [] = rows
taken own now rows (e ∷ es) = taken own now (received own now rows e) es

-- the clock after the one that is held, or 1
abbrev pub next_clock : Option Record → ℕ
next_clock None = 1
next_clock (Some r) = r.clock + 1

-- the time of what is held, or else this one
abbrev pub time_or : ℕ → Option Record → ℕ
time_or now None = now
time_or now (Some r) = r.time

-- the own record after it was given a state
abbrev pub set_to : ℕ → ℕ → Option (List ℕ) → Option Record → Record
set_to own now state o = record { client = own; clock = next_clock o; time = now; state = state }

-- a client's record after it was made null: it keeps its time
abbrev pub removed : ℕ → ℕ → Option Record → Record
removed c now o = record { client = c; clock = next_clock o; time = time_or now o; state = None }

-- the records after one came that always takes its place
abbrev pub stored : List Record → Record → List Record
stored rows r = entered client_of always rows r
