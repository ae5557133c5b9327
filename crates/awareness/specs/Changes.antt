-- What entries did, and the lists of clients that tell of it.
--   same        a text is held, and it is this one
--   taken_over    what an entry does that takes the place of a record
--   change_by    what an entry does to what is held of its client
--   comes        the record that comes in with an entry, if one does
--   come_in      the records after it
--   changes      what each of a row of entries does, with its client
--   is_added, is_updated, is_changed, is_removed   which lists a change is in
--   listed       the clients of some of the changes, ascending, each once
--   told_of      the four lists of a row of changes
--   noted        what an observer is after it was told of changes, one after another
use Rattle.std.specs.Prelude.{ℕ, Bool, true, false, cond, List, [], ◌∷◌, map, filter, Some, None, Option, is_some}
use Rattle.std.specs.Str.{bytes_eq}
use Rattle.state_vector.specs.Tables.{always, row}
use Rattle.message.specs.Presence.{Entry}
use Rattle.awareness.specs.declared.change.Change.{Change}
use Rattle.awareness.specs.declared.change.Change.TheVariants.{Kept, Hidden, Added, Repeated, Changed, Raised, Removed}
use Rattle.awareness.specs.Record.{Record, outranks, held_of}
use Rattle.awareness.specs.Taking.{defies, newcomer, received, stored}

-- a text is held, and it has these bytes
abbrev pub same : Option (List ℕ) → List ℕ → Bool
same None bs = false
same (Some held) bs = bytes_eq held bs

-- what an entry does that takes the place of a record with this state
abbrev pub taken_over : Option (List ℕ) → Option (List ℕ) → Change
taken_over held None = Removed
taken_over held (Some bs) = cond (same held bs) Repeated Changed

-- what an entry does to what is held of its client
abbrev pub change_by : ℕ → Option Record → Entry → Change
change_by own None e = cond (is_some e.state) Added Hidden
change_by own (Some r) e = cond (defies own r e) Raised (cond (outranks e.clock e.state r.clock r.state) (taken_over r.state e.state) Kept)

-- the record that comes in with a change; none where what is held stays
abbrev pub comes_by : Change → Record → Option Record
comes_by Kept r = None
comes_by Hidden r = Some r
comes_by Added r = Some r
comes_by Repeated r = Some r
comes_by Changed r = Some r
comes_by Raised r = Some r
comes_by Removed r = Some r

-- the same of an entry, by what is held of its client
abbrev pub comes : ℕ → ℕ → Option Record → Entry → Option Record
comes own now o e = comes_by (change_by own o e) (newcomer own now o e)

-- the records after one came in, or none did
abbrev pub come_in : List Record → Option Record → List Record
come_in rows None = rows
come_in rows (Some r) = stored rows r

-- what each of a row of entries does, with its client
abbrev pub changes : ℕ → ℕ → List Record → List Entry → List (ℕ × Change)
changes own now rows [] = []
changes own now rows (e ∷ es) = (e.client, change_by own (held_of e.client rows) e) ∷ changes own now (received own now rows e) es

-- a text came where no record was
abbrev pub is_added : Change → Bool
is_added Added = true
is_added Kept = false
is_added Hidden = false
is_added Repeated = false
is_added Changed = false
is_added Raised = false
is_added Removed = false

-- a text was taken over a record, or the own record was raised
abbrev pub is_updated : Change → Bool
is_updated Repeated = true
is_updated Changed = true
is_updated Raised = true
is_updated Kept = false
is_updated Hidden = false
is_updated Added = false
is_updated Removed = false

-- a text was taken over a record that was not live with the same bytes
abbrev pub is_changed : Change → Bool
is_changed Changed = true
is_changed Kept = false
is_changed Hidden = false
is_changed Added = false
is_changed Repeated = false
is_changed Raised = false
is_changed Removed = false

-- a null was taken over a record
abbrev pub is_removed : Change → Bool
is_removed Removed = true
is_removed Kept = false
is_removed Hidden = false
is_removed Added = false
is_removed Repeated = false
is_removed Changed = false
is_removed Raised = false

-- the clients of those changes that a list has, ascending, each once
abbrev pub listed : (Change → Bool) → List (ℕ × Change) → List ℕ
listed picks xs = row (λ c. c) always [] (map (λ x. x.0) (filter (λ x. picks x.1) xs))

-- what an observer is after it was told of changes, one after another
abbrev pub noted : {S : Type 0} → (S → ℕ → Change → S) → S → List (ℕ × Change) → S
noted after s [] = s
noted after s (x ∷ xs) = noted after (after s x.0 x.1) xs
