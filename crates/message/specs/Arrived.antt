-- Presence updates that were read to their end, and are then walked through without judging their texts again.
--   passed_entry   an entry whose text has been judged before
--   listed        what was read, as a list
--   due           the entries that so many bytes still hold
--   alone         an update without the bytes after it, or why there is none
--   single        the entry of an update that has no other
--   Walks         one step of the walk over entries
use Rattle.std.specs.Prelude.{◌≡◌, ℕ, ◌-◌, ◌^◌, List, [], ◌∷◌, Some, None, Ok, Err, Option, MatchOption, Result}
use Rattle.encoding.specs.declared.fault.WireFault.{WireFault}
use Rattle.encoding.specs.Entries.{entries}
use Rattle.encoding.specs.Fields.{buffer, client_id_in}
use Rattle.encoding.specs.Reading.{Reading, thence, named}
use Rattle.encoding.specs.VarUint.{var_uint}
use Rattle.message.specs.Presence.{Entry, state_of, presence_entry}

-- an entry whose text has been judged before: a client id, a clock of 32 bits, then a buffer
abbrev pub passed_entry : List ℕ → Reading Entry
passed_entry s = thence (client_id_in s) (λ id rest. thence (var_uint (2 ^ 32 - 1) rest) (λ n after. named (λ bs. record { client = id; clock = n; state = state_of bs }) (buffer after)))

-- what was read, as a list; none where it could not be read
abbrev pub listed : {X : Type 0} → Reading (List X) → List X
listed (Ok p) = p.0
listed (Err f) = []

-- the entries that bytes begin with, so many of them
abbrev pub due : ℕ → List ℕ → List Entry
due n s = listed (entries presence_entry n s)

-- an update without the bytes after it, or why there is none
abbrev pub alone : {X : Type 0} → Reading X → Result X WireFault
alone (Ok p) = Ok p.0
alone (Err f) = Err f

-- the only one of a list
abbrev pub only : {X : Type 0} → List X → Option X
only [] = None
only (x ∷ []) = Some x
only (x ∷ y ∷ ys) = None

-- the entry of an update that has no other; none where there is no such update
abbrev pub single : Reading (List Entry) → Option Entry
single (Ok p) = only p.0
single (Err f) = None

-- the first entry, and then the others; or none where there is none
abbrev pub Walks : List Entry → Option Entry → List Entry → Type 0
Walks es answer then = MatchOption answer ((es ≡ []) × (then ≡ [])) (λ e. es ≡ e ∷ then)
