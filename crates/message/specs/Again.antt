-- Messages that were read and are written again.
--   Absent     none of the entries is a client's
--   Apart      no client stands twice
--   by_client   the entries in ascending order of their clients
--   Again      what a message that was read says, to be written again
--   ReadAndWrittenAgain   it is never longer than what was read, and says the same
use Rattle.std.specs.Prelude.{◌≡◌, ℕ, ◌+◌, ◌≤◌, true, List, [], ◌∷◌, ◌++◌, length, Some, Ok, ◌≢◌}
use Rattle.std.specs.List.{ContainsAt as Has}
use Rattle.state_vector.specs.declared.vector.VectorEntry.{VectorEntry}
use Rattle.state_vector.specs.Tables.{always, ascends, held, latest, row}
use Rattle.state_vector.specs.Vector.{client_of, vector_entries, tabled, vector, clock_in, clock_of}
use Rattle.message.specs.Message.{Said, step1, step2, update, awareness, denied, granted, query, custom}
use Rattle.message.specs.Messages.{whole, next}
use Rattle.message.specs.Presence.{Entry, presence}
use Rattle.message.specs.ReadBack.{said, Same}
use Rattle.message.specs.Writing.{Told, step1, step2, update, awareness, denied, granted, query, custom, message_out}

-- none of the entries is the client's
abbrev pub Absent : ℕ → List Entry → Type 0
Absent c [] = Unit {0}
Absent c (e ∷ es) = (e.client ≢ c) × Absent c es

-- no client stands twice: none of the later entries has the client of an earlier one
abbrev pub Apart : List Entry → Type 0
Apart [] = Unit {0}
Apart (e ∷ es) = Absent e.client es × Apart es

-- the entries in ascending order of their clients
abbrev pub by_client : List Entry → List Entry
by_client es = row (λ e. e.client) always [] es

-- what a message that was read says, to be written again: a vector as its table, a presence update in which no client stands twice by its clients, and any other by the same parts
abbrev pub Again : Said → Told → Type 0
Again (step1 part) t = (es : List VectorEntry) × (vector part ≡ Ok es) × (t ≡ step1 es)
Again (awareness part) t = (es : List Entry) × (rest : List ℕ) × (presence part ≡ Ok (es, rest)) × Apart es × (t ≡ awareness (by_client es))
Again (step2 part) t = t ≡ step2 part
Again (update part) t = t ≡ update part
Again (denied reason) t = t ≡ denied reason
Again granted t = t ≡ granted
Again query t = t ≡ query
Again (custom tag part) t = t ≡ custom tag part

-- what was read, written again in shortest form, is never longer than what was read, and says the same
pub record ReadAndWrittenAgain : Type 0 where
  -- what is written takes no more bytes than what was read
  pub never_longer : (s rest bs : List ℕ) (m : Said) (t : Told) → next s ≡ whole m rest → Again m t → message_out t ≡ Ok bs → length bs + length rest ≤ length s
  -- and it is written: none of its lengths is too large, and a reason is a text
  pub always_written : (s rest : List ℕ) (m : Said) (t : Told) → next s ≡ whole m rest → Again m t → (bs : List ℕ) × (message_out t ≡ Ok bs)
  -- a vector's table has under each client the clock of that client's last entry
  pub same_vector : (part rest : List ℕ) (es : List VectorEntry) → vector_entries part ≡ Ok (es, rest) → (c : ℕ) → clock_of c (tabled es) ≡ clock_in (latest client_of c es)
  -- a presence update by its clients has under each client that client's last entry
  pub same_presence : (es : List Entry) (c : ℕ) → held (λ e. e.client) c (by_client es) ≡ latest (λ e. e.client) c es
  -- and its clients ascend
  pub ascending : (es : List Entry) → ascends (λ e. e.client) (by_client es) ≡ true
  -- where no client stands twice, every entry that was read is kept
  pub kept : (es : List Entry) (e : Entry) → Apart es → Has es e → held (λ x. x.client) e.client (by_client es) ≡ Some e
  -- what is written, whatever follows it, reads as that message, and its buffer holds what it was written from, as it is read
  pub reads_again : (s rest bs after : List ℕ) (m : Said) (t : Told) → next s ≡ whole m rest → Again m t → message_out t ≡ Ok bs → (next (bs ++ after) ≡ whole (said t) after) × Same t
