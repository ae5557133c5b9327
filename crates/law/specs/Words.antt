-- What a hub is asked and what it tells.
--   Call       a call, with its bytes and arguments, and what the caller lent for the answer
--   Lists      the four lists of clients that an apply tells
--   Answer     what a call tells
--   Told       a call, its answer, and the readings of the clock that were taken in it
--   History    what was told, from the first call on
--   wrote      bytes that were written, or why not
--   both       two rows of bytes, one after the other
use Rattle.std.specs.Prelude.{ℕ, Bool, List, ◌++◌, Ok, Err, Option, Result}
use Rattle.encoding.specs.Writing.{Row}
use Rattle.awareness.specs.Record.{Record}
use Rattle.calls.specs.declared.answer.Handled.{Handled}
use Rattle.calls.specs.declared.answer.Refusal.{Refusal}
use Rattle.calls.specs.declared.fault.Fault.{Fault}

-- a call
pub data Call : Type 0 where
  -- messages in bytes, and how many bytes their replies may have
  handle : List ℕ → ℕ → Call
  -- a presence update in bytes, and whether each of the four lists has 64 places
  apply : List ℕ → Bool → Call
  -- a text for the own client
  set : List ℕ → Call
  -- the own client is made null
  clean : Call
  -- a client is made null
  remove : ℕ → Call
  -- the document's vector as a step 1 message, and how many bytes it may have
  step1 : ℕ → Call
  -- the same, and all live records after it
  start : ℕ → Call
  -- what is held of a client
  show : ℕ → Call
  -- the update of some clients, and how many bytes it may have
  list : List ℕ → ℕ → Call

-- four lists of clients, by what an update did to them
pub record Lists : Type 0 where
  pub added : List ℕ
  pub updated : List ℕ
  pub changed : List ℕ
  pub removed : List ℕ

-- what a call tells
pub data Answer : Type 0 where
  -- of messages: how far they were done, and the bytes of the replies
  handled : Result Handled Refusal → List ℕ → Answer
  -- of an update
  applied : Lists → Answer
  done : Answer
  -- bytes that were written
  written : List ℕ → Answer
  -- a record, where one is held
  shown : Option Record → Answer
  -- any call but handle, for a fault
  refused : Fault → Answer

-- a call with its answer, and the readings of the clock that were taken in it
pub record Told : Type 0 where
  pub call : Call
  pub answer : Answer
  pub readings : List ℕ

abbrev pub told : Call → Answer → List ℕ → Told
told c a ns = record { call = c; answer = a; readings = ns }

-- what was told, from the first call on
abbrev pub History : Type 0
History = List Told

-- bytes that were written, or why not
abbrev pub wrote : Result (List ℕ) Fault → Answer
wrote (Ok bs) = written bs
wrote (Err f) = refused f

-- two rows, one after the other, where both have bytes
abbrev pub both : Row → Row → Row
both (Ok a) (Ok b) = Ok (a ++ b)
both (Ok a) (Err f) = Err f
both (Err f) r = Err f
