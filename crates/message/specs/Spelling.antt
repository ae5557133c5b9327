-- Messages in the format's own words: which bytes spell which message.
--   Tagged            a number of 8 bits, then a body
--   MessageIs         how each message is spelt
--   Shows             what a text shows
--   PresenceEntryIs   a client id, a clock, then a presence text
--   PresenceIs        a count, then so many entries
--   Holds             what a message's buffer has to hold
--   MessagesAreAsSpelt   messages are read exactly as they are spelt
use Rattle.std.specs.Prelude.{◌≡◌, ℕ, ◌-◌, ◌^◌, ◌<◌, ◌≤◌, List, [], ◌++◌, Some, None, codes, Option, ◌≢◌}
use Rattle.encoding.specs.Spelling.{Exactly, NumberIs, BufferIs, TextIs, ClientIs, PresenceTextIs, CountedIs}
use Rattle.state_vector.specs.declared.vector.VectorEntry.{VectorEntry}
use Rattle.state_vector.specs.Spelling.{VectorIs}
use Rattle.state_vector.specs.Vector.{vector_entries}
use Rattle.message.specs.Message.{Said, step1, step2, update, awareness, denied, granted, query, custom, message}
use Rattle.message.specs.Messages.{whole, next}
use Rattle.message.specs.Presence.{Entry, presence}

-- a number of 8 bits, then a body
abbrev pub Tagged : ℕ → (List ℕ → Type 0) → List ℕ → Type 0
Tagged n Body bs = (tag : List ℕ) × (b : List ℕ) × (bs ≡ tag ++ b) × NumberIs (2 ^ 8 - 1) n tag × Body b

-- how each message is spelt
pub data MessageIs : Said → List ℕ → Type 0 where
  -- tag 0, kind 0 and a buffer
  step1_is : {part bs : List ℕ} → Tagged 0 (Tagged 0 (BufferIs part)) bs → MessageIs (step1 part) bs
  -- tag 0, kind 1 and a buffer
  step2_is : {part bs : List ℕ} → Tagged 0 (Tagged 1 (BufferIs part)) bs → MessageIs (step2 part) bs
  -- tag 0, kind 2 and a buffer
  update_is : {part bs : List ℕ} → Tagged 0 (Tagged 2 (BufferIs part)) bs → MessageIs (update part) bs
  -- tag 1 and a buffer
  awareness_is : {part bs : List ℕ} → Tagged 1 (BufferIs part) bs → MessageIs (awareness part) bs
  -- tag 2, flag 0 and a text
  denied_is : {reason bs : List ℕ} → Tagged 2 (Tagged 0 (TextIs reason)) bs → MessageIs (denied reason) bs
  -- tag 2 and any other flag
  granted_is : {bs : List ℕ} (flag : ℕ) → 0 < flag → Tagged 2 (NumberIs (2 ^ 8 - 1) flag) bs → MessageIs granted bs
  -- tag 3 and nothing
  query_is : {bs : List ℕ} → Tagged 3 (λ b. b ≡ []) bs → MessageIs query bs
  -- any other tag and a buffer
  custom_is : {tag : ℕ} {part bs : List ℕ} → 4 ≤ tag → Tagged tag (BufferIs part) bs → MessageIs (custom tag part) bs

-- what a text shows: none where it is the four bytes of null, and else itself
abbrev pub Shows : List ℕ → Option (List ℕ) → Type 0
Shows text None = text ≡ codes "null"
Shows text (Some shown) = (text ≡ shown) × (text ≢ codes "null")

-- a client id, a clock of 32 bits, then a presence text
abbrev pub PresenceEntryIs : Entry → List ℕ → Type 0
PresenceEntryIs e bs = (a : List ℕ) × (b : List ℕ) × (c : List ℕ) × (text : List ℕ) × (bs ≡ a ++ (b ++ c)) × ClientIs e.client a × NumberIs (2 ^ 32 - 1) e.clock b × PresenceTextIs text c × Shows text e.state

-- a count of 64 bits, then so many entries
abbrev pub PresenceIs : List Entry → List ℕ → Type 0
PresenceIs = CountedIs 64 PresenceEntryIs

-- what a message's buffer has to hold, with any bytes after it: step 1 a vector, awareness a presence update
abbrev pub Holds : Said → Type 0
Holds (step1 part) = (es : List VectorEntry) × (bs : List ℕ) × (rest : List ℕ) × (part ≡ bs ++ rest) × VectorIs es bs
Holds (awareness part) = (es : List Entry) × (bs : List ℕ) × (rest : List ℕ) × (part ≡ bs ++ rest) × PresenceIs es bs
Holds (step2 part) = Unit {0}
Holds (update part) = Unit {0}
Holds (denied reason) = Unit {0}
Holds granted = Unit {0}
Holds query = Unit {0}
Holds (custom tag part) = Unit {0}

-- messages are read exactly as they are spelt
pub record MessagesAreAsSpelt : Type 0 where
  -- a message without what its buffer holds
  pub framed : Exactly message MessageIs
  -- what a step 1 buffer holds
  pub vectors : Exactly vector_entries VectorIs
  -- what an awareness buffer holds
  pub presences : Exactly presence PresenceIs
  -- a message that is taken is spelt by the first bytes, and its buffer holds what it has to
  pub taken_is_spelt : (s rest : List ℕ) (m : Said) → next s ≡ whole m rest → (bs : List ℕ) × (s ≡ bs ++ rest) × MessageIs m bs × Holds m
  -- and every such message is taken
  pub spelt_is_taken : (m : Said) (bs rest : List ℕ) → MessageIs m bs → Holds m → next (bs ++ rest) ≡ whole m rest
