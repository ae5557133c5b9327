-- Worked cases, as a table, over the definitions on which contracts rest.
--   Case       a field that is read, or a call that is made
--   live, null   a record of a client that shows a text, or none, as of a time
--   count_hub, slot_hub   a hub of client 1 over a count board, or a slot board
--   Makes      what a call tells and leaves
--   Holds      a case holds
--   quoted_in   a text
--   handles, did   a handle, and what it tells where it meets no fault
--   updates_1, tells_nothing   what an apply tells
--   cases      the table
--   AllHold, CasesHold   each case of it holds
use Rattle.std.specs.Prelude.{◌≡◌, ℕ, ◌-◌, ◌^◌, true, List, [], ◌∷◌, Some, None, Ok, Err}
use Rattle.encoding.specs.declared.fault.WireFault.TheVariants.{InvalidVarInt, EndOfBuffer}
use Rattle.encoding.specs.Fields.{client_id_in}
use Rattle.encoding.specs.Reading.{Reading}
use Rattle.encoding.specs.VarUint.{var_uint}
use Rattle.joined_tables.specs.TableKind.{table_with}
use Rattle.document.specs.Kind.{Kind}
use Rattle.boards.specs.declared.count.Count.{Count}
use Rattle.boards.specs.CountBoard.{board, counts}
use Rattle.boards.specs.SlotBoard.{Plain, slot_rows, slots}
use Rattle.awareness.specs.declared.fault.PresenceFault.TheVariants.{ClockAtEnd}
use Rattle.awareness.specs.Record.{Record}
use Rattle.calls.specs.declared.fault.Fault.TheVariants.{Wire, Presence}
use Rattle.calls.specs.Handling.{Hub}
use Rattle.calls.specs.Policies.{plain_accepts}
use Rattle.law.specs.Words.{Call, handle, apply, Answer, handled, applied, refused}
use Rattle.law.specs.Model.{Step, perform}

-- a field that is read, or a call that is made at reading 1000
pub data Case : Type 0 where
  -- bytes as a number of so many bits
  number : ℕ → List ℕ → Reading ℕ → Case
  -- bytes as a client id
  id : List ℕ → Reading ℕ → Case
  -- a call on a hub with these counts and records: what it tells, and the records then
  on_counts : List Count → List Record → Call → Answer → List Record → Case
  -- a call on a hub with these slots: what it tells
  on_slots : List Plain → Call → Answer → Case

-- a record of a client that shows a text, as of a time
abbrev pub live : ℕ → ℕ → ℕ → List ℕ → Record
live client clock time text = record { client = client; clock = clock; time = time; state = Some text }

-- and of one that shows none
abbrev pub null : ℕ → ℕ → ℕ → Record
null client clock time = record { client = client; clock = clock; time = time; state = None }

-- a hub of client 1 with these counts and records
abbrev pub count_hub : List Count → List Record → Hub counts
count_hub xs rows = record { own = 1; rows = rows; document = board xs }

-- and with these slots
abbrev pub slot_hub : List Plain → Hub slots
slot_hub xs = record { own = 1; rows = []; document = table_with slot_rows xs }

-- a call tells this and leaves these records
abbrev pub Makes : (k : Kind) → ℕ → Hub k → Call → Answer → List Record → Type 0
Makes k limit h call answer rows = let step : Step k = perform k limit plain_accepts h (1000 ∷ []) call in (step.answer ≡ answer) × (step.hub.rows ≡ rows)

-- a case holds
abbrev pub Holds : Case → Type 0
Holds (number bits bytes r) = var_uint (2 ^ bits - 1) bytes ≡ r
Holds (id bytes r) = client_id_in bytes ≡ r
Holds (on_counts xs before call answer rows) = Makes counts 64 (count_hub xs before) call answer rows
Holds (on_slots xs call answer) = Makes slots 16 (slot_hub xs) call answer []

-- the text "in", in quotes
abbrev pub quoted_in : List ℕ
quoted_in = 0x22 ∷ 0x69 ∷ 0x6E ∷ 0x22 ∷ []

-- a handle with 100 bytes for its replies, that does so many messages up to a place and replies so
abbrev pub handles : List ℕ → Call
handles bytes = handle bytes 100

abbrev pub did : ℕ → ℕ → ℕ → List ℕ → Answer
did messages place size out = handled (Ok (record { messages = messages; place = place; replies = size })) out

-- lists in which a client was updated, or nothing was told
abbrev pub updates_1 : Answer
updates_1 = applied (record { added = []; updated = 1 ∷ []; changed = []; removed = [] })

abbrev pub tells_nothing : Answer
tells_nothing = applied (record { added = []; updated = []; changed = []; removed = [] })

-- the table
abbrev pub cases : List Case
cases =
    number 32 (0x80 ∷ 0x00 ∷ []) (Ok (0, []))
    ∷ number 32 (0xFF ∷ 0xFF ∷ 0xFF ∷ 0xFF ∷ 0x0F ∷ []) (Ok (4294967295, []))
    ∷ number 32 (0x80 ∷ 0x80 ∷ 0x80 ∷ 0x80 ∷ 0x10 ∷ []) (Err InvalidVarInt)
    ∷ id (0xFF ∷ 0xFF ∷ 0xFF ∷ 0xFF ∷ 0xFF ∷ 0xFF ∷ 0xFF ∷ 0x0F ∷ []) (Ok (2 ^ 53 - 1, []))
    -- client 7 comes live, is made null at the same clock, and stays so where its text comes again
    ∷ on_counts [] [] (handles (0x01 ∷ 0x08 ∷ 0x01 ∷ 0x07 ∷ 0x03 ∷ 0x04 ∷ 0x22 ∷ 0x69 ∷ 0x6E ∷ 0x22 ∷ [])) (did 1 10 0 []) (live 7 3 1000 quoted_in ∷ [])
    ∷ on_counts [] (live 7 3 1 quoted_in ∷ []) (handles (0x01 ∷ 0x08 ∷ 0x01 ∷ 0x07 ∷ 0x03 ∷ 0x04 ∷ 0x6E ∷ 0x75 ∷ 0x6C ∷ 0x6C ∷ [])) (did 1 10 0 []) (null 7 3 1000 ∷ [])
    ∷ on_counts [] (null 7 3 2 ∷ []) (handles (0x01 ∷ 0x08 ∷ 0x01 ∷ 0x07 ∷ 0x03 ∷ 0x04 ∷ 0x22 ∷ 0x69 ∷ 0x6E ∷ 0x22 ∷ [])) (did 1 10 0 []) (null 7 3 2 ∷ [])
    -- the own client, live at 5, meets a null at 5, then again, and one at 4
    ∷ on_counts [] (live 1 5 1 quoted_in ∷ []) (apply (0x01 ∷ 0x01 ∷ 0x05 ∷ 0x04 ∷ 0x6E ∷ 0x75 ∷ 0x6C ∷ 0x6C ∷ []) true) updates_1 (live 1 6 1000 quoted_in ∷ [])
    ∷ on_counts [] (live 1 6 2 quoted_in ∷ []) (apply (0x01 ∷ 0x01 ∷ 0x05 ∷ 0x04 ∷ 0x6E ∷ 0x75 ∷ 0x6C ∷ 0x6C ∷ []) true) tells_nothing (live 1 6 2 quoted_in ∷ [])
    ∷ on_counts [] (live 1 5 1 quoted_in ∷ []) (apply (0x01 ∷ 0x01 ∷ 0x04 ∷ 0x04 ∷ 0x6E ∷ 0x75 ∷ 0x6C ∷ 0x6C ∷ []) true) tells_nothing (live 1 5 1 quoted_in ∷ [])
    -- a null one below the end of the clock, and one at its end
    ∷ on_counts [] (live 1 5 1 quoted_in ∷ []) (apply (0x01 ∷ 0x01 ∷ 0xFE ∷ 0xFF ∷ 0xFF ∷ 0xFF ∷ 0x0F ∷ 0x04 ∷ 0x6E ∷ 0x75 ∷ 0x6C ∷ 0x6C ∷ []) true) updates_1 (live 1 4294967295 1000 quoted_in ∷ [])
    ∷ on_counts [] (live 1 5 1 quoted_in ∷ []) (apply (0x01 ∷ 0x01 ∷ 0xFF ∷ 0xFF ∷ 0xFF ∷ 0xFF ∷ 0x0F ∷ 0x04 ∷ 0x6E ∷ 0x75 ∷ 0x6C ∷ 0x6C ∷ []) true) (refused (Presence ClockAtEnd)) (live 1 5 1 quoted_in ∷ [])
    -- an update that is cut inside its buffer is refused, and one that is cut outside ends the reading
    ∷ on_counts [] [] (handles (0x01 ∷ 0x01 ∷ 0x01 ∷ 0x03 ∷ [])) (handled (Err (record { fault = Wire EndOfBuffer; message = 0; place = 0; replies = 0 })) []) []
    ∷ on_counts [] [] (handles (0x01 ∷ 0x02 ∷ 0x01 ∷ [])) (did 0 0 0 []) []
    -- step 1 is replied to with step 2
    ∷ on_counts (record { client = 5; count = 301 } ∷ record { client = 9; count = 2 } ∷ []) [] (handles (0x00 ∷ 0x00 ∷ 0x04 ∷ 0x01 ∷ 0x05 ∷ 0xAC ∷ 0x02 ∷ [])) (did 1 7 9 (0x00 ∷ 0x01 ∷ 0x06 ∷ 0x02 ∷ 0x05 ∷ 0xAD ∷ 0x02 ∷ 0x09 ∷ 0x02 ∷ [])) []
    ∷ on_slots (record { client = 5; clock = 2; bytes = 0x61 ∷ [] } ∷ []) (handles (0x00 ∷ 0x00 ∷ 0x03 ∷ 0x01 ∷ 0x05 ∷ 0x02 ∷ [])) (did 1 6 8 (0x00 ∷ 0x01 ∷ 0x05 ∷ 0x01 ∷ 0x05 ∷ 0x02 ∷ 0x01 ∷ 0x61 ∷ []))
    ∷ []

-- each of some cases holds
abbrev pub AllHold : List Case → Type 0
AllHold [] = Unit {0}
AllHold (c ∷ cs) = Holds c × AllHold cs

-- each case of the table holds
abbrev pub CasesHold : Type 0
CasesHold = AllHold cases
