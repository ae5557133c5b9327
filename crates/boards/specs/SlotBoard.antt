-- The slot board: for each client the bytes that it wrote last.
--   Plain        a slot by its client, its clock and its bytes
--   later        later in byte order
--   client_of, outranks   the key of a slot, and which stands above which
--   keepable     a slot that a board may hold
--   slot_clock, slot_bytes   whether a number can be a slot's clock, and bytes its bytes
--   slot_of       a slot of a client, a clock and bytes, or why there is none
--   slot_in       a slot, read
--   slot_out      a slot, as it is written
--   as_vector     a slot as an entry of a vector
--   is_news       a slot that whoever has the vector may lack
--   slot_rows     slots as the entries of a kind of tables
--   slots_in      the slots of an update as they stand in the bytes
--   Board        the documents: tables of slots that may be held
--   board        the board with these slots
--   slots        the kind
--   SlotIs, SlotsAre   which bytes spell which slot, and which update
use Rattle.std.specs.Prelude.{◌≡◌, ℕ, ◌-◌, ◌^◌, ◌<◌, ◌≤◌, Bool, cond, ◌&&◌, List, ◌∷◌, ◌++◌, length, Ok, Err, Result, unwrap_or, nat_le, nat_lt}
use Rattle.std.specs.Cmp.Lexicographic.{slice_cmp}
use Rattle.std.specs.Ordering.{is_gt, nat_cmp}
use Rattle.std.specs.Result.{result_and}
use Rattle.encoding.specs.declared.fault.WireFault.{WireFault}
use Rattle.encoding.specs.declared.fault.WireFault.TheVariants.{UnexpectedValue, TextTooLong}
use Rattle.encoding.specs.Fields.{buffer, client_id, client_id_in}
use Rattle.encoding.specs.Reading.{Reading, thence, named, passed}
use Rattle.encoding.specs.Spelling.{NumberIs, BufferIs, ClientIs, CountedIs}
use Rattle.encoding.specs.VarUint.{var_uint}
use Rattle.encoding.specs.Writing.{shortest, packed}
use Rattle.state_vector.specs.declared.vector.VectorEntry.{VectorEntry}
use Rattle.state_vector.specs.Vector.{clock_of}
use Rattle.document.specs.Kind.{Kind}
use Rattle.joined_tables.specs.TableKind.{Rows, Table, rows_in, table_with, table_kind}

-- a slot by its client, its clock and its bytes
pub record Plain : Type 0 where
  pub client : ℕ
  pub clock : ℕ
  pub bytes : List ℕ

-- later in byte order: a prefix is earlier
abbrev pub later : List ℕ → List ℕ → Bool
later xs ys = is_gt (slice_cmp nat_cmp xs ys)

-- the client of a slot, its key
abbrev pub client_of : Plain → ℕ
client_of e = e.client

-- the higher clock stands above, and at the same clock the later bytes
abbrev pub outranks : Plain → Plain → Bool
outranks x y = later (x.clock ∷ x.bytes) (y.clock ∷ y.bytes)

-- a slot that a board may hold: of a client that can be written, at a clock of 32 bits from 1 on, with at most 32 bytes
abbrev pub keepable : Plain → Bool
keepable e = nat_lt e.client (2 ^ 53) && (nat_lt 0 e.clock && (nat_lt e.clock (2 ^ 32) && nat_le (length e.bytes) 32))

-- whether a number can be a slot's clock: it is not 0
abbrev pub slot_clock : ℕ → Result (Unit {0}) WireFault
slot_clock n = cond (nat_lt 0 n) (Ok tt) (Err UnexpectedValue)

-- whether bytes can be a slot's: there are 32 at most
abbrev pub slot_bytes : List ℕ → Result (Unit {0}) WireFault
slot_bytes bs = cond (nat_le (length bs) 32) (Ok tt) (Err TextTooLong)

-- a slot of a client, a clock and bytes, or why there is none: the id is judged, then the clock, then the bytes
abbrev pub slot_of : ℕ → ℕ → List ℕ → Result Plain WireFault
slot_of id n bs = result_and (client_id id) (result_and (slot_clock n) (result_and (slot_bytes bs) (Ok (record { client = id; clock = n; bytes = bs }))))

-- a slot's clock, read
abbrev pub slot_clock_in : List ℕ → Reading ℕ
slot_clock_in s = thence (var_uint (2 ^ 32 - 1) s) (λ n rest. passed (slot_clock n) n rest)

-- a slot's bytes, read
abbrev pub slot_bytes_in : List ℕ → Reading (List ℕ)
slot_bytes_in s = thence (buffer s) (λ bs rest. passed (slot_bytes bs) bs rest)

-- a slot, read: a client id, a clock, then a buffer
abbrev pub slot_in : List ℕ → Reading Plain
slot_in s = thence (client_id_in s) (λ id rest. thence (slot_clock_in rest) (λ n after. named (λ bs. record { client = id; clock = n; bytes = bs }) (slot_bytes_in after)))

-- a slot, as it is written: its client, its clock, then its bytes in a buffer
abbrev pub slot_out : Plain → List ℕ
slot_out e = shortest e.client ++ (shortest e.clock ++ packed e.bytes)

-- a slot as an entry of a vector
abbrev pub as_vector : Plain → VectorEntry
as_vector e = record { client = e.client; clock = e.clock }

-- whoever has the vector may lack this slot: it is not below the clock that the vector gives, where a client that it lacks is at 0, and at the same clock its bytes may be later
abbrev pub is_news : List VectorEntry → Plain → Bool
is_news v e = nat_le (unwrap_or (clock_of e.client v) 0) e.clock

-- slots as the entries of a kind of tables
abbrev pub slot_rows : Rows Plain
slot_rows = record { client = client_of; above = outranks; fine = keepable; reading = slot_in; writing = slot_out; told = as_vector; news = is_news }

-- the slots of an update as they stand in the bytes
abbrev pub slots_in : List ℕ → Reading (List Plain)
slots_in s = rows_in slot_rows s

-- the documents: tables of slots that may be held
abbrev pub Board : Type 0
Board = Table slot_rows

-- the board with these slots
abbrev pub board : List Plain → Board
board xs = table_with slot_rows xs

-- the kind of a slot board's documents
abbrev pub slots : Kind
slots = table_kind slot_rows

-- a client id, a clock from 1 on, then a buffer of at most 32 bytes, spell a slot
abbrev pub SlotIs : Plain → List ℕ → Type 0
SlotIs e bs = (a : List ℕ) × (b : List ℕ) × (c : List ℕ) × (bs ≡ a ++ (b ++ c)) × ClientIs e.client a × (NumberIs (2 ^ 32 - 1) e.clock b × (0 < e.clock)) × (BufferIs e.bytes c × (length e.bytes ≤ 32))

-- how many, then so many slots, spell an update
abbrev pub SlotsAre : List Plain → List ℕ → Type 0
SlotsAre = CountedIs 32 SlotIs
