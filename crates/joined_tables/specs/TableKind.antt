-- Kinds of document that are tables: what is left to say of one is how its entries are.
--   Rows        the entries of such a kind: their client, which stands above which, which may be held, how one is read and written, how a vector tells of it, and which whoever has a vector lacks
--   Table       the documents
--   rows_in      the entries of an update as they stand in the bytes
--   table_of     the table that entries make
--   news_for     the entries of an update for a vector
--   table_kind   the kind
--   Fair        what the entries owe for the laws to hold
use Rattle.std.specs.Prelude.{◌≡◌, ℕ, ◌^◌, ◌<◌, ◌≤◌, Bool, true, false, List, ◌++◌, map, length, Ok, Err, filter, Option, Result}
use Rattle.std.specs.Option.{option_map}
use Rattle.encoding.specs.declared.fault.WireFault.{WireFault}
use Rattle.encoding.specs.Entries.{entries}
use Rattle.encoding.specs.Fields.{count_in}
use Rattle.encoding.specs.Reading.{Reading, thence}
use Rattle.encoding.specs.Writing.{counted_out}
use Rattle.state_vector.specs.declared.vector.VectorEntry.{VectorEntry}
use Rattle.state_vector.specs.Tables.{Order}
use Rattle.state_vector.specs.Vector.{clock_of}
use Rattle.document.specs.Kind.{Kind}
use Rattle.joined_tables.specs.Joined.{Sound, none, gather, joined, table, Decided, HeldOff}
use Rattle.joined_tables.specs.Whole.{wholly}

-- the entries of a kind of tables
pub record Rows (E : Type 0) : Type 0 where
  -- the client of an entry, its key
  pub client : E → ℕ
  -- the first stands above the second
  pub above : E → E → Bool
  -- a table may hold it
  pub fine : E → Bool
  -- how one is read
  pub reading : List ℕ → Reading E
  -- and written
  pub writing : E → List ℕ
  -- how a vector tells of it
  pub told : E → VectorEntry
  -- whoever has the vector lacks it
  pub news : List VectorEntry → E → Bool

module _ {E : Type 0} (rows : Rows E) where
  -- the documents: tables of entries that may be held
  abbrev pub Table : Type 0
  Table = Sound rows.client rows.fine

  -- the entries of an update as they stand in the bytes: how many, of 32 bits and at most 64, then so many
  abbrev pub rows_in : List ℕ → Reading (List E)
  rows_in s = thence (count_in 32 s) (entries rows.reading)

  -- the table that entries make: of a client's several entries the one that stands highest, and none that may not be held
  abbrev pub table_of : Result (List E) WireFault → Result Table WireFault
  table_of (Ok es) = Ok (gather rows.client rows.above rows.fine (none rows.client rows.above rows.fine) es)
  table_of (Err f) = Err f

  -- the table with these entries
  abbrev pub table_with : List E → Table
  table_with xs = table rows.client rows.above rows.fine xs

  -- the entries that whoever has the vector lacks
  abbrev pub news_for : Table → List VectorEntry → List E
  news_for d v = filter (rows.news v) d.0

  -- the kind: bytes left over are unreadable, and size is the number of entries
  abbrev pub table_kind : Kind
  table_kind = record {
    Document = Table;
    empty = none rows.client rows.above rows.fine;
    join = joined rows.client rows.above rows.fine;
    size = λ d. length d.0;
    vector = λ d. map rows.told d.0;
    reading = λ bytes. table_of (wholly (rows_in bytes));
    update = λ d v. counted_out rows.writing (news_for d v);
  }

  -- the clock that a vector tells of what is held
  abbrev pub clock_held : Option E → Option ℕ
  clock_held o = option_map (λ x. (rows.told x).clock) o

  -- what the entries owe for the laws to hold
  pub record Fair : Type 0 where
    pub order : Order rows.above
    pub decided : Decided rows.client rows.above
    pub same_client : (x : E) → (rows.told x).client ≡ rows.client x
    pub ids : (x : E) → rows.fine x ≡ true → rows.client x < 2 ^ 53
    pub clocks : (x : E) → rows.fine x ≡ true → (rows.told x).clock < 2 ^ 32
    pub reads_back : (x : E) (rest : List ℕ) → rows.fine x ≡ true → rows.reading (rows.writing x ++ rest) ≡ Ok (x, rest)
    pub short : (x : E) → rows.fine x ≡ true → length (rows.writing x) ≤ 64
    -- what is no news to whoever has a vector is held off by the entry that the vector tells of
    pub old_news : (x : E) (v : List VectorEntry) (o : Option E) → rows.fine x ≡ true → clock_of (rows.client x) v ≡ clock_held o → rows.news v x ≡ false → HeldOff rows.client rows.above rows.fine x o
