-- The count board: for each client a count that only grows.
--   client_of, outranks   the key of a count, and which stands above which
--   keepable     a count that a board may hold
--   count_in      a count, read
--   count_out     a count, as it is written
--   as_vector     a count as an entry of a vector
--   is_news       a count that whoever has the vector lacks
--   count_rows    counts as the entries of a kind of tables
--   Board        the documents: tables of counts that may be held
--   counts_in     the counts of an update as they stand in the bytes
--   board        the board with these counts
--   counts       the kind
--   CountIs, CountsAre   which bytes spell which count, and which update
use Rattle.std.specs.Prelude.{◌≡◌, ℕ, ◌-◌, ◌^◌, Bool, ◌&&◌, List, ◌++◌, unwrap_or, nat_lt}
use Rattle.encoding.specs.Fields.{client_id_in}
use Rattle.encoding.specs.Reading.{Reading, thence, named}
use Rattle.encoding.specs.Spelling.{NumberIs, ClientIs, CountedIs}
use Rattle.encoding.specs.VarUint.{var_uint}
use Rattle.encoding.specs.Writing.{shortest}
use Rattle.state_vector.specs.declared.vector.VectorEntry.{VectorEntry}
use Rattle.state_vector.specs.Vector.{clock_of}
use Rattle.document.specs.Kind.{Kind}
use Rattle.joined_tables.specs.TableKind.{Rows, Table, rows_in, table_with, table_kind}
use Rattle.boards.specs.declared.count.Count.{Count}

-- the client of a count, its key
abbrev pub client_of : Count → ℕ
client_of e = e.client

-- the greater count stands above
abbrev pub outranks : Count → Count → Bool
outranks x y = nat_lt y.count x.count

-- a count that a board may hold: of a client that can be written, of 32 bits, and at least 1
abbrev pub keepable : Count → Bool
keepable e = nat_lt e.client (2 ^ 53) && (nat_lt 0 e.count && nat_lt e.count (2 ^ 32))

-- a count, read: a client id, then a number of 32 bits
abbrev pub count_in : List ℕ → Reading Count
count_in s = thence (client_id_in s) (λ id rest. named (λ n. record { client = id; count = n }) (var_uint (2 ^ 32 - 1) rest))

-- a count, as it is written: its client, then itself
abbrev pub count_out : Count → List ℕ
count_out e = shortest e.client ++ shortest e.count

-- a count as an entry of a vector
abbrev pub as_vector : Count → VectorEntry
as_vector e = record { client = e.client; clock = e.count }

-- whoever has the vector lacks this count: it is above the one that the vector gives, and a client that it lacks is at 0
abbrev pub is_news : List VectorEntry → Count → Bool
is_news v e = nat_lt (unwrap_or (clock_of e.client v) 0) e.count

-- counts as the entries of a kind of tables
abbrev pub count_rows : Rows Count
count_rows = record { client = client_of; above = outranks; fine = keepable; reading = count_in; writing = count_out; told = as_vector; news = is_news }

-- the documents: tables of counts that may be held
abbrev pub Board : Type 0
Board = Table count_rows

-- the counts of an update as they stand in the bytes
abbrev pub counts_in : List ℕ → Reading (List Count)
counts_in s = rows_in count_rows s

-- the board with these counts
abbrev pub board : List Count → Board
board xs = table_with count_rows xs

-- the kind of a count board's documents
abbrev pub counts : Kind
counts = table_kind count_rows

-- a client id, then a number of 32 bits, spell a count
abbrev pub CountIs : Count → List ℕ → Type 0
CountIs e bs = (a : List ℕ) × (b : List ℕ) × (bs ≡ a ++ b) × ClientIs e.client a × NumberIs (2 ^ 32 - 1) e.count b

-- how many, then so many counts, spell an update
abbrev pub CountsAre : List Count → List ℕ → Type 0
CountsAre = CountedIs 32 CountIs
