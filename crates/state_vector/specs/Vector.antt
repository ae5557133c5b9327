-- State vectors: a clock for each of at most 64 clients.
--   client_of        the client id of an entry, its key
--   vector_entry     an entry, read
--   vector_entries   a vector's entries as they stand in the bytes
--   tabled          the table that entries make
--   tabled_after     the table that the entries of a reading make, beside those already held
--   vector          the table of a vector, read
--   clock_in         the clock of a held entry
--   clock_of         the clock of a client
--   takes           what a vector answers to an entry
--   taken           a vector's table after an entry came to it
--   VectorsHoldTheLast   what is read, in terms of the entries in the bytes
use Rattle.std.specs.Prelude.{◌≡◌, ℕ, ◌-◌, ◌^◌, true, cond, List, [], Ok, Err, Option, Result, nat_lt}
use Rattle.std.specs.Option.{option_map}
use Rattle.encoding.specs.declared.fault.WireFault.{WireFault}
use Rattle.encoding.specs.declared.fault.WireFault.TheVariants.{InvalidClientId, TooManyEntries}
use Rattle.encoding.specs.Entries.{entries}
use Rattle.encoding.specs.Fields.{client_id_in, count_in}
use Rattle.encoding.specs.Reading.{Reading, thence, named}
use Rattle.encoding.specs.VarUint.{var_uint}
use Rattle.state_vector.specs.declared.vector.VectorEntry.{VectorEntry}
use Rattle.state_vector.specs.Tables.{always, ascends, full, held, latest, row, updated}

-- the client id of an entry, its key
abbrev pub client_of : VectorEntry → ℕ
client_of e = e.client

-- an entry, read: a client id, then a number of 32 bits
abbrev pub vector_entry : List ℕ → Reading VectorEntry
vector_entry s = thence (client_id_in s) (λ id rest. named (λ n. record { client = id; clock = n }) (var_uint (2 ^ 32 - 1) rest))

-- a vector's entries as they stand in the bytes: a count of 32 bits, then so many entries
abbrev pub vector_entries : List ℕ → Reading (List VectorEntry)
vector_entries s = thence (count_in 32 s) (entries vector_entry)

-- the table that entries make: of a client's several entries the last holds
abbrev pub tabled : List VectorEntry → List VectorEntry
tabled es = row client_of always [] es

-- the table that the entries of a reading make, beside those already held
abbrev pub tabled_after : List VectorEntry → Reading (List VectorEntry) → Result (List VectorEntry) WireFault
tabled_after xs (Ok p) = Ok (row client_of always xs p.0)
tabled_after xs (Err f) = Err f

-- the table of a vector, read; what stands after the last entry is ignored
abbrev pub vector : List ℕ → Result (List VectorEntry) WireFault
vector s = tabled_after [] (vector_entries s)

-- the clock of a held entry
abbrev pub clock_in : Option VectorEntry → Option ℕ
clock_in o = option_map (λ e. e.clock) o

-- the clock of the client c; none where it is absent
abbrev pub clock_of : ℕ → List VectorEntry → Option ℕ
clock_of c xs = clock_in (held client_of c xs)

-- what a vector answers to an entry: its client id can be written, and there is a place for it
abbrev pub takes : List VectorEntry → VectorEntry → Result (Unit {0}) WireFault
takes xs e = cond (nat_lt e.client (2 ^ 53)) (cond (full client_of 64 xs e) (Err TooManyEntries) (Ok tt)) (Err InvalidClientId)

-- a vector's table after an entry came to it
abbrev pub taken : List VectorEntry → VectorEntry → List VectorEntry
taken xs e = cond (nat_lt e.client (2 ^ 53)) (updated client_of 64 xs e) xs

-- what is read, in terms of the entries in the bytes
pub record VectorsHoldTheLast : Type 0 where
  -- a vector is read where its entries are, it ascends, and under each client it holds the clock of the last entry of that client
  pub last_is_held : (s rest : List ℕ) (es : List VectorEntry) → vector_entries s ≡ Ok (es, rest) → (xs : List VectorEntry) × (vector s ≡ Ok xs) × (ascends client_of xs ≡ true) × ((c : ℕ) → clock_of c xs ≡ clock_in (latest client_of c es))
  -- and refused as they are
  pub fault_is_theirs : (s : List ℕ) (f : WireFault) → vector_entries s ≡ Err f → vector s ≡ Err f
