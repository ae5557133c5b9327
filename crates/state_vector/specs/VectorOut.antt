-- State vectors, as they are written.
--   vector_entry_out   an entry, as it is written
--   vector_out        a vector, as it is written
--   VectorsReadBack      what is written reads as the vector that it was written from
--   VectorsNeverLonger   what was read, written again
use Rattle.std.specs.Prelude.{◌≡◌, ℕ, ◌+◌, ◌^◌, ◌≤◌, true, List, ◌++◌, length, Ok}
use Rattle.encoding.specs.Writing.{shortest, counted_out}
use Rattle.state_vector.specs.declared.vector.VectorEntry.{VectorEntry}
use Rattle.state_vector.specs.Tables.{all_below, ascends}
use Rattle.state_vector.specs.Vector.{client_of, vector_entries, tabled, vector}

-- an entry, as it is written: its client, then its clock
abbrev pub vector_entry_out : VectorEntry → List ℕ
vector_entry_out e = shortest e.client ++ shortest e.clock

-- a vector, as it is written: how many entries, then the entries
abbrev pub vector_out : List VectorEntry → List ℕ
vector_out es = counted_out vector_entry_out es

-- what is written of at most 64 entries, with ids that can be written and clocks of 32 bits, reads as them, whatever follows
pub record VectorsReadBack : Type 0 where
  -- the entries as they stand in the bytes, and what follows is left
  pub entries_read_back : (es : List VectorEntry) (rest : List ℕ) → length es ≤ 64 → all_below client_of (2 ^ 53) es ≡ true → all_below (λ e. e.clock) (2 ^ 32) es ≡ true → vector_entries (vector_out es ++ rest) ≡ Ok (es, rest)
  -- where they ascend, the table that they are
  pub tables_read_back : (es : List VectorEntry) (rest : List ℕ) → ascends client_of es ≡ true → length es ≤ 64 → all_below client_of (2 ^ 53) es ≡ true → all_below (λ e. e.clock) (2 ^ 32) es ≡ true → vector (vector_out es ++ rest) ≡ Ok es

-- what was read, as a table in which a client's last entry holds, written again
pub record VectorsNeverLonger : Type 0 where
  -- it is never longer than the bytes that were taken
  pub no_longer : (s rest : List ℕ) (es : List VectorEntry) → vector_entries s ≡ Ok (es, rest) → length (vector_out (tabled es)) + length rest ≤ length s
  -- and reads as the same table, whatever follows
  pub same_table : (s rest : List ℕ) (es : List VectorEntry) → vector_entries s ≡ Ok (es, rest) → (after : List ℕ) → vector (vector_out (tabled es) ++ after) ≡ Ok (tabled es)
