-- What is written beside what is read.
--   ShortestIsShortest   a number's shortest spelling spells it, and no spelling of it is shorter
--   FieldsReadBack       what is written reads as the value that it was written from
--   NeverLonger           what was read is never longer when it is written again
use Rattle.std.specs.Prelude.{◌≡◌, ℕ, ◌+◌, ◌^◌, ◌<◌, ◌≤◌, List, ◌++◌, length, Ok}
use Rattle.encoding.specs.Fields.{buffer, plain_text, text, client_id, client_id_in, count, count_in, presence_text, presence_text_in}
use Rattle.encoding.specs.VarUint.{var_uint, Spells}
use Rattle.encoding.specs.Writing.{shortest, packed}

-- a number's shortest spelling spells it, and no spelling of it is shorter
pub record ShortestIsShortest : Type 0 where
  -- its bytes spell it
  pub spells : (n : ℕ) → Spells (shortest n) n
  -- whatever else spells it is as long at least
  pub least : (bs : List ℕ) (n : ℕ) → Spells bs n → length (shortest n) ≤ length bs

-- what is written, with any bytes after it, reads as the value that it was written from, and those bytes are left
pub record FieldsReadBack : Type 0 where
  -- a number of 64 bits, at every width that has it
  pub numbers : (top n : ℕ) (rest : List ℕ) → n < 2 ^ 64 → n ≤ top → var_uint top (shortest n ++ rest) ≡ Ok (n, rest)
  -- a buffer whose length has 32 bits
  pub buffers : (bs rest : List ℕ) → length bs < 2 ^ 32 → buffer (packed bs ++ rest) ≡ Ok (bs, rest)
  -- bytes that can be a text, whose length has 32 bits
  pub texts : (bs rest : List ℕ) → length bs < 2 ^ 32 → plain_text bs ≡ Ok tt → text (packed bs ++ rest) ≡ Ok (bs, rest)
  -- a number that can be a client id
  pub client_ids : (n : ℕ) (rest : List ℕ) → client_id n ≡ Ok tt → client_id_in (shortest n ++ rest) ≡ Ok (n, rest)
  -- a number that can be a count, at every width of seven bits or more
  pub counts : (width n : ℕ) (rest : List ℕ) → 7 ≤ width → count n ≡ Ok tt → count_in width (shortest n ++ rest) ≡ Ok (n, rest)
  -- bytes that can be a presence text
  pub presence_texts : (bs rest : List ℕ) → presence_text bs ≡ Ok tt → presence_text_in (packed bs ++ rest) ≡ Ok (bs, rest)

-- what was read, written again, is never longer than the bytes that were taken
pub record NeverLonger : Type 0 where
  -- a number
  pub numbers : (top n : ℕ) (s rest : List ℕ) → var_uint top s ≡ Ok (n, rest) → length (shortest n) + length rest ≤ length s
  -- a buffer
  pub buffers : (s bs rest : List ℕ) → buffer s ≡ Ok (bs, rest) → length (packed bs) + length rest ≤ length s
  -- a buffer that was read can be written: its length has 32 bits
  pub writable : (s bs rest : List ℕ) → buffer s ≡ Ok (bs, rest) → length bs < 2 ^ 32
