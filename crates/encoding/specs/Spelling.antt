-- Fields in the format's own words: which bytes spell which value.
--   Exactly          a reader takes exactly what is spelt, both ways
--   NumberIs         a number of ten bytes at most, within its width
--   BufferIs         a length, then so many bytes
--   TextIs           a buffer whose contents are a text
--   ClientIs         a number of 64 bits below 2^53
--   CountIs          a number of a width, 64 at most
--   PresenceTextIs   a text of 256 bytes at most
--   RowIs            spellings end to end, one for each value of a list
--   CountedIs        a count, then so many entries
--   FieldsAreAsSpelt   every field is read exactly as it is spelt
use Rattle.std.specs.Prelude.{◌≡◌, ℕ, ◌-◌, ◌^◌, ◌<◌, ◌≤◌, List, [], ◌∷◌, ◌++◌, length, Ok}
use Rattle.encoding.specs.Fields.{buffer, text, client_id_in, count_in, presence_text_in}
use Rattle.encoding.specs.Reading.{Reading}
use Rattle.encoding.specs.Utf8.{Text}
use Rattle.encoding.specs.VarUint.{var_uint, Spells}

-- a reader takes exactly what is spelt, and leaves the bytes after it
pub record Exactly {X : Type 0} (reader : List ℕ → Reading X) (Spelt : X → List ℕ → Type 0) : Type 0 where
  pub taken_is_spelt : (s : List ℕ) (x : X) (rest : List ℕ) → reader s ≡ Ok (x, rest) → (bs : List ℕ) × (s ≡ bs ++ rest) × Spelt x bs
  pub spelt_is_taken : (x : X) (bs rest : List ℕ) → Spelt x bs → reader (bs ++ rest) ≡ Ok (x, rest)

-- a number of ten bytes at most, within its width
abbrev pub NumberIs : ℕ → ℕ → List ℕ → Type 0
NumberIs top n bs = Spells bs n × (length bs ≤ 10) × (n ≤ top)

-- a length of 32 bits, then so many bytes
abbrev pub BufferIs : List ℕ → List ℕ → Type 0
BufferIs contents bs = (size : List ℕ) × (bs ≡ size ++ contents) × NumberIs (2 ^ 32 - 1) (length contents) size

-- a buffer whose contents are a text
abbrev pub TextIs : List ℕ → List ℕ → Type 0
TextIs contents bs = BufferIs contents bs × Text contents

-- a number of 64 bits below 2^53
abbrev pub ClientIs : ℕ → List ℕ → Type 0
ClientIs id bs = NumberIs (2 ^ 64 - 1) id bs × (id < 2 ^ 53)

-- a number of a width, 64 at most
abbrev pub CountIs : ℕ → ℕ → List ℕ → Type 0
CountIs width n bs = NumberIs (2 ^ width - 1) n bs × (n ≤ 64)

-- a text of 256 bytes at most
abbrev pub PresenceTextIs : List ℕ → List ℕ → Type 0
PresenceTextIs contents bs = TextIs contents bs × (length contents ≤ 256)

-- spellings end to end, one for each value of a list
abbrev pub RowIs : {X : Type 0} → (X → List ℕ → Type 0) → List X → List ℕ → Type 0
RowIs One [] bs = bs ≡ []
RowIs One (x ∷ xs) bs = (a : List ℕ) × (b : List ℕ) × (bs ≡ a ++ b) × One x a × RowIs One xs b

-- a count of a width, then so many entries
abbrev pub CountedIs : {X : Type 0} → ℕ → (X → List ℕ → Type 0) → List X → List ℕ → Type 0
CountedIs width One xs bs = (a : List ℕ) × (b : List ℕ) × (bs ≡ a ++ b) × CountIs width (length xs) a × RowIs One xs b

-- every field is read exactly as it is spelt
pub record FieldsAreAsSpelt : Type 0 where
  pub numbers : (top : ℕ) → Exactly (var_uint top) (NumberIs top)
  pub buffers : Exactly buffer BufferIs
  pub texts : Exactly text TextIs
  pub client_ids : Exactly client_id_in ClientIs
  pub counts : (width : ℕ) → Exactly (count_in width) (CountIs width)
  pub presence_texts : Exactly presence_text_in PresenceTextIs
