-- Vectors in the format's own words: which bytes spell which vector.
--   VectorEntryIs   a client id, then a clock
--   VectorIs        a count, then so many entries
use Rattle.std.specs.Prelude.{◌≡◌, ℕ, ◌-◌, ◌^◌, List, ◌++◌}
use Rattle.encoding.specs.Spelling.{NumberIs, ClientIs, CountedIs}
use Rattle.state_vector.specs.declared.vector.VectorEntry.{VectorEntry}

-- a client id, then a clock of 32 bits
abbrev pub VectorEntryIs : VectorEntry → List ℕ → Type 0
VectorEntryIs e bs = (a : List ℕ) × (b : List ℕ) × (bs ≡ a ++ b) × ClientIs e.client a × NumberIs (2 ^ 32 - 1) e.clock b

-- a count of 32 bits, then so many entries
abbrev pub VectorIs : List VectorEntry → List ℕ → Type 0
VectorIs = CountedIs 32 VectorEntryIs
