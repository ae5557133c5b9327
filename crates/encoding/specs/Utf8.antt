-- UTF-8 (RFC 3629). Its words:
--   Row        what may follow a lead byte: how many bytes, and the bounds of the first of them
--   row        the row of a lead byte in the table of byte sequences
--   walks      the bytes are those that are still due, and then characters to the end
--   is_text     the bytes are characters to the end, by the table
--   Text       the bytes are those of scalar values, each in its shortest form, end to end
-- Assumes nothing.
use Rattle.std.specs.Prelude.{◌≡◌, ℕ, zero, suc, Bool, true, false, cond, ◌&&◌, List, [], ◌∷◌}
use Rattle.std.proofs.Math.Utf8.{scalars, encodes}
use Rattle.std.specs.Int.{is_in_range}

-- so many bytes follow, the first from low to high and the others from 80 to BF; or it is no lead byte
pub data Row : Type 0 where
  after : (due low high : ℕ) → Row
  refused : Row

-- the table of section 4, by the lead byte
abbrev pub row : ℕ → Row
row b =
    cond (is_in_range 0x00 0x7f b) (after 0 0x80 0xbf) (
    cond (is_in_range 0xc2 0xdf b) (after 1 0x80 0xbf) (
    cond (is_in_range 0xe0 0xe0 b) (after 2 0xa0 0xbf) (
    cond (is_in_range 0xe1 0xec b) (after 2 0x80 0xbf) (
    cond (is_in_range 0xed 0xed b) (after 2 0x80 0x9f) (
    cond (is_in_range 0xee 0xef b) (after 2 0x80 0xbf) (
    cond (is_in_range 0xf0 0xf0 b) (after 3 0x90 0xbf) (
    cond (is_in_range 0xf1 0xf3 b) (after 3 0x80 0xbf) (
    cond (is_in_range 0xf4 0xf4 b) (after 3 0x80 0x8f) refused))))))))

-- so many bytes are due, the first of them from low to high; then come characters, to the end
abbrev pub walks : (due low high : ℕ) → List ℕ → Bool
walks zero low high [] = true
walks zero low high (b ∷ s) = elim (row b) [ after n l h ↦ walks n l h s | refused ↦ false ]
walks (suc due) low high [] = false
walks (suc due) low high (b ∷ s) = is_in_range low high b && walks due 0x80 0xbf s

-- nothing is due yet: characters, to the end
unfoldable pub is_text : List ℕ → Bool
is_text s = walks 0 0x80 0xbf s

-- some scalar values, none a surrogate and none past 10FFFF, of which these are the bytes
abbrev pub Text : List ℕ → Type 0
Text s = (cs : List ℕ) × ((scalars cs ≡ true) × (encodes cs ≡ s))
