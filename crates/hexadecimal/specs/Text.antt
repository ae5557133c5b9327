-- How a row of bytes is written. Index:
--   byte_text     a byte as two upper-case digits
--   spaced        each byte after a space
--   written       the whole text
--   fault_text     a fault in words
use Rattle.std.specs.Prelude.{ℕ, ◌/◌, ◌%◌, true, List, [], ◌∷◌, ◌++◌, codes, decimal}
use Rattle.std.specs.List.{flat_map}
use Rattle.std.specs.Fmt.{digit_glyph}
use Rattle.hexadecimal.specs.declared.HexFault.{HexFault}
use Rattle.hexadecimal.specs.declared.HexFault.TheVariants.{NotADigit, HalfByte, Memory}

-- a byte as two upper-case digits
abbrev pub byte_text : ℕ → List ℕ
byte_text b = digit_glyph true (b / 16) ∷ digit_glyph true (b % 16) ∷ []

-- the bytes, two digits each and a space before each
abbrev pub spaced : List ℕ → List ℕ
spaced bs = flat_map (λ c. 32 ∷ byte_text c) bs

-- the text of a row of bytes: two digits each, one space between two bytes
abbrev pub written : List ℕ → List ℕ
written [] = []
written (b ∷ bs) = byte_text b ++ spaced bs

-- a fault in words, with its column
abbrev pub fault_text : HexFault → List ℕ
fault_text (NotADigit column) = codes "column " ++ decimal column ++ codes ": not a hexadecimal digit"
fault_text (HalfByte column) = codes "column " ++ decimal column ++ codes ": half a byte"
fault_text Memory = codes "not enough memory"
