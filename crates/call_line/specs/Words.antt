-- Words of a line, and the numbers that they spell. Index:
--   begun, ended, trimmed   a line without the blanks that it begins with, that it ends with, and both
--   first_word, after_word  a line up to its first blank, and what follows without the blanks between
--   digits_from, number     the number of 64 bits that digits spell
--   numbered                that number, or the fault
use Rattle.std.specs.Prelude.{ℕ, ◌==◌, ◌+◌, ◌-◌, ◌*◌, ◌^◌, if◌then◌else◌, ◌&&◌, List, [], ◌∷◌, length, take, drop, nat_le, nat_lt, Some, None, Option, Ok, Err, Result}
use Rattle.std.specs.Char.{is_ascii_whitespace}
use Rattle.std.specs.List.{prefix_len, suffix_len, before_first, after_first}
use Rattle.call_line.specs.declared.fault.LineFault.{LineFault}
use Rattle.call_line.specs.declared.fault.LineFault.TheVariants.{NotANumber}

-- a line without the blanks that it begins with
abbrev pub begun : List ℕ → List ℕ
begun s = drop (prefix_len is_ascii_whitespace s) s

-- a line without the blanks that it ends with
abbrev pub ended : List ℕ → List ℕ
ended s = take (length s - suffix_len is_ascii_whitespace s) s

-- a line without the blanks at its ends
abbrev pub trimmed : List ℕ → List ℕ
trimmed s = ended (begun s)

-- a line up to its first blank
abbrev pub first_word : List ℕ → List ℕ
first_word s = before_first is_ascii_whitespace s

-- what follows, without the blanks between
abbrev pub after_word : List ℕ → List ℕ
after_word s = begun (after_first is_ascii_whitespace s)

-- what digits spell after a value: none where one is no digit, or the value is past 64 bits
abbrev pub digits_from : ℕ → List ℕ → Option ℕ
digits_from n [] = Some n
digits_from n (c ∷ s) = if (nat_le 48 c && nat_le c 57) && nat_lt (n * 10 + (c - 48)) (2 ^ 64) then digits_from (n * 10 + (c - 48)) s else None

-- the number that a word spells: digits alone, at least one
abbrev pub number : List ℕ → Option ℕ
number s = if length s == 0 then None else digits_from 0 s

-- that number, or the fault of a word that spells none
abbrev pub number_or : Option ℕ → Result ℕ LineFault
number_or (Some n) = Ok n
number_or None = Err NotANumber

abbrev pub numbered : List ℕ → Result ℕ LineFault
numbered s = number_or (number s)
