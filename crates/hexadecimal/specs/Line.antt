-- What a line of hexadecimal bytes says, and what reading it answers. Index:
--   is_blank, sign_of   what a character of a line is
--   value_in                  an answer, its value seen by a function
--   hex_from, hex_line        what reading a line answers, computed
--   DigitOf, Blank, Spells    the format in its own words: which bytes a line spells
--   Answered                  how a reader's answer is compared with the line's
use Rattle.std.specs.Prelude.{◌≡◌, ℕ, ◌+◌, ◌*◌, ◌<◌, ◌≤◌, Bool, if◌then◌else◌, ◌||◌, ◌⊎◌, List, [], ◌∷◌, map, Ok, Err, Result, ◌==◌, nat_lt}
use Rattle.std.specs.Char.{digit_value}
use Rattle.hexadecimal.specs.declared.HexFault.{HexFault}
use Rattle.hexadecimal.specs.declared.HexFault.TheVariants.{NotADigit, HalfByte, Memory}
use Rattle.hexadecimal.specs.declared.Sign.{Sign}
use Rattle.hexadecimal.specs.declared.Sign.TheVariants as sign

-- whether a character is a space, a tab or a carriage return
abbrev pub is_blank : ℕ → Bool
is_blank c = c == 32 || (c == 9 || c == 13)

-- what a character is: a blank, the start of a comment, a digit of either case with its value, or none of these
unfoldable pub sign_of : ℕ → Sign
sign_of c = if is_blank c then sign.Blank else (if c == 35 then sign.Comment else (if nat_lt (digit_value c) 16 then sign.Digit (digit_value c) else sign.Other))

-- an answer, its value seen by f
abbrev pub value_in : {X Y : Type 0} → (X → Y) → Result X HexFault → Result Y HexFault
value_in f (Ok x) = Ok (f x)
value_in f (Err e) = Err e

-- what a line's signs from column k on answer: two digits are a byte, and a fault tells its column
abbrev pub hex_from : ℕ → List Sign → Result (List ℕ) HexFault
hex_from k [] = Ok []
hex_from k (sign.Blank ∷ s) = hex_from (k + 1) s
hex_from k (sign.Comment ∷ s) = Ok []
hex_from k (sign.Other ∷ s) = Err (NotADigit k)
hex_from k (sign.Digit h ∷ []) = Err (HalfByte k)
hex_from k (sign.Digit h ∷ sign.Blank ∷ s) = Err (HalfByte k)
hex_from k (sign.Digit h ∷ sign.Comment ∷ s) = Err (HalfByte k)
hex_from k (sign.Digit h ∷ sign.Other ∷ s) = Err (NotADigit (k + 1))
hex_from k (sign.Digit h ∷ sign.Digit l ∷ s) = value_in (λ bs. (16 * h + l) ∷ bs) (hex_from (k + 2) s)

-- what a line answers: its columns are counted from 1
abbrev pub hex_line : List ℕ → Result (List ℕ) HexFault
hex_line line = hex_from 1 (map sign_of line)

-- the character c is a digit of value d: 0 to 9, A to F or a to f
pub data DigitOf (c d : ℕ) : Type 0 where
  numeral : d < 10 → c ≡ 48 + d → DigitOf c d
  upper : 10 ≤ d → d < 16 → c ≡ 55 + d → DigitOf c d
  lower : 10 ≤ d → d < 16 → c ≡ 87 + d → DigitOf c d

-- the character c is a space, a tab or a carriage return
pub data Blank (c : ℕ) : Type 0 where
  space : c ≡ 32 → Blank c
  tab : c ≡ 9 → Blank c
  carriage : c ≡ 13 → Blank c

-- a line spells a row of bytes: blanks spell nothing, two digits spell one byte, a # ends it
pub data Spells : List ℕ → List ℕ → Type 0 where
  ended : Spells [] []
  comment : {c : ℕ} {s : List ℕ} → c ≡ 35 → Spells (c ∷ s) []
  blank : {c : ℕ} {s bs : List ℕ} → Blank c → Spells s bs → Spells (c ∷ s) bs
  byte : {a b h l x : ℕ} {s bs : List ℕ} → DigitOf a h → DigitOf b l → x ≡ 16 * h + l → Spells s bs → Spells (a ∷ b ∷ s) (x ∷ bs)

-- an answer r, its value seen by f, is a; want of memory is the only exception
abbrev pub Answered : {X Y : Type 0} → (X → Y) → Result X HexFault → Result Y HexFault → Type 0
Answered f r a = (r ≡ Err Memory) ⊎ (value_in f r ≡ a)
