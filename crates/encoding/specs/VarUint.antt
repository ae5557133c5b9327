-- varUints, as lib0 has them, and what their bytes spell.
--   going      how many bytes come before the first below 128
--   number     what bytes add up to
--   number_in   a number of so many bytes at most that is at most top
--   var_uint    a number of ten bytes at most
--   GoesOn     each byte says that another follows
--   worth      what bytes add, the first of them at a place
--   Spells     bytes spell a number, in the format's own words
--   VarUintsAreAsSpelt   what is read is what is spelt, both ways
use Rattle.std.specs.Prelude.{◌≡◌, ℕ, suc, ◌+◌, ◌*◌, ◌%◌, ◌^◌, ◌<◌, ◌≤◌, cond, List, [], ◌∷◌, ◌++◌, length, take, drop, Ok, Err, nat_le, nat_lt}
use Rattle.encoding.specs.declared.fault.WireFault.TheVariants.{InvalidVarInt, EndOfBuffer}
use Rattle.encoding.specs.Reading.{Reading}

-- how many bytes come before the first below 128
abbrev pub going : List ℕ → ℕ
going [] = 0
going (b ∷ bs) = cond (nat_lt b 128) 0 (suc (going bs))

-- what bytes add up to: the low seven bits of each, the lowest first
abbrev pub number : List ℕ → ℕ
number [] = 0
number (b ∷ bs) = b % 128 + 128 * number bs

-- a number of room bytes at most that is at most top: it ends with the first byte below 128
abbrev pub number_in : ℕ → ℕ → List ℕ → Reading ℕ
number_in room top s = cond (nat_le room (going s)) (Err InvalidVarInt) (cond (nat_le (length s) (going s)) (Err EndOfBuffer) (cond (nat_le (number (take (suc (going s)) s)) top) (Ok (number (take (suc (going s)) s), drop (suc (going s)) s)) (Err InvalidVarInt)))

-- a number of ten bytes at most
abbrev pub var_uint : ℕ → List ℕ → Reading ℕ
var_uint = number_in 10

-- each byte says that another follows: it is from 128 on
abbrev pub GoesOn : List ℕ → Type 0
GoesOn [] = Unit {0}
GoesOn (b ∷ bs) = (128 ≤ b) × GoesOn bs

-- what bytes add, the first of them at place i: the byte at place i its low seven bits times 128 to the power i
abbrev pub worth : ℕ → List ℕ → ℕ
worth i [] = 0
worth i (b ∷ bs) = (b % 128) * 128 ^ i + worth (suc i) bs

-- bytes spell a number: all but the last go on, the last does not, and together they add up to it
pub record Spells (bs : List ℕ) (n : ℕ) : Type 0 where
  pub front : List ℕ
  pub last : ℕ
  pub is : bs ≡ front ++ last ∷ []
  pub goes : GoesOn front
  pub ends : last < 128
  pub adds : worth 0 bs ≡ n

-- what is read is what is spelt, both ways, and every refusal says what the bytes are
pub record VarUintsAreAsSpelt : Type 0 where
  -- what is read is spelt by the bytes that were taken, ten of them at most, and is within its width
  pub accepted_is_spelt : (top n : ℕ) (s rest : List ℕ) → var_uint top s ≡ Ok (n, rest) → (bs : List ℕ) × (s ≡ bs ++ rest) × Spells bs n × (length bs ≤ 10) × (n ≤ top)
  -- what is so spelt is read
  pub spelt_is_accepted : (top n : ℕ) (bs rest : List ℕ) → Spells bs n → length bs ≤ 10 → n ≤ top → var_uint top (bs ++ rest) ≡ Ok (n, rest)
  -- a number that is spelt and past its width is refused
  pub past_width_is_refused : (top n : ℕ) (bs rest : List ℕ) → Spells bs n → length bs ≤ 10 → top < n → var_uint top (bs ++ rest) ≡ Err InvalidVarInt
  -- a tenth byte that goes on is refused
  pub endless_is_refused : (top : ℕ) (bs rest : List ℕ) → GoesOn bs → length bs ≡ 10 → var_uint top (bs ++ rest) ≡ Err InvalidVarInt
  -- bytes that run out before
  pub cut_is_refused : (top : ℕ) (bs : List ℕ) → GoesOn bs → length bs < 10 → var_uint top bs ≡ Err EndOfBuffer
