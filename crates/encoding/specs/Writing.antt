-- What is written: numbers in their shortest spelling, buffers, and the fields that are made of them.
--   spelt             a number by its digits, so many of them at most before the last
--   shortest          a number in its shortest spelling
--   packed            a buffer: its length, then its bytes
--   Row               the bytes of a value, or why it has none
--   asked             a row of a value that passes
--   buffer_out         a buffer, as it is written
--   text_out           a text, as it is written
--   client_id_out       a client id, as it is written
--   count_out          a count, as it is written
--   presence_text_out   a presence text, as it is written
--   row_out            entries one after another
--   counted_out        a count, then so many entries
--   Writes            a row that goes into a sink, or is refused
--   Sent              the same, where what a refusal leaves is not said
--   told              a refusal for want of room, as a fault of writing
use Rattle.std.specs.Prelude.{◌≡◌, ℕ, zero, suc, ◌+◌, ◌/◌, ◌%◌, ◌^◌, ◌<◌, cond, List, [], ◌∷◌, ◌++◌, length, Ok, Err, Result, nat_lt}
use Rattle.encoding.specs.declared.fault.WireFault.{WireFault}
use Rattle.encoding.specs.declared.sink.BufferTooShort.{BufferTooShort}
use Rattle.encoding.specs.declared.write.WriteFault.{WriteFault}
use Rattle.encoding.specs.declared.write.WriteFault.TheVariants.{Wire, Short}
use Rattle.encoding.specs.Fields.{plain_text, client_id, count, presence_text}
use Rattle.encoding.specs.Sink.{Put}

-- a number by its digits, seven bits to a byte and the lowest first, each byte but the last from 128 on; at most k come before the last
unfoldable pub spelt : ℕ → ℕ → List ℕ
spelt zero n = n ∷ []
spelt (suc k) n = cond (nat_lt n 128) (n ∷ []) ((128 + n % 128) ∷ spelt k (n / 128))

-- a number in its shortest spelling: n digits are always enough for n
unfoldable pub shortest : ℕ → List ℕ
shortest n = spelt n n

-- a buffer: its length, then its bytes
abbrev pub packed : List ℕ → List ℕ
packed bs = shortest (length bs) ++ bs

-- the bytes of a value, or why it has none
abbrev pub Row : Type 0
Row = Result (List ℕ) WriteFault

-- a row of a value that passes
abbrev pub asked : Result (Unit {0}) WireFault → Row → Row
asked (Ok u) row = row
asked (Err f) row = Err (Wire f)

-- a buffer, as it is written: its length has to fit 32 bits
abbrev pub buffer_out : List ℕ → Row
buffer_out bs = cond (nat_lt (length bs) (2 ^ 32)) (Ok (packed bs)) (Err Short)

-- a text, as it is written: a buffer in UTF-8
abbrev pub text_out : List ℕ → Row
text_out bs = asked (plain_text bs) (buffer_out bs)

-- a client id, as it is written
abbrev pub client_id_out : ℕ → Row
client_id_out n = asked (client_id n) (Ok (shortest n))

-- a count, as it is written
abbrev pub count_out : ℕ → Row
count_out n = asked (count n) (Ok (shortest n))

-- a presence text, as it is written
abbrev pub presence_text_out : List ℕ → Row
presence_text_out bs = asked (presence_text bs) (buffer_out bs)

-- entries one after another, each by its own bytes
abbrev pub row_out : {X : Type 0} → (X → List ℕ) → List X → List ℕ
row_out out [] = []
row_out out (x ∷ xs) = out x ++ row_out out xs

-- a count, then so many entries
abbrev pub counted_out : {X : Type 0} → (X → List ℕ) → List X → List ℕ
counted_out out xs = shortest (length xs) ++ row_out out xs

-- a row goes in whole; or there is less room than it has bytes; or it has none, for the fault that is answered: then nothing changes
abbrev pub Writes : {S : Type 0} → (S → ℕ) → (S → ℕ → S → Type 0) → S → Row → Result (Unit {0}) WriteFault → S → Type 0
Writes room step s (Ok bs) (Ok u) t = Put room step s bs (Ok u) t
Writes room step s (Ok bs) (Err f) t = (f ≡ Short) × (room s < length bs) × (t ≡ s)
Writes room step s (Err f) r t = (r ≡ Err f) × (t ≡ s)

-- a refusal for want of room, as a fault of writing
abbrev pub told : Result (Unit {0}) BufferTooShort → Result (Unit {0}) WriteFault
told (Ok u) = Ok u
told (Err short) = Err Short

-- a row goes in whole; or there is less room than it has bytes, or it has none: what a refusal leaves is not said
abbrev pub Sent : {S : Type 0} → (S → ℕ) → (S → ℕ → S → Type 0) → S → Row → Result (Unit {0}) BufferTooShort → S → Type 0
Sent room step s (Ok bs) (Ok u) t = Put room step s bs (Ok u) t
Sent room step s (Ok bs) (Err e) t = room s < length bs
Sent room step s (Err f) (Ok u) t = ⊥
Sent room step s (Err f) (Err e) t = Unit {0}
