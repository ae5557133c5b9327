-- The two sinks: what a byte does to each, and that they agree.
--   room_of_counter   how many bytes a counter may still take
--   Counts          a byte is counted
--   room_of_filler    how many bytes a filler may still take
--   Fills           a byte goes into the buffer
--   stood           bytes that stand in a buffer from a place on
--   Filled          bytes that were put into a buffer, or refused
--   SinksAgree     the two take the same bytes, and what is counted is what stands in the buffer
use Rattle.std.specs.Prelude.{◌≡◌, ℕ, ◌+◌, ◌-◌, ◌<◌, List, ◌++◌, length, take, drop, Ok, Err, Result, slice_set}
use Rattle.encoding.specs.declared.sink.BufferTooShort.{BufferTooShort}
use Rattle.encoding.specs.declared.sink.Counter.{Counter}
use Rattle.encoding.specs.declared.sink.Filler.{Filler}
use Rattle.encoding.specs.Sink.{Put}

-- how many bytes a counter may still take: up to its limit
abbrev pub room_of_counter : Counter → ℕ
room_of_counter s = s.limit - s.count

-- a byte is counted, and the limit stays
abbrev pub Counts : Counter → ℕ → Counter → Type 0
Counts s b t = (t.count ≡ s.count + 1) × (t.limit ≡ s.limit)

-- how many bytes a filler may still take: from its place to the end of the buffer
abbrev pub room_of_filler : Filler → ℕ
room_of_filler s = length s.out.now - s.at

-- a byte goes to the place, which moves on; the buffer is the same one
abbrev pub Fills : Filler → ℕ → Filler → Type 0
Fills s b t = (t.at ≡ s.at + 1) × (t.out.now ≡ slice_set s.out.now s.at b) × (t.out.ghost_name ≡ s.out.ghost_name)

-- bytes stand in a buffer from a place on, and the rest of it, before them and past them, is as it was
abbrev pub stood : List ℕ → ℕ → List ℕ → List ℕ
stood old at bs = take at old ++ (bs ++ drop (at + length bs) old)

-- the bytes stand in the buffer from the place on, and their number is told; or there is less room than that, and the buffer is as it was
abbrev pub Filled : List ℕ → ℕ → List ℕ → Result ℕ BufferTooShort → List ℕ → Type 0
Filled old at bs (Ok n) new = (n ≡ length bs) × (new ≡ stood old at bs)
Filled old at bs (Err short) new = (length old - at < length bs) × (new ≡ old)

-- what a counter says of bytes, a filler with as much room does
pub record SinksAgree : Type 0 where
  -- with as much room, the two take the same bytes and refuse the same
  pub same_answer : (c d : Counter) (f g : Filler) (bs : List ℕ) (r q : Result (Unit {0}) BufferTooShort) → room_of_counter c ≡ room_of_filler f → Put room_of_counter Counts c bs r d → Put room_of_filler Fills f bs q g → r ≡ q
  -- a counter has counted as many bytes as it took
  pub counted : (c d : Counter) (bs : List ℕ) (u : Unit {0}) → Put room_of_counter Counts c bs (Ok u) d → (d.count ≡ c.count + length bs) × (d.limit ≡ c.limit)
  -- bytes that a filler took stand in its buffer from its place on, and its place is past them
  pub filled : (f g : Filler) (bs : List ℕ) (u : Unit {0}) → Put room_of_filler Fills f bs (Ok u) g → (g.out.now ≡ stood f.out.now f.at bs) × (g.at ≡ f.at + length bs)
  -- a refusal changes neither
  pub unchanged : (c d : Counter) (f g : Filler) (bs : List ℕ) (e : BufferTooShort) → Put room_of_counter Counts c bs (Err e) d → Put room_of_filler Fills f bs (Err e) g → (d ≡ c) × (g ≡ f)
