-- Rows that go into a sink.
use Rattle.std.proofs.Common.{ℕ, ◌^◌, ◌<◌, List, length, Ok, Err, Result, refl, lt-ltb}
use Rattle.encoding.specs.declared.sink.BufferTooShort.{BufferTooShort}
use Rattle.encoding.specs.Sink.{Put}
use Rattle.encoding.specs.Writing.{packed, buffer_out, Writes, told}

module _ {S : Type 0} (room : S → ℕ) (step : S → ℕ → S → Type 0) where
  -- bytes that go in, or are refused, are a row that does
  pub put_writes : (s t : S) (bs : List ℕ) (r : Result (Unit {0}) BufferTooShort) → Put room step s bs r t → Writes room step s (Ok bs) (told r) t
  put_writes s t bs (Ok u) p = p
  put_writes s t bs (Err e) p = (refl, p.0, p.1)

  -- a buffer whose length fits
  pub buffer_writes : (s t : S) (bs : List ℕ) (r : Result (Unit {0}) BufferTooShort) → length bs < 2 ^ 32 → Put room step s (packed bs) r t → Writes room step s (buffer_out bs) (told r) t
  buffer_writes s t bs r h p = rw (lt-ltb (length bs) (2 ^ 32) h) (put_writes s t (packed bs) r p)
