-- Messages that are sent into a sink.
use Rattle.std.proofs.Common.{◌≡◌, ℕ, List, Ok, Err, Result, ap, ◌∙◌, arith}
use Rattle.encoding.specs.declared.fault.WireFault.{WireFault}
use Rattle.encoding.specs.declared.sink.BufferTooShort.{BufferTooShort}
use Rattle.encoding.specs.declared.sink.Counter.{Counter}
use Rattle.encoding.specs.declared.sink.Filler.{Filler}
use Rattle.encoding.specs.declared.write.WriteFault.{WriteFault}
use Rattle.encoding.specs.Sink.{Put}
use Rattle.encoding.specs.TwoSinks.{room_of_counter, Counts, room_of_filler, Fills, stood}
use Rattle.encoding.specs.Writing.{Row, asked, Writes, told, Sent}
use Rattle.encoding.proofs.Fillings.{runs_count, lent_stood}
use Rattle.encoding.proofs.Sendings.{sent_then}
use Rattle.message.specs.Writing.{led, Written}

module _ {S : Type 0} (room : S → ℕ) (step : S → ℕ → S → Type 0) where
  -- bytes that lead went in, and a row after them did or was refused
  pub led_sent : (s m t : S) (lead : List ℕ) (row : Row) (u : Unit {0}) (r : Result (Unit {0}) BufferTooShort) → Put room step s lead (Ok u) m → Writes room step m row (told r) t → Sent room step s (led lead row) r t
  led_sent s m t lead (Ok bs) u (Ok v) p q = sent_then room step s m t lead bs u (Ok v) p q
  led_sent s m t lead (Ok bs) u (Err e) p q = sent_then room step s m t lead bs u (Err e) p q.1
  led_sent s m t lead (Err f) u (Ok v) p q = cc
  led_sent s m t lead (Err f) u (Err e) p q = tt

-- ---- a message that was counted and then written
-- a row that the counter took and the filler then took stands in the buffer, and the count is its length
pub counted_written : (row : Row) (c d : Counter) (f g : Filler) (old new : List ℕ) (at : ℕ) (u v : Unit {0}) → Sent room_of_counter Counts c row (Ok u) d → Sent room_of_filler Fills f row (Ok v) g → c.count ≡ 0 → f.out.now ≡ old → f.at ≡ at → (f.out.ghost_name ≡ g.out.ghost_name → new ≡ g.out.now) → Written old at row (Ok d.count) new
counted_written (Ok bs) c d f g old new at u v p q z i j k =
    let n = runs_count c d bs p.1 in
    (omega (arith, n.0), lent_stood f g bs new v q k ∙ ap (λ l. stood l f.at bs) i ∙ ap (λ n. stood old n bs) j)
counted_written (Err w) c d f g old new at u v p q z i j k = absurd p

-- with its questions answered
pub answered_written : (verdict : Result (Unit {0}) WireFault) (row : Row) (old new : List ℕ) (at : ℕ) (r : Result ℕ WriteFault) → Ok tt ≡ verdict → Written old at row r new → Written old at (asked verdict row) r new
answered_written (Ok u) row old new at r e w = w
answered_written (Err f) row old new at r e w = cc
