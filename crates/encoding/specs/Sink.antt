-- Bytes that go into a sink, whatever the sink is.
--   Runs   the steps of each byte, one after another
--   Put    bytes that go in whole, or are refused
use Rattle.std.specs.Prelude.{◌≡◌, ℕ, ◌+◌, ◌<◌, List, [], ◌∷◌, length, Ok, Err, Result}
use Rattle.encoding.specs.declared.sink.BufferTooShort.{BufferTooShort}

-- the steps of each byte, one after another, lead from s to t
abbrev pub Runs : {S : Type 0} → (S → ℕ → S → Type 0) → S → List ℕ → S → Type 0
Runs step s [] t = s ≡ t
Runs {S} step s (b ∷ bs) t = (m : S) × step s b m × Runs step m bs t

-- the bytes go in whole and take as much room as they are many; or there is less room than that, and nothing changes
abbrev pub Put : {S : Type 0} → (S → ℕ) → (S → ℕ → S → Type 0) → S → List ℕ → Result (Unit {0}) BufferTooShort → S → Type 0
Put room step s bs (Ok u) t = (room t + length bs ≡ room s) × Runs step s bs t
Put room step s bs (Err short) t = (room s < length bs) × (t ≡ s)
