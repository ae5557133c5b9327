-- Bytes that go into a sink one after another.
use Rattle.std.proofs.Common.{ℕ, ◌+◌, ◌<◌, ◌≤◌, List, [], ◌∷◌, ◌++◌, length, Ok, Err, Result, sym, refl, subst, arith, length-append}
use Rattle.encoding.specs.declared.sink.BufferTooShort.{BufferTooShort}
use Rattle.encoding.specs.Sink.{Runs, Put}

module _ {S : Type 0} (room : S → ℕ) (step : S → ℕ → S → Type 0) where
  -- one row after another is the row of both
  pub runs_append : (s m t : S) (xs ys : List ℕ) → Runs step s xs m → Runs step m ys t → Runs step s (xs ++ ys) t
  runs_append s m t [] ys r h = subst (λ x. Runs step x ys t) (sym r) h
  runs_append s m t (x ∷ xs) ys r h = (r.0, r.1, runs_append r.0 m t xs ys r.2 h)

  -- after one row, another goes in for which there is room too
  pub put_then : (s m t : S) (xs ys : List ℕ) (u : Unit {0}) (r : Result (Unit {0}) BufferTooShort) → length xs + length ys ≤ room s → Put room step s xs (Ok u) m → Put room step m ys r t → Put room step s (xs ++ ys) r t
  put_then s m t xs ys u (Ok v) l p q = let n = length-append xs ys in (omega (arith, p.0, q.0), runs_append s m t xs ys p.1 q.1)
  put_then s m t xs ys u (Err e) l p q = absurd (omega (arith, p.0, q.0))

  -- there is no room for two rows
  pub put_short : (s : S) (xs ys : List ℕ) (e : BufferTooShort) → room s < length xs + length ys → Put room step s (xs ++ ys) (Err e) s
  put_short s xs ys e h = let n = length-append xs ys in (omega arith, refl)
