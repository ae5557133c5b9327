-- How the bytes of a slot lie in it: at the front of 32 places, with zeros in the others.
--   padded   bytes, filled up with zeros
--   Laid     so many of the places are a slot's bytes, and the others zeros
use Rattle.std.specs.Prelude.{◌≡◌, ℕ, ◌-◌, ◌≤◌, List, ◌++◌, length, take, replicate}
use Rattle.std.proofs.Common.{arith, length-append, ap}
use Rattle.std.proofs.lemmas.List.{length-replicate, length-take}

-- bytes, filled up with zeros
abbrev pub padded : List ℕ → List ℕ
padded bs = bs ++ replicate (32 - length bs) 0

-- the first n places are a slot's bytes, and the others zeros
pub record Laid (n : ℕ) (places : List ℕ) : Type 0 where
  pub short : n ≤ 32
  pub zeros : padded (take n places) ≡ places

-- so many are the bytes
pub length_laid : (n : ℕ) (places : List ℕ) → Laid n places → length (take n places) ≡ n
length_laid n places l =
    omega (arith, l.short, ap length l.zeros, length-take n places, length-append (take n places) (replicate (32 - length (take n places)) 0), length-replicate {A = ℕ} (32 - length (take n places)) 0)
