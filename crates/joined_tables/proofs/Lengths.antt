-- How long entries are when they are written.
use Rattle.std.proofs.Common.{◌≡◌, ℕ, ◌*◌, ◌^◌, ◌<◌, ◌≤◌, Bool, true, List, [], ◌∷◌, length, arith, length-append}
use Rattle.std.proofs.lemmas.Bool.{and_parts}
use Rattle.std.specs.List.{list_all}
use Rattle.encoding.specs.Writing.{shortest, row_out, counted_out}
use Rattle.encoding.proofs.Shortest.{length_shortest}

module _ {E : Type 0} (fine : E → Bool) (out : E → List ℕ) (short : (x : E) → fine x ≡ true → length (out x) ≤ 64) where
  row_long : (xs : List E) → list_all fine xs ≡ true → length (row_out out xs) ≤ 64 * length xs
  row_long [] h = omega arith
  row_long (x ∷ xs) h =
      let p = and_parts (fine x) (list_all fine xs) h in
      omega (arith, length-append (out x) (row_out out xs), short x p.0, row_long xs p.1)

  -- what is written of at most 64 entries of at most 64 bytes has a length of 32 bits
  pub counted_long : (xs : List E) → list_all fine xs ≡ true → length xs ≤ 64 → length (counted_out out xs) < 2 ^ 32
  counted_long xs h few = omega (arith, length-append (shortest (length xs)) (row_out out xs), row_long xs h, length_shortest (length xs) (omega arith))
