-- The vector that entries make, one after another.
use Rattle.std.proofs.Common.{◌≡◌, ℕ, ◌+◌, ◌^◌, ◌<◌, true, ltb, List, ◌∷◌, map, length, get_or, drop, sym, ap, ◌∙◌}
use Rattle.std.proofs.lemmas.List.{drop_more}
use Rattle.std.proofs.lemmas.Bool.{and_parts, ltb-true}
use Rattle.state_vector.specs.declared.vector.VectorEntry.{VectorEntry}
use Rattle.state_vector.specs.Tables.{all_below}
use Rattle.state_vector.specs.Vector.{client_of}

-- the entry x is the next of those from i on
module _ {E : Type 0} (f : E → VectorEntry) (xs : List E) (i : ℕ) (x : E) (l : i < length xs) (is : x ≡ get_or xs i x) where
  pub next_is : map f (drop i xs) ≡ f x ∷ map f (drop (i + 1) xs)
  next_is = ap (map f) (drop_more xs i x l ∙ ap (λ y. y ∷ drop (i + 1) xs) (sym is))

  -- its id and those after it can be written
  pub known_next : all_below client_of (2 ^ 53) (map f (drop i xs)) ≡ true → ((f x).client < 2 ^ 53) × (all_below client_of (2 ^ 53) (map f (drop (i + 1) xs)) ≡ true)
  known_next h = let p = and_parts (ltb (f x).client (2 ^ 53)) (all_below client_of (2 ^ 53) (map f (drop (i + 1) xs))) (sym (ap (all_below client_of (2 ^ 53)) next_is) ∙ h) in (ltb-true (f x).client (2 ^ 53) p.0, p.1)
