-- What a row of entries brings to a table: bounds that all of them keep, and how many bytes they take.
use Rattle.std.proofs.Common.{◌≡◌, ℕ, ◌+◌, ◌<◌, ◌≤◌, Bool, true, cond, eqb, ltb, List, [], ◌∷◌, length, refl, arith, length-append}
use Rattle.std.proofs.lemmas.Bool.{and_parts, and_from, lt-ltb, ltb-true, cond_both}
use Rattle.encoding.specs.Writing.{row_out}
use Rattle.state_vector.specs.Tables.{all_below, better, entered, full, offered, row}

module _ {E : Type 0} (key : E → ℕ) (above : E → E → Bool) where
  -- a bound on something of each entry, not only on its key, stays when an entry within it comes in
  below_came : (f : E → ℕ) (n : ℕ) (xs : List E) (e : E) → f e < n → all_below f n xs ≡ true → all_below f n (entered key above xs e) ≡ true
  below_came f n [] e l h = and_from _ _ (lt-ltb (f e) n l) refl
  below_came f n (x ∷ xs) e l h =
      let p = and_parts (ltb (f x) n) (all_below f n xs) h in
      cond_both (ltb (key x) (key e)) (x ∷ entered key above xs e) (cond (eqb (key x) (key e)) (better above e x ∷ xs) (e ∷ x ∷ xs)) (λ ys. all_below f n ys ≡ true)
      (λ _. and_from _ _ p.0 (below_came f n xs e l p.1))
      (λ _. cond_both (eqb (key x) (key e)) (better above e x ∷ xs) (e ∷ x ∷ xs) (λ ys. all_below f n ys ≡ true)
      (λ _. and_from _ _ (cond_both (above e x) e x (λ y. ltb (f y) n ≡ true) (λ _. lt-ltb (f e) n l) (λ _. p.0)) p.1)
      (λ _. and_from _ _ (lt-ltb (f e) n l) h))

  -- and where it is offered
  pub below_brought : (f : E → ℕ) (n cap : ℕ) (xs : List E) (e : E) → f e < n → all_below f n xs ≡ true → all_below f n (offered key above cap xs e) ≡ true
  below_brought f n cap xs e l h = cond_both (full key cap xs e) xs (entered key above xs e) (λ zs. all_below f n zs ≡ true) (λ _. h) (λ _. below_came f n xs e l h)

  -- and when a row of them does
  pub below_row : (f : E → ℕ) (n : ℕ) (xs es : List E) → all_below f n xs ≡ true → all_below f n es ≡ true → all_below f n (row key above xs es) ≡ true
  below_row f n xs [] h k = h
  below_row f n xs (e ∷ es) h k =
      let p = and_parts (ltb (f e) n) (all_below f n es) k in
      below_row f n (entered key above xs e) es (below_came f n xs e (ltb-true (f e) n p.0) h) p.1

  -- an entry that comes in brings at most its own bytes
  size_came : (out : E → List ℕ) (xs : List E) (e : E) → length (row_out out (entered key above xs e)) ≤ length (row_out out xs) + length (out e)
  size_came out [] e = omega (arith, length-append (out e) [])
  size_came out (x ∷ xs) e =
      cond_both (ltb (key x) (key e)) (x ∷ entered key above xs e) (cond (eqb (key x) (key e)) (better above e x ∷ xs) (e ∷ x ∷ xs)) (λ ys. length (row_out out ys) ≤ length (row_out out (x ∷ xs)) + length (out e))
      (λ _. omega (arith, size_came out xs e, length-append (out x) (row_out out (entered key above xs e)), length-append (out x) (row_out out xs)))
      (λ _. cond_both (eqb (key x) (key e)) (better above e x ∷ xs) (e ∷ x ∷ xs) (λ ys. length (row_out out ys) ≤ length (row_out out (x ∷ xs)) + length (out e))
      (λ _. cond_both (above e x) e x (λ y. length (row_out out (y ∷ xs)) ≤ length (row_out out (x ∷ xs)) + length (out e))
      (λ _. omega (arith, length-append (out e) (row_out out xs), length-append (out x) (row_out out xs)))
      (λ _. omega arith))
      (λ _. omega (arith, length-append (out e) (row_out out (x ∷ xs)))))

  -- and so does a row of them
  pub size_row : (out : E → List ℕ) (xs es : List E) → length (row_out out (row key above xs es)) ≤ length (row_out out xs) + length (row_out out es)
  size_row out xs [] = omega arith
  size_row out xs (e ∷ es) = omega (arith, size_row out (entered key above xs e) es, size_came out xs e, length-append (out e) (row_out out es))
