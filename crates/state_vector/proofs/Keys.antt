-- What a table holds under each key.
use Rattle.std.proofs.Common.{◌≡◌, ℕ, ◌<◌, ◌≤◌, true, eqb, ltb, List, [], ◌∷◌, Some, None, sym, refl, ◌∙◌, ⊎_elim, arith}
use Rattle.std.proofs.lemmas.Bool.{ltb-true, lt-ltb, eq-eqb, ne_eqb, and_parts, and_from, cond-true, cond-false, cases_eq, cases_order}
use Rattle.state_vector.specs.Tables.{all_above, ascends, held, ToldByLookUps}

module _ {E : Type 0} (key : E → ℕ) where
  pub above_less : (n m : ℕ) (xs : List E) → n ≤ m → all_above key m xs ≡ true → all_above key n xs ≡ true
  above_less n m [] l h = refl
  above_less n m (x ∷ xs) l h =
      let p = and_parts (ltb m (key x)) (all_above key m xs) h in
      and_from _ _ (lt-ltb n (key x) (omega (arith, ltb-true m (key x) p.0))) (above_less n m xs l p.1)

  pub skip : (c : ℕ) (x : E) (xs : List E) → (key x ≡ c → ⊥) → held key c (x ∷ xs) ≡ held key c xs
  skip c x xs ne = cond-false (eqb (key x) c) (Some x) (held key c xs) (ne_eqb (key x) c ne)

  pub stop : (c : ℕ) (x : E) (xs : List E) → key x ≡ c → held key c (x ∷ xs) ≡ Some x
  stop c x xs s = cond-true (eqb (key x) c) (Some x) (held key c xs) (eq-eqb (key x) c s)

  pub none_above : (c : ℕ) (xs : List E) → all_above key c xs ≡ true → held key c xs ≡ None
  none_above c [] h = refl
  none_above c (x ∷ xs) h =
      let p = and_parts (ltb c (key x)) (all_above key c xs) h in
      skip c x xs (λ s. omega (arith, ltb-true c (key x) p.0)) ∙ none_above c xs p.1

  -- what is held under a key has that key
  pub held_key : (c : ℕ) (xs : List E) (h : E) → held key c xs ≡ Some h → key h ≡ c
  held_key c [] h is = let z : ◌≡◌ {A = ℕ} 0 1 = cc in absurd (omega arith)
  held_key c (x ∷ xs) h is =
      ⊎_elim
      (λ (q : key x ≡ c). let s : x ≡ h = let w = sym (stop c x xs q) ∙ is in cc in rw (← s) q)
      (λ (ne : key x ≡ c → ⊥). held_key c xs h (sym (skip c x xs ne) ∙ is))
      (cases_eq (key x) c)

  -- a table is told by what it holds under each key
  pub same_rows : ToldByLookUps key
  same_rows [] [] up vp same = refl
  same_rows [] (y ∷ ys) up vp same = let w = same (key y) ∙ stop (key y) y ys refl in let z : ◌≡◌ {A = ℕ} 0 1 = cc in absurd (omega arith)
  same_rows (x ∷ xs) [] up vp same = let w = sym (same (key x)) ∙ stop (key x) x xs refl in let z : ◌≡◌ {A = ℕ} 0 1 = cc in absurd (omega arith)
  same_rows (x ∷ xs) (y ∷ ys) up vp same =
      let p = and_parts (all_above key (key x) xs) (ascends key xs) up in
      let q = and_parts (all_above key (key y) ys) (ascends key ys) vp in
      ⊎_elim
      (λ (s : key x ≡ key y).
      let w = sym (stop (key x) x xs refl) ∙ same (key x) ∙ stop (key x) y ys (sym s) in
      let head : x ≡ y = cc in
      let rest : (c : ℕ) → held key c xs ≡ held key c ys = λ c.
      ⊎_elim
      (λ (t : key x ≡ c). none_above c xs (rw t at p.0) ∙ sym (none_above c ys (rw (sym s ∙ t) at q.0)))
      (λ (ne : key x ≡ c → ⊥). sym (skip c x xs ne) ∙ same c ∙ skip c y ys (λ t. ne (s ∙ t)))
      (cases_eq (key x) c) in
      let tail = same_rows xs ys p.1 q.1 rest in
      cc)
      (⊎_elim
      (λ (l : key x < key y).
      let w = sym (stop (key x) x xs refl) ∙ same (key x) ∙ skip (key x) y ys (λ s. omega arith) ∙ none_above (key x) ys (above_less (key x) (key y) ys (omega arith) q.0) in
      let z : ◌≡◌ {A = ℕ} 0 1 = cc in absurd (omega arith))
      (λ (l : key y < key x).
      let w = sym (stop (key y) y ys refl) ∙ sym (same (key y)) ∙ skip (key y) x xs (λ s. omega arith) ∙ none_above (key y) xs (above_less (key y) (key x) xs (omega arith) p.0) in
      let z : ◌≡◌ {A = ℕ} 0 1 = cc in absurd (omega arith)))
      (cases_order (key x) (key y))
