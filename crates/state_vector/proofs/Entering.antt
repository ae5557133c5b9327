-- What an entry that comes in does to a table.
use Rattle.std.proofs.Common.{◌≡◌, ℕ, zero, suc, ◌+◌, ◌<◌, ◌≤◌, Bool, true, false, cond, eqb, ltb, List, [], ◌∷◌, length, get_or, set, Some, None, sym, refl, ap, ◌∙◌, ⊎_elim, arith}
use Rattle.std.specs.List.{insert}
use Rattle.std.proofs.lemmas.Bool.{ltb-true, and_parts, and_from, eq-eqb, ne_eqb, lt-ltb, le-ltb, cond-true, cond-false, cases_Bool, cases_order, cond_both}
use Rattle.state_vector.proofs.Keys.{above_less, skip, stop, none_above}
use Rattle.state_vector.specs.Tables.{all_above, ascends, place, held, better, raised, entered}

module _ {E : Type 0} (key : E → ℕ) (above : E → E → Bool) where
  -- the three ways in which e meets the first entry
  at_below : (x : E) (xs : List E) (e : E) → key x < key e → entered key above (x ∷ xs) e ≡ x ∷ entered key above xs e
  at_below x xs e l = cond-true (ltb (key x) (key e)) _ _ (lt-ltb (key x) (key e) l)

  at_same : (x : E) (xs : List E) (e : E) → key x ≡ key e → entered key above (x ∷ xs) e ≡ better above e x ∷ xs
  at_same x xs e s = cond-false (ltb (key x) (key e)) _ _ (le-ltb (key x) (key e) (omega arith)) ∙ cond-true (eqb (key x) (key e)) _ _ (eq-eqb (key x) (key e) s)

  at_over : (x : E) (xs : List E) (e : E) → key e < key x → entered key above (x ∷ xs) e ≡ e ∷ x ∷ xs
  at_over x xs e l = cond-false (ltb (key x) (key e)) _ _ (le-ltb (key x) (key e) (omega arith)) ∙ cond-false (eqb (key x) (key e)) _ _ (ne_eqb (key x) (key e) (λ s. omega arith))

  -- a held key stops the search
  not_none : (x : E) (xs : List E) (c : ℕ) → held key c (x ∷ xs) ≡ None → (key x ≡ c → ⊥) × (held key c xs ≡ None)
  not_none x xs c h =
      let ne : key x ≡ c → ⊥ = λ s. let w = sym (cond-true (eqb (key x) c) (Some x) (held key c xs) (eq-eqb (key x) c s)) ∙ h in let z : ◌≡◌ {A = ℕ} 0 1 = cc in omega arith in
      (ne, sym (cond-false (eqb (key x) c) (Some x) (held key c xs) (ne_eqb (key x) c ne)) ∙ h)

  pub entered_new : (xs : List E) (e : E) → held key (key e) xs ≡ None → entered key above xs e ≡ insert xs (place key (key e) xs) e
  entered_new [] e h = refl
  entered_new (x ∷ xs) e h =
      let n = not_none x xs (key e) h in
      ⊎_elim
      (λ s. absurd (n.0 s))
      (⊎_elim
      (λ l. at_below x xs e l ∙ ap (λ ys. x ∷ ys) (entered_new xs e n.1)
      ∙ sym (ap (λ i. insert (x ∷ xs) i e) (cond-true (ltb (key x) (key e)) (suc (place key (key e) xs)) 0 (lt-ltb (key x) (key e) l))))
      (λ l. at_over x xs e l
      ∙ sym (ap (λ i. insert (x ∷ xs) i e) (cond-false (ltb (key x) (key e)) (suc (place key (key e) xs)) 0 (le-ltb (key x) (key e) (omega arith))))))
      (cases_order (key x) (key e))

  -- at the place i of the held entry
  pub entered_held : (xs : List E) (e : E) (i : ℕ) (d : E) → i ≡ place key (key e) xs → i < length xs → key (get_or xs i d) ≡ key e → entered key above xs e ≡ set xs i (better above e (get_or xs i d))
  entered_held [] e i d is l k = absurd (omega arith)
  entered_held (x ∷ xs) e zero d is l k = at_same x xs e k
  entered_held (x ∷ xs) e (suc i) d is l k =
      ⊎_elim
      (λ (t : ltb (key x) (key e) ≡ true). let q = is ∙ cond-true (ltb (key x) (key e)) (suc (place key (key e) xs)) 0 t in
      at_below x xs e (ltb-true (key x) (key e) t) ∙ ap (λ ys. x ∷ ys) (entered_held xs e i d (omega arith) (omega arith) k))
      (λ (t : ltb (key x) (key e) ≡ false). let q = is ∙ cond-false (ltb (key x) (key e)) (suc (place key (key e) xs)) 0 t in absurd (omega arith))
      (cases_Bool (ltb (key x) (key e)))

  key_better : (e x : E) → key x ≡ key e → key (better above e x) ≡ key e
  key_better e x s = cond_both (above e x) e x (λ y. key y ≡ key e) (λ _. refl) (λ _. s)

  above_entered : (n : ℕ) (xs : List E) (e : E) → n < key e → all_above key n xs ≡ true → all_above key n (entered key above xs e) ≡ true
  above_entered n [] e l h = and_from _ _ (lt-ltb n (key e) l) refl
  above_entered n (x ∷ xs) e l h =
      let p = and_parts (ltb n (key x)) (all_above key n xs) h in
      ⊎_elim
      (λ s. ap (all_above key n) (at_same x xs e s) ∙ and_from _ _ (lt-ltb n _ (omega (arith, key_better e x s))) p.1)
      (⊎_elim
      (λ m. ap (all_above key n) (at_below x xs e m) ∙ and_from _ _ p.0 (above_entered n xs e l p.1))
      (λ m. ap (all_above key n) (at_over x xs e m) ∙ and_from _ _ (lt-ltb n (key e) l) h))
      (cases_order (key x) (key e))

  pub ascends_entered : (xs : List E) (e : E) → ascends key xs ≡ true → ascends key (entered key above xs e) ≡ true
  ascends_entered [] e h = refl
  ascends_entered (x ∷ xs) e h =
      let p = and_parts (all_above key (key x) xs) (ascends key xs) h in
      ⊎_elim
      (λ s. ap (ascends key) (at_same x xs e s) ∙ and_from _ _ (above_less key _ (key x) xs (omega (arith, key_better e x s)) p.0) p.1)
      (⊎_elim
      (λ m. ap (ascends key) (at_below x xs e m) ∙ and_from _ _ (above_entered (key x) xs e m p.0) (ascends_entered xs e p.1))
      (λ m. ap (ascends key) (at_over x xs e m) ∙ and_from _ _ (and_from _ _ (lt-ltb (key e) (key x) m) (above_less key (key e) (key x) xs (omega arith) p.0)) h))
      (cases_order (key x) (key e))

  -- what is held under each key afterwards
  pub held_other : (c : ℕ) (xs : List E) (e : E) → (key e ≡ c → ⊥) → held key c (entered key above xs e) ≡ held key c xs
  held_other c [] e ne = skip key c e [] ne
  held_other c (x ∷ xs) e ne =
      ⊎_elim
      (λ s. ap (held key c) (at_same x xs e s) ∙ skip key c _ xs (λ q. ne (sym (key_better e x s) ∙ q)) ∙ sym (skip key c x xs (λ q. ne (sym s ∙ q))))
      (⊎_elim
      (λ m. ap (held key c) (at_below x xs e m) ∙ ap (λ o. cond (eqb (key x) c) (Some x) o) (held_other c xs e ne))
      (λ m. ap (held key c) (at_over x xs e m) ∙ skip key c e (x ∷ xs) ne))
      (cases_order (key x) (key e))

  pub held_own : (xs : List E) (e : E) → ascends key xs ≡ true → held key (key e) (entered key above xs e) ≡ Some (raised above (held key (key e) xs) e)
  held_own [] e h = stop key (key e) e [] refl
  held_own (x ∷ xs) e h =
      let p = and_parts (all_above key (key x) xs) (ascends key xs) h in
      let c = key e in
      ⊎_elim
      (λ s. ap (held key c) (at_same x xs e s) ∙ stop key c _ xs (key_better e x s) ∙ sym (ap (λ o. Some (raised above o e)) (stop key c x xs s)))
      (⊎_elim
      (λ m. let ne : key x ≡ c → ⊥ = λ s. omega arith in
      ap (held key c) (at_below x xs e m) ∙ skip key c x _ ne ∙ held_own xs e p.1 ∙ sym (ap (λ o. Some (raised above o e)) (skip key c x xs ne)))
      (λ m. ap (held key c) (at_over x xs e m) ∙ stop key c e (x ∷ xs) refl
      ∙ sym (ap (λ o. Some (raised above o e)) (none_above key c (x ∷ xs) (and_from _ _ (lt-ltb c (key x) m) (above_less key c (key x) xs (omega arith) p.0))))))
      (cases_order (key x) (key e))

  pub length_entered : (xs : List E) (e : E) → length (entered key above xs e) ≤ length xs + 1
  length_entered [] e = omega arith
  length_entered (x ∷ xs) e =
      cond_both (ltb (key x) (key e)) (x ∷ entered key above xs e) (cond (eqb (key x) (key e)) (better above e x ∷ xs) (e ∷ x ∷ xs)) (λ ys. length ys ≤ length (x ∷ xs) + 1)
      (λ _. let h = length_entered xs e in omega arith)
      (λ _. cond_both (eqb (key x) (key e)) (better above e x ∷ xs) (e ∷ x ∷ xs) (λ ys. length ys ≤ length (x ∷ xs) + 1) (λ _. omega arith) (λ _. omega arith))

  pub length_kept : (xs : List E) (e : E) → length xs ≤ length (entered key above xs e)
  length_kept [] e = omega arith
  length_kept (x ∷ xs) e =
      cond_both (ltb (key x) (key e)) (x ∷ entered key above xs e) (cond (eqb (key x) (key e)) (better above e x ∷ xs) (e ∷ x ∷ xs)) (λ ys. length (x ∷ xs) ≤ length ys)
      (λ _. let h = length_kept xs e in omega arith)
      (λ _. cond_both (eqb (key x) (key e)) (better above e x ∷ xs) (e ∷ x ∷ xs) (λ ys. length (x ∷ xs) ≤ length ys) (λ _. omega arith) (λ _. omega arith))

  pub length_new : (xs : List E) (e : E) → held key (key e) xs ≡ None → length (entered key above xs e) ≡ length xs + 1
  length_new [] e h = omega arith
  length_new (x ∷ xs) e h =
      let n = not_none x xs (key e) h in
      ⊎_elim
      (λ s. absurd (n.0 s))
      (⊎_elim
      (λ l. ap length (at_below x xs e l) ∙ (let r = length_new xs e n.1 in omega arith))
      (λ l. ap length (at_over x xs e l) ∙ omega arith))
      (cases_order (key x) (key e))
