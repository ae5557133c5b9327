-- Records after one came in, by what is then held of each client.
use Rattle.std.proofs.Common.{◌≡◌, ℕ, ◌+◌, ◌≤◌, Bool, true, false, cond, ◌||◌, eqb, ltb, leb, List, [], ◌∷◌, length, is_some, Some, None, Option, suc, ◌<◌, get_or, sym, refl, ap, ◌∙◌, subst, ⊎_elim, arith, length-set}
use Rattle.std.proofs.lemmas.Bool.{cases_eq, cases_order, cond-true, cond-false, and_parts, lt-ltb, le-ltb, or_right, eq-eqb, ne_eqb}
use Rattle.state_vector.specs.Tables.{all_above, ascends, better, entered, full, held, place, raised}
use Rattle.state_vector.proofs.Entering.{ascends_entered, entered_held, held_own, held_other, length_new}
use Rattle.state_vector.proofs.Keys.{above_less, none_above, same_rows, skip}
use Rattle.state_vector.proofs.Offering.{not_full}

module _ {E : Type 0} (key : E → ℕ) where
  -- two rules of what stands above give one table where they agree on what stays
  pub entered_alike : (above other : E → E → Bool) (xs : List E) (e : E) → ascends key xs ≡ true → raised above (held key (key e) xs) e ≡ raised other (held key (key e) xs) e → entered key above xs e ≡ entered key other xs e
  entered_alike above other xs e up same = same_rows key (entered key above xs e) (entered key other xs e) (ascends_entered key above xs e up) (ascends_entered key other xs e up) by_client where
    by_client : (c : ℕ) → held key c (entered key above xs e) ≡ held key c (entered key other xs e)
    by_client c =
        ⊎_elim
        (λ (is : key e ≡ c). subst (λ c. held key c (entered key above xs e) ≡ held key c (entered key other xs e)) is (held_own key above xs e up ∙ ap Some same ∙ sym (held_own key other xs e up)))
        (λ (ne : key e ≡ c → ⊥). held_other key above c xs e ne ∙ sym (held_other key other c xs e ne))
        (cases_eq (key e) c)

  -- an entry that does not stand above what is held leaves the table as it is
  pub entered_kept : (above : E → E → Bool) (xs : List E) (e h : E) → ascends key xs ≡ true → held key (key e) xs ≡ Some h → raised above (Some h) e ≡ h → entered key above xs e ≡ xs
  entered_kept above xs e h up is stays = same_rows key (entered key above xs e) xs (ascends_entered key above xs e up) up by_client where
    by_client : (c : ℕ) → held key c (entered key above xs e) ≡ held key c xs
    by_client c =
        ⊎_elim
        (λ (s : key e ≡ c). subst (λ c. held key c (entered key above xs e) ≡ held key c xs) s (held_own key above xs e up ∙ ap (λ o. Some (raised above o e)) is ∙ ap Some stays ∙ sym is))
        (λ (ne : key e ≡ c → ⊥). held_other key above c xs e ne)
        (cases_eq (key e) c)

  -- an entry that comes in and does not pass the places is not turned away
  pub has_place : (above : E → E → Bool) (cap : ℕ) (xs : List E) (e : E) → length (entered key above xs e) ≤ cap → full key cap xs e ≡ false
  has_place above cap xs e l = placed (held key (key e) xs) refl where
    placed : (o : Option E) → held key (key e) xs ≡ o → full key cap xs e ≡ false
    placed None is = not_full key above cap xs e (omega (arith, length_new key above xs e is))
    placed (Some h) is = ap (λ o. cond (is_some o) false (leb cap (length xs))) is

  -- an entry of a client that is held takes no place
  pub length_held : (above : E → E → Bool) (xs : List E) (e h : E) → ascends key xs ≡ true → held key (key e) xs ≡ Some h → length (entered key above xs e) ≡ length xs
  length_held above xs e h up is = by_place (find_place xs up is) where
    by_place : (i : ℕ) × (i ≡ place key (key e) xs) × (i < length xs) × (key (get_or xs i h) ≡ key e) → length (entered key above xs e) ≡ length xs
    by_place (i, p, l, k) = ap length (entered_held key above xs e i h p l k) ∙ length-set xs i (better above e (get_or xs i h))

    find_place : (ys : List E) → ascends key ys ≡ true → held key (key e) ys ≡ Some h → (i : ℕ) × (i ≡ place key (key e) ys) × (i < length ys) × (key (get_or ys i h) ≡ key e)
    find_place [] u j = let z : ◌≡◌ {A = ℕ} 0 1 = cc in absurd (omega arith)
    find_place (y ∷ ys) u j =
        let q = and_parts (all_above key (key y) ys) (ascends key ys) u in
        ⊎_elim
        (λ (s : key y ≡ key e). (0, sym (cond-false (ltb (key y) (key e)) (suc (place key (key e) ys)) 0 (le-ltb (key y) (key e) (omega arith))), omega arith, s))
        (⊎_elim
        (λ (l : key y < key e).
        let r = find_place ys q.1 (sym (skip key (key e) y ys (λ s. omega arith)) ∙ j) in
        (suc r.0, ap suc r.1 ∙ sym (cond-true (ltb (key y) (key e)) (suc (place key (key e) ys)) 0 (lt-ltb (key y) (key e) l)), omega (arith, r.2), r.3))
        (λ (l : key e < key y). absurd (no (sym (skip key (key e) y ys (λ s. omega arith) ∙ none_above key (key e) ys (above_less key (key e) (key y) ys (omega arith) q.0)) ∙ j))))
        (cases_order (key y) (key e))
      where
        no : ◌≡◌ {A = Option E} None (Some h) → ⊥
        no z = cc

  -- how many are held after an entry came
  pub length_then : (above : E → E → Bool) (xs : List E) (e : E) → ascends key xs ≡ true → length (entered key above xs e) ≡ cond (is_some (held key (key e) xs)) (length xs) (length xs + 1)
  length_then above xs e up = by (held key (key e) xs) refl where
    by : (o : Option E) → held key (key e) xs ≡ o → length (entered key above xs e) ≡ cond (is_some (held key (key e) xs)) (length xs) (length xs + 1)
    by None is = length_new key above xs e is ∙ sym (ap (λ o. cond (is_some o) (length xs) (length xs + 1)) is)
    by (Some h) is = length_held above xs e h up is ∙ sym (ap (λ o. cond (is_some o) (length xs) (length xs + 1)) is)

  -- and of whom
  pub who_then : (above : E → E → Bool) (xs : List E) (e : E) (c : ℕ) → ascends key xs ≡ true → is_some (held key c (entered key above xs e)) ≡ (is_some (held key c xs) || eqb (key e) c)
  who_then above xs e c up =
      ⊎_elim
      (λ (is : key e ≡ c).
      ap is_some (subst (λ n. held key n (entered key above xs e) ≡ Some (raised above (held key (key e) xs) e)) is (held_own key above xs e up)) ∙ sym (or_right (is_some (held key c xs)) (eqb (key e) c) (eq-eqb (key e) c is)))
      (λ (ne : key e ≡ c → ⊥).
      ap is_some (held_other key above c xs e ne) ∙ sym (ap (λ b. is_some (held key c xs) || b) (ne_eqb (key e) c ne) ∙ or_none (is_some (held key c xs))))
      (cases_eq (key e) c)
    where
      or_none : (b : Bool) → (b || false) ≡ b
      or_none true = refl
      or_none false = refl
