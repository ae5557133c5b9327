-- What a choice keeps of a table.
use Rattle.std.proofs.Common.{◌≡◌, ℕ, ◌≤◌, Bool, true, false, cond, ltb, List, [], ◌∷◌, length, Some, None, filter, Option, sym, refl, ap, ◌∙◌, ⊎_elim, arith}
use Rattle.std.proofs.lemmas.Bool.{and_parts, and_from, cases_eq}
use Rattle.std.specs.List.{list_all}
use Rattle.state_vector.specs.Tables.{all_above, ascends, held}
use Rattle.state_vector.proofs.Keys.{none_above, skip, stop}

-- what is held, where it is chosen
abbrev pub chosen : {E : Type 0} → (E → Bool) → Option E → Option E
chosen choice None = None
chosen choice (Some x) = cond (choice x) (Some x) None

module _ {E : Type 0} (key : E → ℕ) (choice : E → Bool) where
  pub above_kept : (n : ℕ) (xs : List E) → all_above key n xs ≡ true → all_above key n (filter choice xs) ≡ true
  above_kept n [] a = refl
  above_kept n (x ∷ xs) a = let p = and_parts _ (all_above key n xs) a in one (choice x) p.0 (above_kept n xs p.1)
    where
      one : (b : Bool) → ltb n (key x) ≡ true → all_above key n (filter choice xs) ≡ true → all_above key n (cond b (x ∷ filter choice xs) (filter choice xs)) ≡ true
      one true h k = and_from _ _ h k
      one false h k = k

  pub ascends_kept : (xs : List E) → ascends key xs ≡ true → ascends key (filter choice xs) ≡ true
  ascends_kept [] a = refl
  ascends_kept (x ∷ xs) a = let p = and_parts (all_above key (key x) xs) (ascends key xs) a in one (choice x) (above_kept (key x) xs p.0) (ascends_kept xs p.1)
    where
      one : (b : Bool) → all_above key (key x) (filter choice xs) ≡ true → ascends key (filter choice xs) ≡ true → ascends key (cond b (x ∷ filter choice xs) (filter choice xs)) ≡ true
      one true h k = and_from _ _ h k
      one false h k = k

  pub held_kept : (c : ℕ) (xs : List E) → ascends key xs ≡ true → held key c (filter choice xs) ≡ chosen choice (held key c xs)
  held_kept c [] a = refl
  held_kept c (x ∷ xs) a =
      let p = and_parts (all_above key (key x) xs) (ascends key xs) a in
      ⊎_elim (λ (q : key x ≡ c). here (choice x) q p ∙ sym (ap (chosen choice) (stop key c x xs q))) (λ (ne : key x ≡ c → ⊥). there (choice x) ne ∙ held_kept c xs p.1 ∙ sym (ap (chosen choice) (skip key c x xs ne))) (cases_eq (key x) c)
    where
      here : (b : Bool) → key x ≡ c → (all_above key (key x) xs ≡ true) × (ascends key xs ≡ true) → held key c (cond b (x ∷ filter choice xs) (filter choice xs)) ≡ cond b (Some x) None
      here true q p = stop key c x (filter choice xs) q
      here false q p = ap (λ i. held key i (filter choice xs)) (sym q) ∙ none_above key (key x) (filter choice xs) (above_kept (key x) xs p.0)

      there : (b : Bool) → (key x ≡ c → ⊥) → held key c (cond b (x ∷ filter choice xs) (filter choice xs)) ≡ held key c (filter choice xs)
      there true ne = skip key c x (filter choice xs) ne
      there false ne = refl

  pub few_kept : (xs : List E) → length (filter choice xs) ≤ length xs
  few_kept [] = omega arith
  few_kept (x ∷ xs) = one (choice x) (few_kept xs)
    where
      one : (b : Bool) → length (filter choice xs) ≤ length xs → length (cond b (x ∷ filter choice xs) (filter choice xs)) ≤ length (x ∷ xs)
      one true h = omega arith
      one false h = omega arith

  pub pass_kept : (fine : E → Bool) (xs : List E) → list_all fine xs ≡ true → list_all fine (filter choice xs) ≡ true
  pass_kept fine [] a = refl
  pass_kept fine (x ∷ xs) a = let p = and_parts (fine x) (list_all fine xs) a in one (choice x) p.0 (pass_kept fine xs p.1)
    where
      one : (b : Bool) → fine x ≡ true → list_all fine (filter choice xs) ≡ true → list_all fine (cond b (x ∷ filter choice xs) (filter choice xs)) ≡ true
      one true h k = and_from _ _ h k
      one false h k = k
