-- The lists of clients: who is in them.
use Rattle.std.proofs.Common.{◌≡◌, ℕ, zero, suc, Bool, true, false, cond, eqb, ◌⊎◌, ◌↔◌, List, [], ◌∷◌, ◌++◌, map, filter, Contains, Some, None, Option, Decides, sym, refl, ap, ◌∙◌, subst, inl, inr, ⊎_elim, arith}
use Rattle.std.proofs.lemmas.Bool.{cases_Bool, cases_eq, cond-true, cond-false, eq-eqb, ne_eqb}
use Rattle.std.proofs.lemmas.List.Elements.{Contains-from_at}
use Rattle.state_vector.specs.Tables.{always, held, latest_or, row}
use Rattle.state_vector.proofs.Keys.{skip, stop}
use Rattle.state_vector.proofs.Rows.{from_none, updates_keep}
use Rattle.message.specs.Presence.{Entry}
use Rattle.awareness.specs.declared.change.Change.{Change}
use Rattle.awareness.specs.Changes.{change_by, changes, is_added, is_updated, is_changed, is_removed, listed}
use Rattle.awareness.specs.Record.{Record, held_of}
use Rattle.awareness.specs.Taking.{received, taken}
use Rattle.awareness.specs.Newest.{Adds, Updates, Alters, Removes, Did, Tells, ListsTellWhatWasDone}
use Rattle.awareness.proofs.Verdicts.{adds, updates, alters, removes}

module _ {X : Type 0} where
  -- what a list has is its first element, or in the rest
  pub head_or_tail : (x : X) (xs : List X) (y : X) → Contains (x ∷ xs) y → (x ≡ y) ⊎ Contains xs y
  head_or_tail x xs y (zero, l, is) = inl is
  head_or_tail x xs y (suc k, l, is) = inr (k, omega arith, is)

  pub in_head : (x : X) (xs : List X) → Contains (x ∷ xs) x
  in_head x xs = (0, omega arith, refl)

  pub in_tail : (x : X) (xs : List X) (y : X) → Contains xs y → Contains (x ∷ xs) y
  in_tail x xs y (k, l, is) = (suc k, omega arith, is)

-- a number that is its own key
abbrev self : ℕ → ℕ
self c = c

held_contained : (c : ℕ) (xs : List ℕ) → held self c xs ≡ Some c → Contains xs c
held_contained c [] is = let z : ◌≡◌ {A = ℕ} 0 1 = cc in absurd (omega arith)
held_contained c (x ∷ xs) is =
    ⊎_elim
    (λ (q : x ≡ c). subst (λ y. Contains (x ∷ xs) y) q (in_head x xs))
    (λ (ne : x ≡ c → ⊥). in_tail x xs c (held_contained c xs (sym (skip self c x xs ne) ∙ is)))
    (cases_eq x c)

contained_held : (c : ℕ) (xs : List ℕ) → Contains xs c → held self c xs ≡ Some c
contained_held c [] has = absurd (omega arith)
contained_held c (x ∷ xs) has =
    ⊎_elim
    (λ (q : x ≡ c). stop self c x xs q ∙ ap Some q)
    (λ (ne : x ≡ c → ⊥). skip self c x xs ne ∙ contained_held c xs (⊎_elim (λ q. absurd (ne q)) (λ t. t) (head_or_tail x xs c has)))
    (cases_eq x c)

latest_contained : (c : ℕ) (o : Option ℕ) (xs : List ℕ) → (o ≡ Some c) ⊎ Contains xs c → latest_or self c o xs ≡ Some c
latest_contained c o [] (inl is) = is
latest_contained c o [] (inr has) = absurd (omega arith)
latest_contained c o (x ∷ xs) known =
    ⊎_elim
    (λ (q : x ≡ c). latest_contained c (cond (eqb x c) (Some x) o) xs (inl (cond-true (eqb x c) (Some x) o (eq-eqb x c q) ∙ ap Some q)))
    (λ (ne : x ≡ c → ⊥).
    let stays : cond (eqb x c) (Some x) o ≡ o = cond-false (eqb x c) (Some x) o (ne_eqb x c ne) in
    latest_contained c (cond (eqb x c) (Some x) o) xs (⊎_elim (λ (is : o ≡ Some c). inl (stays ∙ is)) (λ has. inr (⊎_elim (λ q. absurd (ne q)) (λ t. t) (head_or_tail x xs c has))) known))
    (cases_eq x c)

-- a list has the clients of the row that it was made of, and no others
made_of : (c : ℕ) (xs : List ℕ) → Contains (row self always [] xs) c → Contains xs c
made_of c xs has = Contains-from_at xs c (from_none self always xs c c (contained_held c (row self always [] xs) has))

made_with : (c : ℕ) (xs : List ℕ) → Contains xs c → Contains (row self always [] xs) c
made_with c xs has = held_contained c (row self always [] xs) ((updates_keep self).latest_is_held xs c ∙ latest_contained c None xs (inr has))

module _ (picks : Change → Bool) (own now : ℕ) (c : ℕ) where
  -- the clients of the changes that a list has, in the order in which they were made
  abbrev clients : List (ℕ × Change) → List ℕ
  clients xs = map (λ x. x.0) (filter (λ x. picks x.1) xs)

  -- one of the entries made a change that the list has
  abbrev DidPicked : List Record → List Entry → Type 0
  DidPicked rows es = Did (λ o e. picks (change_by own o e) ≡ true) own now rows es c

  picked : (x : ℕ × Change) (xs : List (ℕ × Change)) → picks x.1 ≡ true → clients (x ∷ xs) ≡ x.0 ∷ clients xs
  picked x xs t = ap (map (λ x. x.0)) (cond-true (picks x.1) (x ∷ filter (λ x. picks x.1) xs) (filter (λ x. picks x.1) xs) t)

  passed : (x : ℕ × Change) (xs : List (ℕ × Change)) → picks x.1 ≡ false → clients (x ∷ xs) ≡ clients xs
  passed x xs f = ap (map (λ x. x.0)) (cond-false (picks x.1) (x ∷ filter (λ x. picks x.1) xs) (filter (λ x. picks x.1) xs) f)

  did_next : (rows : List Record) (e : Entry) (es : List Entry) → DidPicked (received own now rows e) es → DidPicked rows (e ∷ es)
  did_next rows e es (before, f, after, is, q, t) = (e ∷ before, f, after, ap (λ l. e ∷ l) is, q, t)

  was_done : (rows : List Record) (es : List Entry) → Contains (clients (changes own now rows es)) c → DidPicked rows es
  was_done rows [] has = absurd (omega arith)
  was_done rows (e ∷ es) has =
      let x : ℕ × Change = (e.client, change_by own (held_of e.client rows) e) in
      let then : List (ℕ × Change) = changes own now (received own now rows e) es in
      ⊎_elim
      (λ (t : picks x.1 ≡ true).
      ⊎_elim
      (λ (q : e.client ≡ c). ([], e, es, refl, q, subst (λ k. picks (change_by own (held_of k rows) e) ≡ true) q t))
      (λ (later : Contains (clients then) c). did_next rows e es (was_done (received own now rows e) es later))
      (head_or_tail e.client (clients then) c (subst (λ l. Contains l c) (picked x then t) has)))
      (λ (f : picks x.1 ≡ false). did_next rows e es (was_done (received own now rows e) es (subst (λ l. Contains l c) (passed x then f) has)))
      (cases_Bool (picks x.1))

  is_listed : (rows : List Record) (before : List Entry) (e : Entry) (after : List Entry) → e.client ≡ c → picks (change_by own (held_of c (taken own now rows before)) e) ≡ true → Contains (clients (changes own now rows (before ++ e ∷ after))) c
  is_listed rows [] e after q t =
      let x : ℕ × Change = (e.client, change_by own (held_of e.client rows) e) in
      let then : List (ℕ × Change) = changes own now (received own now rows e) after in
      let here : picks x.1 ≡ true = subst (λ k. picks (change_by own (held_of k rows) e) ≡ true) (sym q) t in
      subst (λ l. Contains l c) (sym (picked x then here)) (subst (λ k. Contains (e.client ∷ clients then) k) q (in_head e.client (clients then)))
  is_listed rows (f ∷ before) e after q t =
      let x : ℕ × Change = (f.client, change_by own (held_of f.client rows) f) in
      let then : List (ℕ × Change) = changes own now (received own now rows f) (before ++ e ∷ after) in
      let later = is_listed (received own now rows f) before e after q t in
      ⊎_elim
      (λ (h : picks x.1 ≡ true). subst (λ l. Contains l c) (sym (picked x then h)) (in_tail f.client (clients then) c later))
      (λ (h : picks x.1 ≡ false). subst (λ l. Contains l c) (sym (passed x then h)) later)
      (cases_Bool (picks x.1))

  -- a client is in the list exactly when one of the entries made such a change
  pub listed_iff_done : (rows : List Record) (es : List Entry) → Contains (listed picks (changes own now rows es)) c ↔ DidPicked rows es
  listed_iff_done rows es = (
    λ has. was_done rows es (made_of c (clients (changes own now rows es)) has),
    λ (before, e, after, there, q, t). made_with c (clients (changes own now rows es)) (subst (λ l. Contains (clients (changes own now rows l)) c) (sym there) (is_listed rows before e after q t)),
  )

-- what was done in words that mean the same was done
did_so : (own now : ℕ) (rows : List Record) (es : List Entry) (c : ℕ) (Does Also : Option Record → Entry → Type 0) → ((o : Option Record) (e : Entry) → Does o e → Also o e) → Did Does own now rows es c → Did Also own now rows es c
did_so own now rows es c Does Also so (before, e, after, there, q, t) = (before, e, after, there, q, so (held_of c (taken own now rows before)) e t)

-- a list tells of what its changes mean
tells : (picks : Change → Bool) (Does : ℕ → Option Record → Entry → Type 0) → ((own : ℕ) (o : Option Record) (e : Entry) → Decides (picks (change_by own o e)) (Does own o e)) → Tells picks Does
tells picks Does means own now rows es c =
    let h = listed_iff_done picks own now c rows es in (
      λ has. did_so own now rows es c (λ o e. picks (change_by own o e) ≡ true) (Does own) (λ o e. (means own o e).0) (h.0 has),
      λ did. h.1 (did_so own now rows es c (Does own) (λ o e. picks (change_by own o e) ≡ true) (λ o e. (means own o e).1) did),
    )

pub lists_tell_what_was_done : ListsTellWhatWasDone
lists_tell_what_was_done = record {
  added = tells is_added (λ _. Adds) adds;
  updated = tells is_updated Updates updates;
  changed = tells is_changed (λ _. Alters) alters;
  removed = tells is_removed Removes removes;
  ascending = λ picks own now rows es. (updates_keep self).ascending (map (λ x. x.0) (filter (λ x. picks x.1) (changes own now rows es)));
}
