-- What the order of entries gives of a row of them.
use Rattle.std.proofs.Common.{◌≡◌, ℕ, suc, ◌+◌, ◌≤◌, Bool, true, false, cond, eqb, ltb, leb, ◌⊎◌, List, [], ◌∷◌, length, is_some, Some, None, Option, sym, refl, ap, ◌∙◌, inl, inr, ⊎_elim, arith}
use Rattle.std.specs.List.{ContainsAt as Has, AllByRecursion as All}
use Rattle.std.proofs.ByRecursion.{all-has}
use Rattle.std.proofs.lemmas.Bool.{cases_Bool, cases_eq, or_cases, both_ways, cond_both, cond-true, cond-false, eq-eqb, ne_eqb, and_parts, ltb-true}
use Rattle.state_vector.specs.Tables.{all_above, ascends, held, raised, always, entered, full, offered, row, offers, latest_or, Room, Order, Agree, TiesAgree, OffersKeepTheHighest, OrdersAgree, UpdatesKeepTheLatest}
use Rattle.state_vector.proofs.Entering.{ascends_entered, held_own, held_other, length_entered, length_new, length_kept}
use Rattle.state_vector.proofs.Keys.{held_key, same_rows, skip, stop}
use Rattle.state_vector.proofs.Offering.{ascends_offered, not_full}

module _ {E : Type 0} (key : E → ℕ) (above : E → E → Bool) where
  ascends_row : (xs es : List E) → ascends key xs ≡ true → ascends key (row key above xs es) ≡ true
  ascends_row xs [] up = up
  ascends_row xs (e ∷ es) up = ascends_row (entered key above xs e) es (ascends_entered key above xs e up)

  ascends_offers : (cap : ℕ) (xs es : List E) → ascends key xs ≡ true → ascends key (offers key above cap xs es) ≡ true
  ascends_offers cap xs [] up = up
  ascends_offers cap xs (e ∷ es) up = ascends_offers cap (offered key above cap xs e) es (ascends_offered key above cap xs e up)

  pub length_row : (xs es : List E) → length (row key above xs es) ≤ length xs + length es
  length_row xs [] = omega arith
  length_row xs (e ∷ es) = let h = length_row (entered key above xs e) es in omega (arith, length_entered key above xs e)

  row_grows : (xs es : List E) → length xs ≤ length (row key above xs es)
  row_grows xs [] = omega arith
  row_grows xs (e ∷ es) = let h = row_grows (entered key above xs e) es in omega (arith, length_kept key above xs e)

  -- an entry that comes in and does not pass the places was not turned away
  has_place : (cap : ℕ) (xs : List E) (e : E) → length (entered key above xs e) ≤ cap → full key cap xs e ≡ false
  has_place cap xs e l = placed (held key (key e) xs) refl where
    placed : (o : Option E) → held key (key e) xs ≡ o → full key cap xs e ≡ false
    placed None is = not_full key above cap xs e (omega (arith, length_new key above xs e is))
    placed (Some h) is = ap (λ o. cond (is_some o) false (leb cap (length xs))) is

  -- with room for all, a row of offers is a row of entries that come in
  in_room : (cap : ℕ) (xs es : List E) → length (row key above xs es) ≤ cap → offers key above cap xs es ≡ row key above xs es
  in_room cap xs [] l = refl
  in_room cap xs (e ∷ es) l =
      let ys = entered key above xs e in
      let came : offered key above cap xs e ≡ ys = cond-false (full key cap xs e) xs ys (has_place cap xs e (omega (arith, row_grows ys es))) in
      ap (λ zs. offers key above cap zs es) came ∙ in_room cap ys es l

  has_next : (e h : E) (es : List E) → Has es h → Has (e ∷ es) h
  has_next e h es p = (suc p.0, omega arith, λ d. p.2 d)

  raised_from : (o : Option E) (e h : E) → raised above o e ≡ h → (e ≡ h) ⊎ (o ≡ Some h)
  raised_from None e h is = inl is
  raised_from (Some x) e h is =
      ⊎_elim
      (λ (t : above e x ≡ true). inl (sym (cond-true (above e x) e x t) ∙ is))
      (λ (f : above e x ≡ false). inr (ap Some (sym (cond-false (above e x) e x f) ∙ is)))
      (cases_Bool (above e x))

  -- what is held came in, or was held before
  held_from : (xs es : List E) (c : ℕ) (h : E) → ascends key xs ≡ true → held key c (row key above xs es) ≡ Some h → Has es h ⊎ (held key c xs ≡ Some h)
  held_from xs [] c h up is = inr is
  held_from xs (e ∷ es) c h up is =
      ⊎_elim
      (λ p. inl (has_next e h es p))
      (λ (was : held key c (entered key above xs e) ≡ Some h).
      ⊎_elim
      (λ (q : key e ≡ c).
      let own : held key c (entered key above xs e) ≡ Some (raised above (held key c xs) e) = rw (← q) (held_own key above xs e up) in
      let s : raised above (held key c xs) e ≡ h = let w = sym own ∙ was in cc in
      ⊎_elim (λ (t : e ≡ h). inl (0, omega arith, λ d. t)) (λ t. inr t) (raised_from (held key c xs) e h s))
      (λ (ne : key e ≡ c → ⊥). inr (sym (held_other key above c xs e ne) ∙ was))
      (cases_eq (key e) c))
      (held_from (entered key above xs e) es c h (ascends_entered key above xs e up) is)

  pub from_none : (es : List E) (c : ℕ) (h : E) → held key c (row key above [] es) ≡ Some h → Has es h
  from_none es c h is = ⊎_elim (λ p. p) (λ w. let z : ◌≡◌ {A = ℕ} 0 1 = cc in absurd (omega arith)) (held_from [] es c h refl is)

-- something is held, and z does not stand above it
abbrev Stands : {E : Type 0} → (E → E → Bool) → Option E → E → Type 0
Stands above None z = ⊥
Stands above (Some h) z = above z h ≡ false

module _ {E : Type 0} (key : E → ℕ) (above : E → E → Bool) (order : Order above) where
  -- the one use of the law on a third
  stays_below : (e h z : E) → above e h ≡ true → above z h ≡ false → above z e ≡ false
  stays_below e h z up low =
      ⊎_elim (λ t. order.asymmetric e z t) (λ t. absurd (both_ways (above z h) low t)) (or_cases (above e z) (above z h) (order.third e h z up))

  stands_raised : (o : Option E) (e z : E) → Stands above o z → Stands above (Some (raised above o e)) z
  stands_raised None e z s = absurd s
  stands_raised (Some h) e z s = cond_both (above e h) e h (λ y. above z y ≡ false) (λ t. stays_below e h z t s) (λ _. s)

  stands_own : (o : Option E) (e : E) → Stands above (Some (raised above o e)) e
  stands_own None e = order.irreflexive e
  stands_own (Some h) e = cond_both (above e h) e h (λ y. above e y ≡ false) (λ _. order.irreflexive e) (λ f. f)

  stands_entered : (xs : List E) (e z : E) → ascends key xs ≡ true → Stands above (held key (key z) xs) z → Stands above (held key (key z) (entered key above xs e)) z
  stands_entered xs e z up s =
      ⊎_elim
      (λ (q : key e ≡ key z). rw (← q, held_own key above xs e up) (stands_raised (held key (key e) xs) e z (rw q s)))
      (λ (ne : key e ≡ key z → ⊥). rw (held_other key above (key z) xs e ne) s)
      (cases_eq (key e) (key z))

  -- what once stands against z does so after any further entries
  stands_row : (xs es : List E) (z : E) → ascends key xs ≡ true → Stands above (held key (key z) xs) z → Stands above (held key (key z) (row key above xs es)) z
  stands_row xs [] z up s = s
  stands_row xs (e ∷ es) z up s = stands_row (entered key above xs e) es z (ascends_entered key above xs e up) (stands_entered xs e z up s)

  -- after a row, what is held under a key stands against each that came
  all_stand : (xs es : List E) → ascends key xs ≡ true → All (λ z. Stands above (held key (key z) (row key above xs es)) z) es
  all_stand xs [] up = tt
  all_stand xs (e ∷ es) up =
      let up' = ascends_entered key above xs e up in (
        stands_row (entered key above xs e) es e up' (rw (held_own key above xs e up) (stands_own (held key (key e) xs) e)),
        all_stand (entered key above xs e) es up',
      )

  each_stands : (es : List E) (z : E) → Has es z → Stands above (held key (key z) (row key above [] es)) z
  each_stands es z has = all-has (λ y. Stands above (held key (key y) (row key above [] es)) y) es z (all_stand [] es refl) has

  stands_some : (o : Option E) (z : E) → Stands above o z → is_some o ≡ true
  stands_some None z s = absurd s
  stands_some (Some h) z s = refl

  stands_at : (o : Option E) (h z : E) → o ≡ Some h → Stands above o z → above z h ≡ false
  stands_at None h z is s = absurd s
  stands_at (Some k) h z is s = let e : k ≡ h = cc in rw e at s

  pub offers_keep : OffersKeepTheHighest key above
  offers_keep = record {
    ascending = λ cap es. ascends_offers key above cap [] es refl;
    offered_is_held = λ cap es r z has. rw (in_room key above cap [] es r) (stands_some (held key (key z) (row key above [] es)) z (each_stands es z has));
    held_was_offered = λ cap es r c h is.
        let was : held key c (row key above [] es) ≡ Some h = rw (in_room key above cap [] es r) at is in
        (from_none key above es c h was, held_key key c (row key above [] es) h was);
    none_stands_above = λ cap es r c h z is has k.
        let was : held key c (row key above [] es) ≡ Some h = rw (in_room key above cap [] es r) at is in
        stands_at (held key c (row key above [] es)) h z was (rw k at (each_stands es z has));
    room = λ cap es l. omega (arith, length_row key above [] es);
  }

  -- in another order, what is held under the key stands against it
  level : (es fs : List E) → Agree es fs → (c : ℕ) (h : E) → held key c (row key above [] es) ≡ Some h → Stands above (held key c (row key above [] fs)) h
  level es fs same c h is =
      let k = held_key key c (row key above [] es) h is in
      let s = each_stands fs h ((same h).0 (from_none key above es c h is)) in
      rw k at s

  agree_flip : (es fs : List E) → Agree es fs → Agree fs es
  agree_flip es fs same z = ((same z).1, (same z).0)

  one_of : (o p : Option E)
      → ((h : E) → o ≡ Some h → Stands above p h) → ((k : E) → p ≡ Some k → Stands above o k)
      → ((h k : E) → o ≡ Some h → p ≡ Some k → above h k ≡ false → above k h ≡ false → h ≡ k) → o ≡ p
  one_of None None a b t = refl
  one_of None (Some k) a b t = absurd (b k refl)
  one_of (Some h) None a b t = absurd (a h refl)
  one_of (Some h) (Some k) a b t = ap Some (t h k refl refl (a h refl) (b k refl))

  same_held : (es fs : List E) → Agree es fs → TiesAgree key above es → (c : ℕ) → held key c (row key above [] es) ≡ held key c (row key above [] fs)
  same_held es fs same free c =
      one_of _ _ (level es fs same c) (level fs es (agree_flip es fs same) c)
      (λ h k p q. free h k (from_none key above es c h p) ((same k).1 (from_none key above fs c k q)) (held_key key c (row key above [] es) h p ∙ sym (held_key key c (row key above [] fs) k q)))

  same_row : (es fs : List E) → Agree es fs → TiesAgree key above es → row key above [] es ≡ row key above [] fs
  same_row es fs same free = same_rows key _ _ (ascends_row key above [] es refl) (ascends_row key above [] fs refl) (same_held es fs same free)

  pub any_order : OrdersAgree key above
  any_order cap es fs same free r =
      let e = same_row es fs same free in
      let q : Room key above cap fs = rw e at r in
      (q, in_room key above cap [] es r ∙ e ∙ sym (in_room key above cap [] fs q))

-- where each takes its place, the last of a key holds
module _ {E : Type 0} (key : E → ℕ) where
  raised_always : (o : Option E) (e : E) → raised always o e ≡ e
  raised_always None e = refl
  raised_always (Some x) e = refl

  held_always : (c : ℕ) (xs : List E) (e : E) → ascends key xs ≡ true → held key c (entered key always xs e) ≡ cond (eqb (key e) c) (Some e) (held key c xs)
  held_always c xs e up =
      ⊎_elim
      (λ (q : key e ≡ c).
      let own : held key c (entered key always xs e) ≡ Some (raised always (held key c xs) e) = rw (← q) (held_own key always xs e up) in
      own ∙ ap Some (raised_always (held key c xs) e) ∙ sym (cond-true (eqb (key e) c) (Some e) (held key c xs) (eq-eqb (key e) c q)))
      (λ (ne : key e ≡ c → ⊥). held_other key always c xs e ne ∙ sym (cond-false (eqb (key e) c) (Some e) (held key c xs) (ne_eqb (key e) c ne)))
      (cases_eq (key e) c)

  held_row : (c : ℕ) (xs es : List E) → ascends key xs ≡ true → held key c (row key always xs es) ≡ latest_or key c (held key c xs) es
  held_row c xs [] up = refl
  held_row c xs (e ∷ es) up =
      held_row c (entered key always xs e) es (ascends_entered key always xs e up) ∙ ap (λ o. latest_or key c o es) (held_always c xs e up)

  latest_none : (c : ℕ) (o : Option E) (es : List E) → all_above key c es ≡ true → latest_or key c o es ≡ o
  latest_none c o [] up = refl
  latest_none c o (e ∷ es) up =
      let p = and_parts (ltb c (key e)) (all_above key c es) up in
      let ne : key e ≡ c → ⊥ = λ q. omega (arith, ltb-true c (key e) p.0) in
      ap (λ w. latest_or key c w es) (cond-false (eqb (key e) c) (Some e) o (ne_eqb (key e) c ne)) ∙ latest_none c o es p.1

  latest_only : (c : ℕ) (es : List E) → ascends key es ≡ true → latest_or key c None es ≡ held key c es
  latest_only c [] up = refl
  latest_only c (e ∷ es) up =
      let p = and_parts (all_above key (key e) es) (ascends key es) up in
      ⊎_elim
      (λ (q : key e ≡ c).
      ap (λ w. latest_or key c w es) (cond-true (eqb (key e) c) (Some e) None (eq-eqb (key e) c q)) ∙ latest_none c (Some e) es (rw q at p.0) ∙ sym (stop key c e es q))
      (λ (ne : key e ≡ c → ⊥).
      ap (λ w. latest_or key c w es) (cond-false (eqb (key e) c) (Some e) None (ne_eqb (key e) c ne)) ∙ latest_only c es p.1 ∙ sym (skip key c e es ne))
      (cases_eq (key e) c)

  pub updates_keep : UpdatesKeepTheLatest key
  updates_keep = record {
    ascending = λ es. ascends_row key always [] es refl;
    latest_is_held = λ es c. held_row c [] es refl;
    ascending_stays = λ es up. same_rows key _ _ (ascends_row key always [] es refl) up (λ c. held_row c [] es refl ∙ latest_only c es up);
  }
