-- Tables gathered from rows of entries, look-up by look-up.
use Rattle.std.proofs.Common.{◌≡◌, ℕ, Bool, true, false, cond, T, eqb, ltb, List, [], ◌∷◌, Some, None, Option, sym, refl, ap, ◌∙◌, subst, ⊎_elim}
use mathlib.Core.HLevel.{Σ_prop_path}
use lib.Dec.{T_prop}
use Rattle.std.proofs.lemmas.Bool.{true≢false, and_parts, and_from, cases_eq}
use Rattle.std.specs.List.{list_all}
use Rattle.state_vector.specs.Tables.{Order, all_above, ascends, entered, held, row}
use Rattle.state_vector.proofs.Entering.{ascends_entered, held_other, held_own}
use Rattle.state_vector.proofs.Keys.{held_key, none_above, same_rows, skip, stop}
use Rattle.joined_tables.specs.Joined.{passing, sound, Sound, none, enter, gather, joined, Decided, JoinsAreLawful}
use Rattle.joined_tables.proofs.Both.{both, raised_is, At, same_twice, either_way, of_three}

pub holds : (b : Bool) → T b → b ≡ true
holds true t = refl
holds false t = absurd t

passing_at : {A B : Type 0} (g : A → B) (b : Bool) (f : T b → A) (o : A) (y : B) → ((t : T b) → g (f t) ≡ y) → b ≡ true → g (passing b f o) ≡ y
passing_at g true f o y h e = h tt
passing_at g false f o y h e = absurd (true≢false (sym e))

module _ {E : Type 0} (key : E → ℕ) (above : E → E → Bool) (fine : E → Bool) where
  -- two sound tables with the same entries are the same
  pub same_table : (x y : Sound key fine) → x.0 ≡ y.0 → x ≡ y
  same_table x y p = Σ_prop_path (λ xs. T_prop (sound key fine xs)) p

  pub up : (d : Sound key fine) → ascends key d.0 ≡ true
  up d = (and_parts (ascends key d.0) (list_all fine d.0) (holds _ d.1)).0

  pub pass : (d : Sound key fine) → list_all fine d.0 ≡ true
  pass d = (and_parts (ascends key d.0) (list_all fine d.0) (holds _ d.1)).1

  pub pass_entered : (xs : List E) (e : E) → list_all fine xs ≡ true → fine e ≡ true → list_all fine (entered key above xs e) ≡ true
  pass_entered [] e a f = and_from _ _ f refl
  pass_entered (x ∷ xs) e a f =
      let p = and_parts (fine x) (list_all fine xs) a in
      let P : List E → Type 0 = λ l. list_all fine l ≡ true in
      by_cond (ltb (key x) (key e)) _ _ P (and_from _ _ p.0 (pass_entered xs e p.1 f))
      (by_cond (eqb (key x) (key e)) _ _ P (and_from _ _ (by_cond (above e x) e x (λ z. fine z ≡ true) f p.0) p.1) (and_from _ _ f a))
    where
      by_cond : {A : Type 0} (b : Bool) (y z : A) (P : A → Type 0) → P y → P z → P (cond b y z)
      by_cond true y z P h k = h
      by_cond false y z P h k = k

  -- an entry that passes comes in as into any table
  pub enter_fine : (d : Sound key fine) (e : E) → fine e ≡ true → (enter key above fine d e).0 ≡ entered key above d.0 e
  enter_fine d e f =
      let xs = entered key above d.0 e in
      passing_at (λ (t : Sound key fine). t.0) (sound key fine xs) (λ t. (xs, t)) d xs (λ t. refl) (and_from _ _ (ascends_entered key above d.0 e (up d)) (pass_entered d.0 e (pass d) f))

  pub gather_row : (d : Sound key fine) (es : List E) → list_all fine es ≡ true → (gather key above fine d es).0 ≡ row key above d.0 es
  gather_row d [] a = refl
  gather_row d (e ∷ es) a =
      let p = and_parts (fine e) (list_all fine es) a in
      gather_row (enter key above fine d e) es p.1 ∙ ap (λ xs. row key above xs es) (enter_fine d e p.0)

  -- what is held after all entries of one table came to another
  pub held_row : (c : ℕ) (xs us : List E) → ascends key xs ≡ true → ascends key us ≡ true → held key c (row key above xs us) ≡ both above (held key c xs) (held key c us)
  held_row c xs [] a b = all (held key c xs)
    where
      all : (o : Option E) → o ≡ both above o None
      all None = refl
      all (Some x) = refl
  held_row c xs (u ∷ us) a b =
      let p = and_parts (all_above key (key u) us) (ascends key us) b in
      held_row c (entered key above xs u) us (ascends_entered key above xs u a) p.1
      ∙ ⊎_elim
      (λ (q : key u ≡ c).
      let gone : held key c us ≡ None = subst (λ i. held key i us ≡ None) q (none_above key (key u) us p.0) in
      let here : held key c (entered key above xs u) ≡ both above (held key c xs) (Some u) = subst (λ i. held key i (entered key above xs u) ≡ both above (held key i xs) (Some u)) q (held_own key above xs u a ∙ raised_is above (held key (key u) xs) u) in
      ap (λ o. both above o (held key c us)) here ∙ ap (both above (both above (held key c xs) (Some u))) gone ∙ last (held key c xs) u ∙ sym (ap (both above (held key c xs)) (stop key c u us q)))
      (λ (ne : key u ≡ c → ⊥). ap (λ o. both above o (held key c us)) (held_other key above c xs u ne) ∙ sym (ap (both above (held key c xs)) (skip key c u us ne)))
      (cases_eq (key u) c)
    where
      last : (o : Option E) (e : E) → both above (both above o (Some e)) None ≡ both above o (Some e)
      last None e = refl
      last (Some x) e = refl

  pub held_joined : (c : ℕ) (d u : Sound key fine) → held key c (joined key above fine d u).0 ≡ both above (held key c d.0) (held key c u.0)
  held_joined c d u = ap (held key c) (gather_row d u.0 (pass u)) ∙ held_row c d.0 u.0 (up d) (up u)

  -- tables whose look-ups agree are the same
  pub by_look_ups : (x y : Sound key fine) → ((c : ℕ) → held key c x.0 ≡ held key c y.0) → x ≡ y
  by_look_ups x y h = same_table x y (same_rows key x.0 y.0 (up x) (up y) h)

  pub at_key : (c : ℕ) (d : Sound key fine) → At key c (held key c d.0)
  at_key c d x h = held_key key c d.0 x h

  pub joins_lawful : Order above → Decided key above → JoinsAreLawful key above fine
  joins_lawful order decided = record {
    associative = λ x y z. by_look_ups _ _ (λ c.
        held_joined c (joined key above fine x y) z
        ∙ ap (λ o. both above o (held key c z.0)) (held_joined c x y)
        ∙ of_three key above order (held key c x.0) (held key c y.0) (held key c z.0)
        ∙ sym (held_joined c x (joined key above fine y z) ∙ ap (both above (held key c x.0)) (held_joined c y z)));
    commutative = λ x y. by_look_ups _ _ (λ c. held_joined c x y ∙ either_way key above order decided c (held key c x.0) (held key c y.0) (at_key c x) (at_key c y) ∙ sym (held_joined c y x));
    idempotent = λ x. by_look_ups _ _ (λ c. held_joined c x x ∙ same_twice key above order (held key c x.0));
    neutral = λ x. by_look_ups _ _ (λ c. held_joined c (none key above fine) x);
  }
