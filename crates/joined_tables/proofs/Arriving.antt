-- Entries that come to a table one after another, as a program brings them.
use Rattle.std.proofs.Common.{◌≡◌, ℕ, ◌+◌, ◌≤◌, Bool, true, false, T, List, [], ◌∷◌, length, Some, None, Option, sym, refl, ap, ◌∙◌, subst, ⊎_elim, arith}
use Rattle.std.proofs.lemmas.Bool.{true≢false, both_ways, and_parts, and_from, cases_Bool, cases_eq, cond-true, cond-false}
use Rattle.std.specs.List.{list_all}
use Rattle.state_vector.specs.Tables.{Order, ascends, entered, held, raised}
use Rattle.state_vector.proofs.Entering.{held_other, held_own, length_entered, length_kept}
use Rattle.state_vector.proofs.Keys.{same_rows}
use Rattle.joined_tables.specs.Joined.{passing, sound, Sound, admit, none, enter, gather, joined, table, Decided}
use Rattle.joined_tables.proofs.Gathering.{up, pass, same_table, enter_fine, joins_lawful}
use Rattle.joined_tables.proofs.Mapping.{held_passes}

-- a table that is admitted, and one that is not
module _ {A : Type 0} where
  passing_false : (b : Bool) (f : T b → A) (o : A) → b ≡ false → passing b f o ≡ o
  passing_false true f o e = absurd (true≢false e)
  passing_false false f o e = refl

module _ {E : Type 0} (key : E → ℕ) (above : E → E → Bool) (fine : E → Bool) where
  pub admitted : (xs : List E) (d : Sound key fine) → sound key fine xs ≡ true → (admit key above fine xs d).0 ≡ xs
  admitted xs d e = one (sound key fine xs) (λ t. t) e
    where
      one : (b : Bool) (g : T b → T (sound key fine xs)) → b ≡ true → (passing b (λ t. (xs, g t)) d).0 ≡ xs
      one true g e = refl
      one false g e = absurd (true≢false (sym e))

  pub table_is : (xs : List E) → sound key fine xs ≡ true → (table key above fine xs).0 ≡ xs
  table_is xs e = admitted xs (none key above fine) e

  -- a table is the table with its entries
  pub table_of : (d : Sound key fine) → table key above fine d.0 ≡ d
  table_of d = same_table key above fine _ d (table_is d.0 (and_from _ _ (up key above fine d) (pass key above fine d)))

  -- an entry that passes comes into the table with these entries
  pub enter_table : (xs : List E) (e : E) → sound key fine xs ≡ true → sound key fine (entered key above xs e) ≡ true → fine e ≡ true → enter key above fine (table key above fine xs) e ≡ table key above fine (entered key above xs e)
  enter_table xs e s t f =
      same_table key above fine _ _ (enter_fine key above fine (table key above fine xs) e f ∙ ap (λ l. entered key above l e) (table_is xs s) ∙ sym (table_is (entered key above xs e) t))

  -- an entry that does not pass leaves the table as it is
  pub enter_not : (d : Sound key fine) (e : E) → fine e ≡ false → enter key above fine d e ≡ d
  enter_not d e f =
      ⊎_elim
      (λ (s : sound key fine (entered key above d.0 e) ≡ true). same_table key above fine _ d (admitted (entered key above d.0 e) d s ∙ stays s))
      (λ (s : sound key fine (entered key above d.0 e) ≡ false). passing_false (sound key fine (entered key above d.0 e)) (λ t. (entered key above d.0 e, t)) d s)
      (cases_Bool (sound key fine (entered key above d.0 e)))
    where
      -- whoever is held after it is not the entry
      same : (o : Option E) → fine (raised above o e) ≡ true → Some (raised above o e) ≡ o
      same None p = absurd (both_ways (fine e) f p)
      same (Some x) p = ⊎_elim (λ (t : above e x ≡ true). absurd (both_ways (fine e) f (sym (ap fine (cond-true (above e x) e x t)) ∙ p))) (λ (t : above e x ≡ false). ap Some (cond-false (above e x) e x t)) (cases_Bool (above e x))

      stays : sound key fine (entered key above d.0 e) ≡ true → entered key above d.0 e ≡ d.0
      stays s =
          let p = and_parts (ascends key (entered key above d.0 e)) (list_all fine (entered key above d.0 e)) s in
          let own = held_own key above d.0 e (up key above fine d) in
          let here : held key (key e) (entered key above d.0 e) ≡ held key (key e) d.0 = own ∙ same (held key (key e) d.0) (held_passes key fine (key e) (entered key above d.0 e) _ p.1 own) in
          same_rows key (entered key above d.0 e) d.0 p.0 (up key above fine d)
          (λ c. ⊎_elim (λ (q : key e ≡ c). subst (λ i. held key i (entered key above d.0 e) ≡ held key i d.0) q here) (λ (ne : key e ≡ c → ⊥). held_other key above c d.0 e ne) (cases_eq (key e) c))

  -- tables grow by one entry at most, and never shrink
  enter_size : (d : Sound key fine) (e : E) → (length d.0 ≤ length (enter key above fine d e).0) × (length (enter key above fine d e).0 ≤ length d.0 + 1)
  enter_size d e =
      ⊎_elim
      (λ (f : fine e ≡ true). subst (λ l. (length d.0 ≤ length l) × (length l ≤ length d.0 + 1)) (sym (enter_fine key above fine d e f)) (length_kept key above d.0 e, length_entered key above d.0 e))
      (λ (f : fine e ≡ false). subst (λ (t : Sound key fine). (length d.0 ≤ length t.0) × (length t.0 ≤ length d.0 + 1)) (sym (enter_not d e f)) (omega arith, omega arith))
      (cases_Bool (fine e))

  pub gather_grows : (d : Sound key fine) (es : List E) → length d.0 ≤ length (gather key above fine d es).0
  gather_grows d [] = omega arith
  gather_grows d (e ∷ es) = omega (arith, (enter_size d e).0, gather_grows (enter key above fine d e) es)

  pub gather_few : (d : Sound key fine) (es : List E) → length (gather key above fine d es).0 ≤ length d.0 + length es
  gather_few d [] = omega arith
  gather_few d (e ∷ es) = omega (arith, (enter_size d e).1, gather_few (enter key above fine d e) es)

  -- a row of entries that comes is joined as the table that it makes
  module _ (order : Order above) (decided : Decided key above) where
    one_joins : (d : Sound key fine) (e : E) → enter key above fine d e ≡ joined key above fine d (enter key above fine (none key above fine) e)
    one_joins d e =
        ⊎_elim
        (λ (f : fine e ≡ true). sym (ap (gather key above fine d) (enter_fine key above fine (none key above fine) e f)))
        (λ (f : fine e ≡ false). enter_not d e f ∙ sym (ap (λ (t : Sound key fine). gather key above fine d t.0) (enter_not (none key above fine) e f)))
        (cases_Bool (fine e))

    pub gather_joins : (d : Sound key fine) (es : List E) → gather key above fine d es ≡ joined key above fine d (gather key above fine (none key above fine) es)
    gather_joins d [] = refl
    gather_joins d (e ∷ es) =
        let first = enter key above fine (none key above fine) e in
        let rest = gather key above fine (none key above fine) es in
        gather_joins (enter key above fine d e) es
        ∙ ap (λ t. joined key above fine t rest) (one_joins d e)
        ∙ (joins_lawful key above fine order decided).associative d first rest
        ∙ ap (joined key above fine d) (sym (gather_joins first es))
