-- Entries that are offered to a table with so many places.
use Rattle.std.proofs.Common.{◌≡◌, ℕ, ◌<◌, ◌≤◌, Bool, true, false, cond, leb, List, length, is_ok, is_some, Some, None, Option, Result, sym, refl, ap, ◌∙◌, subst, ⊎_elim, arith}
use Rattle.std.proofs.lemmas.Bool.{and_parts, and_from, le-leb, lt-leb, leb-true, cases_lt, cond-false, cond_both, leb-false}
use Rattle.std.specs.List.{list_all}
use Rattle.state_vector.specs.declared.keyed.Outcome.{Outcome}
use Rattle.state_vector.specs.declared.keyed.TableFull.{TableFull}
use Rattle.state_vector.specs.Tables.{answer, ascends, entered, full, held, offered, outcome}
use Rattle.state_vector.proofs.Entering.{ascends_entered, length_new}
use Rattle.joined_tables.specs.Joined.{sound, Sound, enter, table}
use Rattle.joined_tables.proofs.Arriving.{enter_not, enter_table, table_is}
use Rattle.joined_tables.proofs.Gathering.{pass_entered}
use Rattle.joined_tables.proofs.Sizing.{length_held}

module _ {E : Type 0} (key : E → ℕ) (above : E → E → Bool) (cap : ℕ) (xs : List E) (e : E) (few : length xs ≤ cap) (up : ascends key xs ≡ true) where
  -- it finds one exactly where the table has room for it
  pub found_if_room : is_ok (outcome key above cap xs e) ≡ leb (length (entered key above xs e)) cap
  found_if_room = by_held (held key (key e) xs) refl
    where
      by_held : (o : Option E) → held key (key e) xs ≡ o → is_ok (answer above (leb cap (length xs)) o e) ≡ leb (length (entered key above xs e)) cap
      by_held None h =
          let l = length_new key above xs e h in
          ⊎_elim
          (λ (r : length xs < cap). ap (λ b. is_ok (answer above b None e)) (lt-leb cap (length xs) r) ∙ sym (le-leb _ cap (omega arith)))
          (λ (r : cap ≤ length xs). ap (λ b. is_ok (answer above b None e)) (le-leb cap (length xs) r) ∙ sym (lt-leb _ cap (omega arith)))
          (cases_lt (length xs) cap)
      by_held (Some x) h = sym (le-leb _ cap (omega (arith, length_held key above xs e x up h)))

  pub offered_if_room : leb (length (entered key above xs e)) cap ≡ true → offered key above cap xs e ≡ entered key above xs e
  offered_if_room r = by_held (held key (key e) xs) refl
    where
      by_held : (o : Option E) → held key (key e) xs ≡ o → cond (cond (is_some o) false (leb cap (length xs))) xs (entered key above xs e) ≡ entered key above xs e
      by_held None h = cond-false _ xs (entered key above xs e) (lt-leb cap (length xs) (omega (arith, length_new key above xs e h, leb-true _ cap r)))
      by_held (Some x) h = refl

  -- and keeps to its places
  few_offered : length (offered key above cap xs e) ≤ cap
  few_offered = by_held (held key (key e) xs) refl
    where
      by_held : (o : Option E) → held key (key e) xs ≡ o → length (cond (cond (is_some o) false (leb cap (length xs))) xs (entered key above xs e)) ≤ cap
      by_held None h = cond_both (leb cap (length xs)) xs (entered key above xs e) (λ ys. length ys ≤ cap) (λ _. few) (λ r. omega (arith, length_new key above xs e h, leb-false cap (length xs) r))
      by_held (Some x) h = omega (arith, length_held key above xs e x up h)

-- an entry that passes is offered to a sound table
module _ {E : Type 0} (key : E → ℕ) (above : E → E → Bool) (fine : E → Bool) (cap : ℕ) (xs : List E) (e : E) (few : length xs ≤ cap) (good : sound key fine xs ≡ true) (passes : fine e ≡ true) where
  up : ascends key xs ≡ true
  up = (and_parts (ascends key xs) (list_all fine xs) good).0

  pub sound_entered : sound key fine (entered key above xs e) ≡ true
  sound_entered = let p = and_parts (ascends key xs) (list_all fine xs) good in and_from _ _ (ascends_entered key above xs e p.0) (pass_entered key above fine xs e p.1 passes)

  pub sound_offered : (ys : List E) → ys ≡ offered key above cap xs e → (length ys ≤ cap) × (sound key fine ys ≡ true)
  sound_offered ys is = subst (λ l. (length l ≤ cap) × (sound key fine l ≡ true)) (sym is) (few_offered key above cap xs e few up, either (full key cap xs e))
    where
      either : (b : Bool) → sound key fine (cond b xs (entered key above xs e)) ≡ true
      either true = good
      either false = sound_entered

  entered_is : enter key above fine (table key above fine xs) e ≡ table key above fine (entered key above xs e)
  entered_is = enter_table key above fine xs e good sound_entered passes

  -- what a program learns from the answer: whether the table has room for it, and that it came in where it has
  pub answered : (r : Result Outcome TableFull) → r ≡ outcome key above cap xs e → is_ok r ≡ leb (length (enter key above fine (table key above fine xs) e).0) cap
  answered r is =
      ap is_ok is ∙ found_if_room key above cap xs e few up
      ∙ ap (λ l. leb (length l) cap) (sym (ap (λ (t : Sound key fine). t.0) entered_is ∙ table_is key above fine (entered key above xs e) sound_entered))

  pub comes_in : (r : Result Outcome TableFull) (ys : List E) → r ≡ outcome key above cap xs e → ys ≡ offered key above cap xs e → is_ok r ≡ true → table key above fine ys ≡ enter key above fine (table key above fine xs) e
  comes_in r ys is us f =
      ap (table key above fine) (us ∙ offered_if_room key above cap xs e few up (sym (found_if_room key above cap xs e few up) ∙ ap is_ok (sym is) ∙ f)) ∙ sym entered_is

-- one that does not pass leaves the table within its places
pub stays_out : {E : Type 0} (key : E → ℕ) (above : E → E → Bool) (fine : E → Bool) (cap : ℕ) (xs : List E) (e : E) → length xs ≤ cap → sound key fine xs ≡ true → fine e ≡ false → leb (length (enter key above fine (table key above fine xs) e).0) cap ≡ true
stays_out key above fine cap xs e few good out =
    ap (λ (t : Sound key fine). leb (length t.0) cap) (enter_not key above fine (table key above fine xs) e out) ∙ ap (λ l. leb (length l) cap) (table_is key above fine xs good) ∙ le-leb (length xs) cap few
