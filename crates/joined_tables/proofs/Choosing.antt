-- A choice among the entries of a table, and what it brings to another.
use Rattle.std.proofs.Common.{◌≡◌, ℕ, Bool, true, false, cond, List, [], Some, None, filter, Option, sym, refl, ap, ◌∙◌}
use Rattle.std.proofs.lemmas.Bool.{cond-false}
use Rattle.std.specs.List.{list_all}
use Rattle.state_vector.specs.Tables.{ascends, held}
use Rattle.state_vector.proofs.Keys.{same_rows}
use Rattle.state_vector.proofs.Kept.{chosen, ascends_kept, held_kept, pass_kept}
use Rattle.joined_tables.specs.Joined.{none, gather, HeldOff, ChoicesBringAll}
use Rattle.joined_tables.proofs.Both.{both}
use Rattle.joined_tables.proofs.Gathering.{up, pass, gather_row, held_row, held_joined, by_look_ups}

module _ {E : Type 0} (key : E → ℕ) (above : E → E → Bool) (fine : E → Bool) where
  -- entries that ascend and pass are the table that they make
  pub gathers_itself : (xs : List E) → ascends key xs ≡ true → list_all fine xs ≡ true → (gather key above fine (none key above fine) xs).0 ≡ xs
  gathers_itself xs a f =
      let is = gather_row key above fine (none key above fine) xs f in
      same_rows key _ xs (up key above fine (gather key above fine (none key above fine) xs)) a (λ c. ap (held key c) is ∙ held_row key above fine c [] xs refl a)

  chosen_enough : (choice : E → Bool) (o p : Option E) → ((x : E) → p ≡ Some x → choice x ≡ false → HeldOff key above fine x o) → both above o (chosen choice p) ≡ both above o p
  chosen_enough choice o None h = refl
  chosen_enough choice o (Some x) h = one (choice x) refl
    where
      off : (q : Option E) → HeldOff key above fine x q → both above q None ≡ both above q (Some x)
      off None g = absurd g
      off (Some y) g = ap Some (sym (cond-false (above x y) x y g))

      one : (b : Bool) → choice x ≡ b → both above o (cond b (Some x) None) ≡ both above o (Some x)
      one true e = refl
      one false e = off o (h x refl e)

  pub choices_bring : ChoicesBringAll key above fine
  choices_bring = record {
    gathered = λ choice d. gathers_itself (filter choice d.0) (ascends_kept key choice d.0 (up key above fine d)) (pass_kept key choice fine d.0 (pass key above fine d));
    enough = λ choice d e covers.
        let part = gather key above fine (none key above fine) (filter choice d.0) in
        let part-is : part.0 ≡ filter choice d.0 = gathers_itself (filter choice d.0) (ascends_kept key choice d.0 (up key above fine d)) (pass_kept key choice fine d.0 (pass key above fine d)) in
        by_look_ups key above fine _ _ (λ c.
        held_joined key above fine c e part
        ∙ ap (both above (held key c e.0)) (ap (held key c) part-is ∙ held_kept key choice c d.0 (up key above fine d))
        ∙ chosen_enough choice (held key c e.0) (held key c d.0) (λ x is. covers c x is)
        ∙ sym (held_joined key above fine c e d));
  }
