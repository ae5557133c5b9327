-- How many entries a table has after one came.
use Rattle.std.proofs.Common.{◌≡◌, ℕ, suc, ◌<◌, Bool, true, List, [], ◌∷◌, length, Some, None, sym, ap, ◌∙◌, ⊎_elim, arith}
use Rattle.std.proofs.lemmas.Bool.{and_parts, cases_order, cond-true, cond-false, lt-ltb, le-ltb, eq-eqb}
use Rattle.state_vector.specs.Tables.{all_above, ascends, better, entered, held}
use Rattle.state_vector.proofs.Keys.{above_less, none_above, skip}

-- as many as before, where the entry's client was held
pub length_held : {E : Type 0} (key : E → ℕ) (above : E → E → Bool) (xs : List E) (e x : E) → ascends key xs ≡ true → held key (key e) xs ≡ Some x → length (entered key above xs e) ≡ length xs
length_held key above [] e x up h = let z : ◌≡◌ {A = ℕ} 0 1 = cc in absurd (omega arith)
length_held key above (y ∷ xs) e x up h =
    let p = and_parts (all_above key (key y) xs) (ascends key xs) up in
    ⊎_elim
    (λ (s : key y ≡ key e). ap length (cond-false _ _ _ (le-ltb (key y) (key e) (omega arith)) ∙ cond-true _ (better above e y ∷ xs) (e ∷ y ∷ xs) (eq-eqb (key y) (key e) s)))
    (⊎_elim
    (λ (l : key y < key e). ap length (cond-true _ (y ∷ entered key above xs e) _ (lt-ltb (key y) (key e) l)) ∙ ap suc (length_held key above xs e x p.1 (sym (skip key (key e) y xs (λ q. omega arith)) ∙ h)))
    (λ (l : key e < key y).
    let gone : held key (key e) (y ∷ xs) ≡ None = skip key (key e) y xs (λ q. omega arith) ∙ none_above key (key e) xs (above_less key (key e) (key y) xs (omega arith) p.0) in
    let z : ◌≡◌ {A = ℕ} 0 1 = cc in absurd (omega arith)))
    (cases_order (key y) (key e))
