-- An offer after the search: what the table holds, and what is answered.
use Rattle.std.proofs.Common.{◌≡◌, ℕ, ◌<◌, Bool, true, false, cond, leb, List, length, get_or, set, is_some, Some, None, Ok, Err, Result, subst, sym, refl, ap, ◌∙◌, length-set}
use Rattle.std.specs.List.{insert}
use Rattle.std.specs.Prelude.{MatchResult}
use Rattle.arrayvec.specs.ArrayVec.{ArrayVec, with_items}
use Rattle.arrayvec.proofs.ArrayVecLemmas.{items-with_items}
use Rattle.std.proofs.lemmas.List.{set-get_or}
use Rattle.std.proofs.lemmas.Bool.{cond-true, cond-false, cond_both, lt-leb}
use Rattle.state_vector.specs.declared.keyed.Outcome.TheVariants.{Inserted, Replaced, Kept}
use Rattle.state_vector.specs.Tables.{ascends, held, better, entered, full, offered, answer, outcome, Found, Missing}
use Rattle.state_vector.proofs.Entering.{entered_new, entered_held, ascends_entered}

module _ {E : Type 0} (key : E → ℕ) (above : E → E → Bool) (cap : ℕ) (xs : List E) (e : E) (c : ℕ) (is : c ≡ key e) (i : ℕ) where
  -- where the key is held, all depends on what stands above what
  module _ (h : Found key c xs i) (d : E) where
    holds : held key (key e) xs ≡ Some (get_or xs i d)
    holds = ap (λ n. held key n xs) (sym is) ∙ h.2 d

    into : offered key above cap xs e ≡ set xs i (better above e (get_or xs i d))
    into =
        cond-false (full key cap xs e) xs (entered key above xs e) (ap (λ o. cond (is_some o) false (leb cap (length xs))) holds)
        ∙ entered_held key above xs e i d (rw is at h.0) h.1 (h.3 d ∙ is)

    pub replaces : above e (get_or xs i d) ≡ true → (offered key above cap xs e ≡ set xs i e) × (outcome key above cap xs e ≡ Ok Replaced)
    replaces t = (
      into ∙ ap (set xs i) (cond-true (above e (get_or xs i d)) e (get_or xs i d) t),
      ap (λ o. answer above (leb cap (length xs)) o e) holds ∙ ap Ok (cond-true (above e (get_or xs i d)) Replaced Kept t),
    )

    pub keeps : above e (get_or xs i d) ≡ false → (offered key above cap xs e ≡ xs) × (outcome key above cap xs e ≡ Ok Kept)
    keeps f = (
      into ∙ ap (set xs i) (cond-false (above e (get_or xs i d)) e (get_or xs i d) f) ∙ set-get_or xs i d,
      ap (λ o. answer above (leb cap (length xs)) o e) holds ∙ ap Ok (cond-false (above e (get_or xs i d)) Replaced Kept f),
    )

  -- where the key is absent, all depends on whether a place is left
  module _ (h : Missing key c xs i) where
    none : held key (key e) xs ≡ None
    none = ap (λ n. held key n xs) (sym is) ∙ h.2

    pub comes_in : (n : ℕ) → length xs ≡ n → (offered key above cap xs e ≡ cond (leb cap n) xs (insert xs i e)) × (outcome key above cap xs e ≡ cond (leb cap n) (Err (record {})) (Ok Inserted))
    comes_in n long = (
      ap (λ o. cond (cond (is_some o) false (leb cap (length xs))) xs (entered key above xs e)) none
          ∙ ap (λ ys. cond (leb cap (length xs)) xs ys) (entered_new key above xs e none ∙ ap (λ n. insert xs n e) (sym (rw is at h.0)))
          ∙ ap (λ n. cond (leb cap n) xs (insert xs i e)) long,
      ap (λ o. answer above (leb cap (length xs)) o e) none ∙ ap (λ n. cond (leb cap n) (Err (record {})) (Ok Inserted)) long,
    )

module _ {E : Type 0} (key : E → ℕ) (above : E → E → Bool) (cap : ℕ) (xs : List E) (e : E) where
  pub ascends_offered : ascends key xs ≡ true → ascends key (offered key above cap xs e) ≡ true
  ascends_offered up = cond_both (full key cap xs e) xs (entered key above xs e) (λ zs. ascends key zs ≡ true) (λ _. up) (λ _. ascends_entered key above xs e up)

  -- where a place is left, an offer is an entry that comes in
  pub not_full : length xs < cap → full key cap xs e ≡ false
  not_full l = cond_both (is_some (held key (key e) xs)) false (leb cap (length xs)) (λ b. b ≡ false) (λ _. refl) (λ _. lt-leb cap (length xs) l)

  pub with_room : length xs < cap → offered key above cap xs e ≡ entered key above xs e
  with_room l = cond-false (full key cap xs e) xs (entered key above xs e) (not_full l)

  -- what an offer leaves ascends
  pub ascends_after : (ys : List E) → ys ≡ offered key above cap xs e → ascends key xs ≡ true → ascends key ys ≡ true
  ascends_after ys is up = ap (ascends key) is ∙ ascends_offered up

-- a write of one entry through the slice of a vector, whose entries are xs
pub put_over : {E : Type 0} (v : ArrayVec E) (s xs : List E) (i : ℕ) (e : E) → s ≡ v.items → v.items ≡ xs → (with_items v (set s i e)).items ≡ set xs i e
put_over v s xs i e shown is = items-with_items v (set s i e) (length-set s i e ∙ ap length shown) ∙ ap (λ ys. set ys i e) (shown ∙ is)

-- what is known of a place, by what the search answered
pub found_at : {E : Type 0} (key : E → ℕ) (c : ℕ) (xs : List E) (place : Result ℕ ℕ) (i : ℕ) → place ≡ Ok i → MatchResult place (Found key c xs) (Missing key c xs) → Found key c xs i
found_at key c xs place i is known = subst (λ (p : Result ℕ ℕ). MatchResult p (Found key c xs) (Missing key c xs)) is known

pub missing_at : {E : Type 0} (key : E → ℕ) (c : ℕ) (xs : List E) (place : Result ℕ ℕ) (i : ℕ) → place ≡ Err i → MatchResult place (Found key c xs) (Missing key c xs) → Missing key c xs i
missing_at key c xs place i is known = subst (λ (p : Result ℕ ℕ). MatchResult p (Found key c xs) (Missing key c xs)) is known
