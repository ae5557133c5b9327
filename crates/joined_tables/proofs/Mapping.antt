-- Tables seen as tables of other entries with the same keys.
use Rattle.std.proofs.Common.{◌≡◌, ℕ, ◌<◌, Bool, true, false, cond, ◌&&◌, eqb, ltb, List, [], ◌∷◌, map, Some, sym, refl, ap, ◌∙◌, subst, arith}
use Rattle.std.proofs.lemmas.Bool.{and_parts, and_from, lt-ltb}
use Rattle.std.specs.List.{list_all}
use Rattle.std.specs.Option.{option_map}
use Rattle.state_vector.specs.Tables.{all_above, all_below, ascends, better, entered, held}

-- what is held passes where all do
pub held_passes : {E : Type 0} (key : E → ℕ) (fine : E → Bool) (c : ℕ) (xs : List E) (x : E) → list_all fine xs ≡ true → held key c xs ≡ Some x → fine x ≡ true
held_passes key fine c [] x f h = let z : ◌≡◌ {A = ℕ} 0 1 = cc in absurd (omega arith)
held_passes {E} key fine c (y ∷ xs) x f h = let p = and_parts (fine y) (list_all fine xs) f in one (eqb (key y) c) p.0 (λ r. held_passes key fine c xs x p.1 r) h
  where
    one : (b : Bool) → fine y ≡ true → (held key c xs ≡ Some x → fine x ≡ true) → cond b (Some y) (held key c xs) ≡ Some x → fine x ≡ true
    one true p rest h = let same : y ≡ x = cc in subst (λ e. fine e ≡ true) same p
    one false p rest h = rest h

-- a bound on what each entry that passes is seen as
pub below_seen : {E F : Type 0} (fine : E → Bool) (f : E → F) (g : F → ℕ) (n : ℕ) → ((x : E) → fine x ≡ true → g (f x) < n) → (xs : List E) → list_all fine xs ≡ true → all_below g n (map f xs) ≡ true
below_seen fine f g n low [] h = refl
below_seen fine f g n low (x ∷ xs) h = let p = and_parts (fine x) (list_all fine xs) h in and_from _ _ (lt-ltb (g (f x)) n (low x p.0)) (below_seen fine f g n low xs p.1)

-- the keys are the same
module _ {E F : Type 0} (key : E → ℕ) (other : F → ℕ) (f : E → F) (same : (x : E) → other (f x) ≡ key x) where
  pub above_seen : (n : ℕ) (xs : List E) → all_above other n (map f xs) ≡ all_above key n xs
  above_seen n [] = refl
  above_seen n (x ∷ xs) = ap (λ c. ltb n c && all_above other n (map f xs)) (same x) ∙ ap (λ b. ltb n (key x) && b) (above_seen n xs)

  pub ascends_seen : (xs : List E) → ascends other (map f xs) ≡ ascends key xs
  ascends_seen [] = refl
  ascends_seen (x ∷ xs) =
      ap (λ c. all_above other c (map f xs) && ascends other (map f xs)) (same x)
      ∙ ap (λ b. b && ascends other (map f xs)) (above_seen (key x) xs)
      ∙ ap (λ b. all_above key (key x) xs && b) (ascends_seen xs)

  pub held_seen : (c : ℕ) (xs : List E) → held other c (map f xs) ≡ option_map f (held key c xs)
  held_seen c [] = refl
  held_seen c (x ∷ xs) = ap (λ k. cond (eqb k c) (Some (f x)) (held other c (map f xs))) (same x) ∙ one (eqb (key x) c) (held_seen c xs)
    where
      one : (b : Bool) → held other c (map f xs) ≡ option_map f (held key c xs) → cond b (Some (f x)) (held other c (map f xs)) ≡ option_map f (cond b (Some x) (held key c xs))
      one true rest = refl
      one false rest = rest

  -- and so is what stands above what: an entry comes in at the same place
  module _ (above : E → E → Bool) (over : F → F → Bool) (alike : (x y : E) → over (f x) (f y) ≡ above x y) where
    pub entered_seen : (xs : List E) (e : E) → map f (entered key above xs e) ≡ entered other over (map f xs) (f e)
    entered_seen [] e = refl
    entered_seen (x ∷ xs) e =
        one (ltb (key x) (key e)) (eqb (key x) (key e)) (entered_seen xs e)
        ∙ ap (λ c. cond (ltb c (key e)) (f x ∷ entered other over (map f xs) (f e)) (cond (eqb c (key e)) (better over (f e) (f x) ∷ map f xs) (f e ∷ f x ∷ map f xs))) (sym (same x))
        ∙ ap (λ c. cond (ltb (other (f x)) c) (f x ∷ entered other over (map f xs) (f e)) (cond (eqb (other (f x)) c) (better over (f e) (f x) ∷ map f xs) (f e ∷ f x ∷ map f xs))) (sym (same e))
      where
        stays : (b : Bool) → f (cond b e x) ≡ cond b (f e) (f x)
        stays true = refl
        stays false = refl

        one : (a b : Bool) → map f (entered key above xs e) ≡ entered other over (map f xs) (f e)
            → map f (cond a (x ∷ entered key above xs e) (cond b (better above e x ∷ xs) (e ∷ x ∷ xs))) ≡ cond a (f x ∷ entered other over (map f xs) (f e)) (cond b (better over (f e) (f x) ∷ map f xs) (f e ∷ f x ∷ map f xs))
        one true b rest = ap (λ l. f x ∷ l) rest
        one false true rest = ap (λ y. y ∷ map f xs) (stays (above e x) ∙ ap (λ b. cond b (f e) (f x)) (sym (alike e x)))
        one false false rest = refl
