-- Of two entries that are perhaps held, the one that stands highest.
use Rattle.std.proofs.Common.{◌≡◌, ℕ, Bool, true, false, Some, None, Option, sym, refl, ap, ◌∙◌, ⊎_elim}
use Rattle.std.proofs.lemmas.Bool.{true≢false, cases_Bool, cond-true, cond-false, or_cases}
use Rattle.state_vector.specs.Tables.{Order, better, raised}
use Rattle.joined_tables.specs.Joined.{Decided}

-- the one that stays of what is held and what comes, where perhaps nothing is or does
abbrev pub both : {E : Type 0} → (E → E → Bool) → Option E → Option E → Option E
both above None y = y
both above (Some x) None = Some x
both above (Some x) (Some y) = Some (better above y x)

pub raised_is : {E : Type 0} (above : E → E → Bool) (o : Option E) (e : E) → Some (raised above o e) ≡ both above o (Some e)
raised_is above None e = refl
raised_is above (Some x) e = refl

-- whoever is held has the key c
abbrev pub At : {E : Type 0} → (E → ℕ) → ℕ → Option E → Type 0
At {E} key c o = (x : E) → o ≡ Some x → key x ≡ c

module _ {E : Type 0} (key : E → ℕ) (above : E → E → Bool) (order : Order above) where
  not_both : (b : Bool) → b ≡ true → b ≡ false → ⊥
  not_both b t f = true≢false (sym t ∙ f)

  pub same_twice : (o : Option E) → both above o o ≡ o
  same_twice None = refl
  same_twice (Some x) = ap Some (cond-false (above x x) x x (order.irreflexive x))

  module _ (decided : Decided key above) where
    two_ways : (x y : E) → key x ≡ key y → better above y x ≡ better above x y
    two_ways x y k =
        ⊎_elim
        (λ (t : above y x ≡ true). cond-true _ y x t ∙ sym (cond-false (above x y) x y (order.asymmetric y x t)))
        (λ (f : above y x ≡ false).
        cond-false _ y x f ∙
        ⊎_elim
        (λ (t : above x y ≡ true). sym (cond-true _ x y t))
        (λ (g : above x y ≡ false). decided x y k g f ∙ sym (cond-false _ x y g))
        (cases_Bool (above x y)))
        (cases_Bool (above y x))

    pub either_way : (c : ℕ) (o p : Option E) → At key c o → At key c p → both above o p ≡ both above p o
    either_way c None None a b = refl
    either_way c None (Some y) a b = refl
    either_way c (Some x) None a b = refl
    either_way c (Some x) (Some y) a b = ap Some (two_ways x y (a x refl ∙ sym (b y refl)))

  -- the highest of three, from either end
  highest : (x y z : E) → better above z (better above y x) ≡ better above (better above z y) x
  highest x y z =
      ⊎_elim
      (λ (yx : above y x ≡ true).
      ap (better above z) (cond-true (above y x) y x yx) ∙
      ⊎_elim
      (λ (zy : above z y ≡ true).
      let zx : above z x ≡ true = ⊎_elim (λ (t : above z x ≡ true). t) (λ (t : above x y ≡ true). absurd (not_both (above x y) t (order.asymmetric y x yx))) (or_cases (above z x) (above x y) (order.third z y x zy)) in
      cond-true (above z y) z y zy ∙ sym (ap (λ w. better above w x) (cond-true (above z y) z y zy) ∙ cond-true (above z x) z x zx))
      (λ (zy : above z y ≡ false). cond-false (above z y) z y zy ∙ sym (ap (λ w. better above w x) (cond-false (above z y) z y zy) ∙ cond-true (above y x) y x yx))
      (cases_Bool (above z y)))
      (λ (yx : above y x ≡ false).
      ap (better above z) (cond-false (above y x) y x yx) ∙
      ⊎_elim
      (λ (zy : above z y ≡ true). sym (ap (λ w. better above w x) (cond-true (above z y) z y zy)))
      (λ (zy : above z y ≡ false).
      let zx : above z x ≡ false
      = ⊎_elim
      (λ (t : above z x ≡ true). absurd (⊎_elim (λ (u : above z y ≡ true). not_both (above z y) u zy) (λ (u : above y x ≡ true). not_both (above y x) u yx) (or_cases (above z y) (above y x) (order.third z x y t))))
      (λ (f : above z x ≡ false). f)
      (cases_Bool (above z x)) in
      cond-false (above z x) z x zx ∙ sym (ap (λ w. better above w x) (cond-false (above z y) z y zy) ∙ cond-false (above y x) y x yx))
      (cases_Bool (above z y)))
      (cases_Bool (above y x))

  pub of_three : (o p q : Option E) → both above (both above o p) q ≡ both above o (both above p q)
  of_three None p q = refl
  of_three (Some x) None q = refl
  of_three (Some x) (Some y) None = refl
  of_three (Some x) (Some y) (Some z) = ap Some (highest x y z)
