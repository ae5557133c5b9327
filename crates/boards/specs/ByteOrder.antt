-- The order of rows of bytes, as the library compares them.
use Rattle.std.proofs.Common.{◌≡◌, ℕ, true, false, List, Ordering, sym, ap, ◌∙◌, refl, ⊎_elim}
use Rattle.std.specs.Cmp.{IsTotalOrder}
use Rattle.std.specs.Cmp.Lexicographic.{slice_cmp}
use Rattle.std.specs.Ordering.{nat_cmp, is_gt, is_eq, ordering_reverse}
use Rattle.std.specs.declared.cmp.Ordering.TheVariants.{Less, Equal, Greater}
use Rattle.std.proofs.lemmas.Bool.{true≢false, false≢true, both_ways, cases_Bool, or_left, or_right}
use Rattle.std.proofs.lemmas.Cmp.{nat_list_cmp_total, tied_itself, upto}
use Rattle.std.proofs.lemmas.Map.Text.{is_eq-slice_cmp}
use Rattle.std.proofs.lemmas.Slice.Eq.{bytes_eq-Decides}
use Rattle.state_vector.specs.Tables.{Order}
use Rattle.boards.specs.SlotBoard.{later}

-- what is greater in a total order is an order
greater_order : {K : Type 0} {R : K → K → Ordering} → IsTotalOrder R → Order (λ x y. is_gt (R x y))
greater_order {K} {R} o = record {
  irreflexive = λ x. ap is_gt (tied_itself o x);
  asymmetric = λ x y h. ap is_gt (o.antisymm y x) ∙ back (R x y) h;
  third = λ x y z h. ⊎_elim (or_left _ _) (λ f. ⊎_elim (or_right _ _) (λ g. absurd (both_ways _ (upto o x z y f g) h)) (cases_Bool (is_gt (R z y)))) (cases_Bool (is_gt (R x z)));
}
  where
    back : (r : Ordering) → is_gt r ≡ true → is_gt (ordering_reverse r) ≡ false
    back Less h = absurd (false≢true h)
    back Equal h = refl
    back Greater h = refl

pub later_order : Order later
later_order = greater_order nat_list_cmp_total

-- rows that tie are the same
pub later_decided : (xs ys : List ℕ) → later xs ys ≡ false → later ys xs ≡ false → xs ≡ ys
later_decided xs ys f g = (bytes_eq-Decides xs ys).0 (sym (is_eq-slice_cmp xs ys) ∙ tied (slice_cmp nat_cmp xs ys) f (sym (ap is_gt (nat_list_cmp_total.antisymm ys xs)) ∙ g))
  where
    tied : (r : Ordering) → is_gt r ≡ false → is_gt (ordering_reverse r) ≡ false → is_eq r ≡ true
    tied Less a b = absurd (true≢false b)
    tied Equal a b = refl
    tied Greater a b = absurd (true≢false a)
