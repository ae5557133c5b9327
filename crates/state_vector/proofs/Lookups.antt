-- What a search shows of a list that ascends.
use Rattle.std.proofs.Common.{◌≡◌, ℕ, zero, suc, ◌+◌, ◌<◌, ◌≤◌, true, eqb, ltb, List, [], ◌∷◌, length, get_or, Some, None, Ok, Err, Result, MatchResult, sym, refl, ap, ◌∙◌, ⊎_elim, arith}
use Rattle.std.specs.Cmp.{nat_cmp_total}
use Rattle.std.specs.List.Sorted.{IsBinarySearchResult, IsNonDecreasingBy, IsSearchInRange}
use Rattle.std.specs.Ordering.{nat_cmp, ordering_index}
use Rattle.std.proofs.lemmas.Cmp.{ranked}
use Rattle.std.proofs.lemmas.List.Sorted.{searchable_from_sorted}
use Rattle.std.proofs.lemmas.Bool.Decides.{nat_tests}
use Rattle.std.proofs.lemmas.Bool.{cases_lt, ltb-true, and_parts, eq-eqb, ne_eqb, lt-ltb, le-ltb, cond-true, cond-false}
use Rattle.state_vector.specs.Tables.{all_above, ascends, place, held, Found, Missing}

module _ {E : Type 0} (key : E → ℕ) where
  pub above_at : (n : ℕ) (xs : List E) (j : ℕ) (d : E) → all_above key n xs ≡ true → j < length xs → n < key (get_or xs j d)
  above_at n [] j d h l = absurd (omega arith)
  above_at n (x ∷ xs) zero d h l = ltb-true n (key x) (and_parts _ _ h).0
  above_at n (x ∷ xs) (suc j) d h l = above_at n xs j d (and_parts _ _ h).1 (omega arith)

  pub ascends_at : (xs : List E) (i j : ℕ) (d : E) → ascends key xs ≡ true → i < j → j < length xs → key (get_or xs i d) < key (get_or xs j d)
  ascends_at [] i j d h l m = absurd (omega arith)
  ascends_at (x ∷ xs) i zero d h l m = absurd (omega arith)
  ascends_at (x ∷ xs) zero (suc j) d h l m = above_at (key x) xs j d (and_parts _ _ h).0 (omega arith)
  ascends_at (x ∷ xs) (suc i) (suc j) d h l m = ascends_at xs i j d (and_parts _ _ h).1 (omega arith) (omega arith)

  module _ (c : ℕ) where
    pub place_is : (xs : List E) (i : ℕ) → i ≤ length xs → ((k : ℕ) (d : E) → k < i → key (get_or xs k d) < c) → ((d : E) → i < length xs → c ≤ key (get_or xs i d)) → i ≡ place key c xs
    place_is [] i l below here = omega arith
    place_is (x ∷ xs) zero l below here = sym (cond-false (ltb (key x) c) (suc (place key c xs)) 0 (le-ltb (key x) c (here x (omega arith))))
    place_is (x ∷ xs) (suc i) l below here =
        ap suc (place_is xs i (omega arith) (λ k d m. below (suc k) d (omega arith)) (λ d m. here d (omega arith)))
        ∙ sym (cond-true (ltb (key x) c) (suc (place key c xs)) 0 (lt-ltb (key x) c (below 0 x (omega arith))))

    pub held_none : (xs : List E) → ((k : ℕ) (d : E) → k < length xs → key (get_or xs k d) ≡ c → ⊥) → held key c xs ≡ None
    held_none [] h = refl
    held_none (x ∷ xs) h =
        cond-false (eqb (key x) c) (Some x) (held key c xs) (ne_eqb (key x) c (h 0 x (omega arith)))
        ∙ held_none xs (λ k d l e. h (suc k) d (omega arith) e)

    pub held_some : (xs : List E) (i : ℕ) (d : E) → i < length xs → ((k : ℕ) → k < i → key (get_or xs k d) < c) → key (get_or xs i d) ≡ c → held key c xs ≡ Some (get_or xs i d)
    held_some [] i d l below here = absurd (omega arith)
    held_some (x ∷ xs) zero d l below here = cond-true (eqb (key x) c) (Some x) (held key c xs) (eq-eqb (key x) c here)
    held_some (x ∷ xs) (suc i) d l below here =
        cond-false (eqb (key x) c) (Some x) (held key c xs) (ne_eqb (key x) c (λ e. omega (arith, below 0 (omega arith))))
        ∙ held_some xs i d (omega arith) (λ k m. below (suc k) (omega arith)) here

    -- a binary search that ends with nothing between
    pub free_from : (xs : List E) (i : ℕ) → i ≤ length xs → ((k : ℕ) (d : E) → k < i → key (get_or xs k d) < c) → ((k : ℕ) (d : E) → i ≤ k → k < length xs → c < key (get_or xs k d)) → Missing key c xs i
    free_from xs i l below over = (
      place_is xs i l below (λ d m. omega (arith, over i d (omega arith) m)),
      l,
      held_none xs (λ k d m e. ⊎_elim (λ (lt : k < i). omega (arith, below k d lt)) (λ (le : i ≤ k). omega (arith, over k d le m)) (cases_lt k i)),
    )

    -- and one that meets the key
    pub held_from : (xs : List E) (i : ℕ) → ascends key xs ≡ true → i < length xs → ((d : E) → key (get_or xs i d) ≡ c) → Found key c xs i
    held_from xs i up l here =
        let below : (k : ℕ) (d : E) → k < i → key (get_or xs k d) < c = λ k d m. omega (arith, ascends_at xs k i d up m l, here d) in (
          place_is xs i (omega arith) below (λ d m. omega (arith, here d)),
          l,
          (λ d. held_some xs i d l (λ k m. below k d m) (here d)),
          here,
        )

    -- the comparisons with the key rise along the list, as a search by halves asks
    rises : (xs : List E) → ascends key xs ≡ true → IsNonDecreasingBy (λ x. ordering_index (nat_cmp (key x) c)) xs
    rises xs up = searchable_from_sorted nat_cmp_total key xs c (λ k d low l. grind (arith, nat_tests, ascends_at xs k (k + 1) d up))

    -- what the library's search tells of a list that ascends
    pub searched : (xs : List E) (r : Result ℕ ℕ) → ascends key xs ≡ true → IsSearchInRange r (length xs) → IsBinarySearchResult (λ x. nat_cmp (key x) c) xs r → MatchResult r (Found key c xs) (Missing key c xs)
    searched xs (Ok i) up l equal = held_from xs i up l (λ d. ranked _ c _ (sym (equal d)))
    searched xs (Err i) up l parted = free_from xs i l (λ k d m. ranked _ c _ (sym ((parted (rises xs up)).0 k d (omega arith) m))) (λ k d m n. ranked _ c _ (sym ((parted (rises xs up)).1 k d m n)))
