-- What a turn of the end of a row leaves.
use Rattle.std.proofs.Common.{◌≡◌, ℕ, zero, suc, ◌+◌, ◌-◌, ◌<◌, ◌≤◌, List, [], ◌∷◌, ◌++◌, length, take, drop, set, refl, sym, ap, ◌∙◌, arith}
use Rattle.std.proofs.Math.Seq.{drop-append_seam, take-append_seam}
use Rattle.std.specs.List.{insert}
use Rattle.std.proofs.lemmas.List.{append_assoc, drop-append-le, drop-drop, drop-set-lt, drop-take, length-append, length-take-le, take-set-le, take-take}
use Rattle.std.proofs.lemmas.Grind.{take-set_at}

module _ {E : Type 0} where
  pub take_set_both : (n : ℕ) (xs : List E) (i : ℕ) (a : E) → take n (set xs i a) ≡ set (take n xs) i a
  take_set_both zero xs i a = refl
  take_set_both (suc n) [] i a = refl
  take_set_both (suc n) (x ∷ xs) zero a = refl
  take_set_both (suc n) (x ∷ xs) (suc i) a = ap (λ ys. x ∷ ys) (take_set_both n xs i a)

  -- the last of a row comes first
  last_first : (part turned mid : List E) (e : E) → part ≡ mid ++ e ∷ [] → turned ≡ drop (length part - 1) part ++ take (length part - 1) part → turned ≡ e ∷ mid
  last_first part turned mid e p is =
      let long : length part - 1 ≡ length mid = omega (arith, ap length p, length-append mid (e ∷ [])) in
      is
      ∙ ap (λ n. drop n part ++ take n part) long
      ∙ ap (λ ys. drop (length mid) ys ++ take (length mid) ys) p
      ∙ ap (λ ys. ys ++ take (length mid) (mid ++ e ∷ [])) (drop-append_seam mid (e ∷ []))
      ∙ ap (λ ys. e ∷ ys) (take-append_seam mid (e ∷ []))

  module _ (xs : List E) (len at : ℕ) (e : E) (within : at ≤ len) (fits : len < length xs) where
    -- the part that is turned: the entries from the place on, and the newcomer behind them
    part_is : take (len + 1 - at) (drop at (set xs len e)) ≡ drop at (take len xs) ++ e ∷ []
    part_is =
        let some : length (take len xs) ≡ len = length-take-le len xs (omega arith) in
        sym (drop-take at (len + 1 - at) (set xs len e))
        ∙ ap (λ n. drop at (take n (set xs len e))) (omega arith)
        ∙ ap (drop at) (take-set_at xs len (len + 1) e refl fits)
        ∙ drop-append-le at (take len xs) (e ∷ []) (omega arith)

    -- the newcomer stands at its place, and what lay behind the entries stays
    pub turned_in : (turned : List E) → (let part = take (len + 1 - at) (drop at (set xs len e)) in turned ≡ drop (length part - 1) part ++ take (length part - 1) part)
        → take at (set xs len e) ++ (turned ++ drop (len + 1 - at) (drop at (set xs len e))) ≡ insert (take len xs) at e ++ drop (len + 1) xs
    turned_in turned is =
        let mid = drop at (take len xs) in
        let front : take at (set xs len e) ≡ take at (take len xs) = take-set-le at xs len e within ∙ sym (take-take at len xs within) in
        let back : drop (len + 1 - at) (drop at (set xs len e)) ≡ drop (len + 1) xs = drop-drop (len + 1 - at) at (set xs len e) ∙ ap (λ n. drop n (set xs len e)) (omega arith) ∙ drop-set-lt (len + 1) xs len e (omega arith) in
        ap (λ ys. ys ++ (turned ++ drop (len + 1 - at) (drop at (set xs len e)))) front
        ∙ ap (λ ys. take at (take len xs) ++ (ys ++ drop (len + 1 - at) (drop at (set xs len e)))) (last_first _ turned mid e part_is is)
        ∙ ap (λ ys. take at (take len xs) ++ ((e ∷ mid) ++ ys)) back
        ∙ sym (append_assoc (take at (take len xs)) (e ∷ mid) (drop (len + 1) xs))
