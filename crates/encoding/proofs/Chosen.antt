-- Entries that are chosen one after another.
use Rattle.std.proofs.Common.{◌≡◌, ℕ, ◌+◌, ◌<◌, Bool, true, false, cond, List, [], ◌∷◌, ◌++◌, length, get_or, take, drop, filter, sym, refl, ap, ◌∙◌, append-nil, take-append-drop}
use Rattle.std.proofs.lemmas.List.Elements.{filter-append, filter_more}
use Rattle.encoding.specs.Writing.{row_out}
use Rattle.encoding.proofs.Sendings.{row_append}

-- one entry more, which is taken or not
module _ {X : Type 0} (p : X → Bool) (xs : List X) (i : ℕ) (x : X) (l : i < length xs) (is : x ≡ get_or xs i x) where
  more : filter p (take (i + 1) xs) ≡ filter p (take i xs) ++ cond (p x) (x ∷ []) []
  more = filter_more p xs i x l ∙ ap (λ y. filter p (take i xs) ++ cond (p y) (y ∷ []) []) (sym is)

  pub kept_yes : p x ≡ true → filter p (take (i + 1) xs) ≡ filter p (take i xs) ++ x ∷ []
  kept_yes t = more ∙ ap (λ b. filter p (take i xs) ++ cond b (x ∷ []) []) t

  pub kept_no : p x ≡ false → filter p (take (i + 1) xs) ≡ filter p (take i xs)
  kept_no f = more ∙ ap (λ b. filter p (take i xs) ++ cond b (x ∷ []) []) f ∙ append-nil (filter p (take i xs))

  pub row_yes : (out : X → List ℕ) → p x ≡ true → row_out out (filter p (take (i + 1) xs)) ≡ row_out out (filter p (take i xs)) ++ out x
  row_yes out t = ap (row_out out) (kept_yes t) ∙ row_append out (filter p (take i xs)) (x ∷ []) ∙ ap (λ r. row_out out (filter p (take i xs)) ++ r) (append-nil (out x))

-- what is taken, cut in two
pub row_parts : {X : Type 0} (p : X → Bool) (out : X → List ℕ) (xs : List X) (n : ℕ) → row_out out (filter p xs) ≡ row_out out (filter p (take n xs)) ++ row_out out (filter p (drop n xs))
row_parts p out xs n = ap (λ l. row_out out (filter p l)) (sym (take-append-drop n xs)) ∙ ap (row_out out) (filter-append p (take n xs) (drop n xs)) ∙ row_append out (filter p (take n xs)) (filter p (drop n xs))

-- all of them are taken
pub kept_all : {X : Type 0} (xs : List X) → filter (λ _. true) xs ≡ xs
kept_all [] = refl
kept_all (x ∷ xs) = ap (λ l. x ∷ l) (kept_all xs)
