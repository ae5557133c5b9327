-- Messages one after another.
use Rattle.std.proofs.Common.{◌≡◌, ℕ, zero, suc, ◌+◌, ◌-◌, ◌<◌, ◌≤◌, List, [], ◌∷◌, ◌++◌, map, length, take, drop, set, sym, refl, ap, ◌∙◌, append_assoc, arith, length-set}
use Rattle.std.proofs.lemmas.List.{take_more_set, drop-set-lt, map-append, drop-drop}
use Rattle.message.specs.declared.messages.Placed.{Placed}
use Rattle.message.specs.Message.{Said}
use Rattle.message.specs.Messages.{Next, whole, ended, cut, refused, next, Messages, before, onward, messages_in, messages, placed_is}
use Rattle.message.specs.Reader.{row_from}
use Rattle.message.proofs.Contents.{next_shorter}

-- ---- a row, by what stands at its front
same_onward : (f g : ℕ → List ℕ → Messages) (place : ℕ) (s : List ℕ) (n : Next) → next s ≡ n → ((at : ℕ) (rest : List ℕ) → length rest < length s → f at rest ≡ g at rest) → onward f place s n ≡ onward g place s n
same_onward f g place s (whole m rest) e h = ap (before (place, m)) (h (place + (length s - length rest)) rest (next_shorter s rest m e))
same_onward f g place s ended e h = refl
same_onward f g place s cut e h = refl
same_onward f g place s (refused f') e h = refl

-- as many messages as bytes are enough
enough : (k j place : ℕ) (s : List ℕ) → length s ≤ k → length s ≤ j → messages_in k place s ≡ messages_in j place s
enough zero zero place s p q = refl
enough zero (suc j) place [] p q = refl
enough zero (suc j) place (b ∷ s) p q = absurd (omega arith)
enough (suc k) zero place [] p q = refl
enough (suc k) zero place (b ∷ s) p q = absurd (omega arith)
enough (suc k) (suc j) place s p q = same_onward (messages_in k) (messages_in j) place s (next s) refl (λ at rest l. enough k j at rest (omega arith) (omega arith))

pub row_start : (s : List ℕ) → messages s ≡ row_from 0 s
unfolding messages
row_start s = refl

pub row_whole : (place : ℕ) (s rest : List ℕ) (m : Said) → next s ≡ whole m rest → row_from place s ≡ before (place, m) (row_from (place + (length s - length rest)) rest)
row_whole place [] rest m e = cc
row_whole place (b ∷ s) rest m e =
    let l = next_shorter (b ∷ s) rest m e in
    ap (onward (messages_in (length s)) place (b ∷ s)) e ∙ ap (before (place, m)) (enough (length s) (length rest) (place + (length (b ∷ s) - length rest)) rest (omega arith) (omega arith))

-- ---- a row that is put into a slice, message after message
-- so many of a row's messages stand in ys, which was xs; the others are still to come
pub record Placing (all : Messages) (xs ys : List Placed) (count : ℕ) (left : Messages) : Type 0 where
  pub said : all.said ≡ map placed_is (take count ys) ++ left.said
  pub end : all.end ≡ left.end
  pub same : drop count ys ≡ drop count xs
  pub within : count ≤ length ys

pub placing_none : (all : Messages) (xs : List Placed) → Placing all xs xs 0 all
placing_none all xs = record { said = refl; end = refl; same = refl; within = omega arith }

-- one more
pub placing_more : (all left rest : Messages) (xs ys : List Placed) (count : ℕ) (p : Placed) → Placing all xs ys count left → left ≡ before (placed_is p) rest → count < length ys → Placing all xs (set ys count p) (count + 1) rest
placing_more all left rest xs ys count p h e l =
    let t : map placed_is (take (count + 1) (set ys count p)) ≡ map placed_is (take count ys) ++ placed_is p ∷ [] = ap (map placed_is) (take_more_set ys count p l) ∙ map-append placed_is (take count ys) (p ∷ []) in
    let b : count < count + 1 = omega arith in
    record {
      said = h.said ∙ ap (λ r. map placed_is (take count ys) ++ r.said) e ∙ sym (append_assoc (map placed_is (take count ys)) (placed_is p ∷ []) rest.said) ∙ ap (λ r. r ++ rest.said) (sym t);
      end = h.end ∙ ap (λ r. r.end) e;
      same = drop-set-lt (count + 1) ys count p b ∙ sym (drop-drop 1 count ys) ∙ ap (drop 1) h.same ∙ drop-drop 1 count xs;
      within = omega (arith, length-set ys count p);
    }
