-- The computed reading of a line and the relation of the format agree.
use Rattle.std.proofs.Common.{◌≡◌, ℕ, ◌+◌, List, [], ◌∷◌, map, IfOk, Ok, Err, Result, refl}
use Rattle.std.proofs.lemmas.Result.{IfOk-weaker, IfOk-at_ok}
use Rattle.hexadecimal.specs.declared.HexFault.{HexFault}
use Rattle.hexadecimal.specs.declared.Sign.{Sign}
use Rattle.hexadecimal.specs.declared.Sign.TheVariants as sign
use Rattle.hexadecimal.specs.Line.{sign_of, value_in, hex_from, hex_line, Spells, ended, comment, blank, byte}
use Rattle.hexadecimal.proofs.Signs.{digit_of, blank_of, comment_of, sign_digit, sign_blank, sign_comment}

-- one more byte before what the rest spells
one_more : (x : ℕ) (s t : List ℕ) (r : Result (List ℕ) HexFault) → ((bs : List ℕ) → Spells s bs → Spells t (x ∷ bs)) → IfOk r (λ bs. Spells s bs) → IfOk (value_in (λ bs. x ∷ bs) r) (λ bs. Spells t bs)
one_more x s t (Ok bs) more m = more bs m
one_more x s t (Err e) more m = tt

-- a line of one character
alone : (k a : ℕ) (σ : Sign) → sign_of a ≡ σ → IfOk (hex_from k (σ ∷ [])) (λ bs. Spells (a ∷ []) bs)
alone k a sign.Blank e = blank (blank_of a e) ended
alone k a sign.Comment e = comment (comment_of a e)
alone k a sign.Other e = tt
alone k a (sign.Digit d) e = tt

-- a line of two characters and more
more : (k a b : ℕ) (s : List ℕ) (σ τ : Sign) → sign_of a ≡ σ → sign_of b ≡ τ → IfOk (hex_from (k + 1) (τ ∷ map sign_of s)) (λ bs. Spells (b ∷ s) bs) → IfOk (hex_from (k + 2) (map sign_of s)) (λ bs. Spells s bs) → IfOk (hex_from k (σ ∷ τ ∷ map sign_of s)) (λ bs. Spells (a ∷ b ∷ s) bs)
more k a b s sign.Blank τ e f m n = IfOk-weaker _ (λ bs. Spells (b ∷ s) bs) (λ bs. Spells (a ∷ b ∷ s) bs) (λ bs p. blank (blank_of a e) p) m
more k a b s sign.Comment τ e f m n = comment (comment_of a e)
more k a b s sign.Other τ e f m n = tt
more k a b s (sign.Digit h) sign.Blank e f m n = tt
more k a b s (sign.Digit h) sign.Comment e f m n = tt
more k a b s (sign.Digit h) sign.Other e f m n = tt
more k a b s (sign.Digit h) (sign.Digit l) e f m n = one_more _ s _ _ (λ bs p. byte (digit_of a h e) (digit_of b l f) refl p) n

-- the bytes that a line answers are spelt by it
answers_spell : (k : ℕ) (s : List ℕ) → IfOk (hex_from k (map sign_of s)) (λ bs. Spells s bs)
answers_spell k [] = ended
answers_spell k (a ∷ []) = alone k a (sign_of a) refl
answers_spell k (a ∷ b ∷ s) = more k a b s (sign_of a) (sign_of b) refl refl (answers_spell (k + 1) (b ∷ s)) (answers_spell (k + 2) s)

-- a line answers the bytes that it spells
spells_answer : {s bs : List ℕ} → (k : ℕ) → Spells s bs → hex_from k (map sign_of s) ≡ Ok bs
spells_answer k ended = refl
spells_answer k (comment e) = rw (sign_comment e)
spells_answer k (blank e p) = rw (sign_blank e) (spells_answer (k + 1) p)
spells_answer k (byte p q e m) = rw (sign_digit p, sign_digit q, spells_answer (k + 2) m, e)

-- the two for a whole line
pub spelt : (line bs : List ℕ) → hex_line line ≡ Ok bs → Spells line bs
spelt line bs e = IfOk-at_ok (λ xs. Spells line xs) e (answers_spell 1 line)

pub accepted : (line bs : List ℕ) → Spells line bs → hex_line line ≡ Ok bs
accepted line bs p = spells_answer 1 p
