-- The shortest spelling of a number.
use Rattle.std.proofs.Common.{◌≡◌, ℕ, zero, suc, ◌+◌, ◌*◌, ◌/◌, ◌%◌, ◌^◌, ◌<◌, ◌≤◌, List, [], ◌∷◌, ◌++◌, length, sym, refl, ap, ◌∙◌, subst, ⊎_elim, arith, length-append, le-ltb, lt-ltb}
use Rattle.std.proofs.lemmas.Bool.{cases_lt}
use Rattle.encoding.specs.ReadBack.{ShortestIsShortest}
use Rattle.encoding.specs.VarUint.{number, Spells}
use Rattle.encoding.specs.Writing.{spelt, shortest}
use Rattle.encoding.proofs.Spellings.{adds_number}

-- a number below 128 is one digit
one : (k n : ℕ) → n < 128 → spelt k n ≡ n ∷ []
unfolding spelt
one zero n h = refl
one (suc k) n h = rw (lt-ltb n 128 h) refl

-- a larger one has a digit more than what is left of it
more : (k n : ℕ) → 128 ≤ n → spelt (suc k) n ≡ (128 + n % 128) ∷ spelt k (n / 128)
unfolding spelt
more k n h = rw (le-ltb n 128 h) refl

-- more digits than a number has change nothing
same : (k j n : ℕ) → n ≤ k → n ≤ j → spelt k n ≡ spelt j n
same zero j n p q = one zero n (omega arith) ∙ sym (one j n (omega arith))
same (suc k) zero n p q = one (suc k) n (omega arith) ∙ sym (one zero n (omega arith))
same (suc k) (suc j) n p q =
    ⊎_elim (λ h. one (suc k) n h ∙ sym (one (suc j) n h))
    (λ h. more k n h ∙ ap (λ l. (128 + n % 128) ∷ l) (same k j (n / 128) (omega arith) (omega arith)) ∙ sym (more j n h))
    (cases_lt n 128)

-- a number of seven bits is its own spelling
pub shortest_one : (n : ℕ) → n < 128 → shortest n ≡ n ∷ []
unfolding shortest
shortest_one n h = one n n h

-- a larger one begins with its low seven bits, and goes on with the others
pub shortest_more : (n : ℕ) → 128 ≤ n → shortest n ≡ (128 + n % 128) ∷ shortest (n / 128)
unfolding shortest
shortest_more zero h = absurd (omega arith)
shortest_more (suc n) h = more n (suc n) h ∙ ap (λ l. (128 + suc n % 128) ∷ l) (same n (suc n / 128) (suc n / 128) (omega arith) (omega arith))

-- how many numbers have spellings of k bytes at most: 128 to the power of k
abbrev below : ℕ → ℕ
below zero = 1
below (suc k) = 128 * below k

-- a number below 128 to the power of k + 1 has k + 1 digits at most
long : (k n : ℕ) → n < below (suc k) → length (shortest n) ≤ suc k
long zero n b = let e = ap length (shortest_one n (omega arith)) in omega arith
long (suc k) n b =
    ⊎_elim (λ l. let e = ap length (shortest_one n l) in omega arith)
    (λ g. let e = ap length (shortest_more n g) in let r = long k (n / 128) (omega arith) in omega arith)
    (cases_lt n 128)

-- a number of 64 bits takes ten bytes at most
pub length_shortest : (n : ℕ) → n < 2 ^ 64 → length (shortest n) ≤ 10
length_shortest n h = long 9 n (omega arith)

-- and every number takes one
pub some_shortest : (n : ℕ) → 0 < length (shortest n)
some_shortest n =
    ⊎_elim (λ l. let e = ap length (shortest_one n l) in omega arith) (λ g. let e = ap length (shortest_more n g) in omega arith) (cases_lt n 128)

-- bytes before the spelling of what is left of a number of 64 bits are fewer than ten
pub front_short : (front : List ℕ) (high n : ℕ) → n < 2 ^ 64 → front ++ shortest high ≡ shortest n → length front < 10
front_short front high n h e = omega (arith, ap length e, length-append front (shortest high), length_shortest n h, some_shortest high)

-- one byte spells itself
spells_one : (n : ℕ) → n < 128 → Spells (n ∷ []) n
spells_one n h = record { front = []; last = n; is = refl; goes = tt; ends = h; adds = adds_number (n ∷ []) ∙ omega arith }

-- a byte that goes on, in front of a spelling
spells_more : (b n : ℕ) (bs : List ℕ) → 128 ≤ b → Spells bs n → Spells (b ∷ bs) (b % 128 + 128 * n)
spells_more b n bs h s = record {
  front = b ∷ s.front;
  last = s.last;
  is = ap (λ l. b ∷ l) s.is;
  goes = (h, s.goes);
  ends = s.ends;
  adds = adds_number (b ∷ bs) ∙ ap (λ k. b % 128 + 128 * k) (sym (adds_number bs) ∙ s.adds);
}

-- the shortest spelling spells its number; k bounds the number
spells : (k n : ℕ) → n ≤ k → Spells (shortest n) n
spells zero n h = subst (λ l. Spells l n) (sym (shortest_one n (omega arith))) (spells_one n (omega arith))
spells (suc k) n h =
    ⊎_elim (λ l. subst (λ bs. Spells bs n) (sym (shortest_one n l)) (spells_one n l))
    (λ g.
    let b : 128 ≤ 128 + n % 128 = omega arith in
    let v : (128 + n % 128) % 128 + 128 * (n / 128) ≡ n = omega arith in
    subst (λ m. Spells (shortest n) m) v (subst (λ bs. Spells bs ((128 + n % 128) % 128 + 128 * (n / 128))) (sym (shortest_more n g)) (spells_more (128 + n % 128) (n / 128) (shortest (n / 128)) b (spells k (n / 128) (omega arith)))))
    (cases_lt n 128)

-- no bytes that go on, with a last one, add up to a number whose shortest spelling is longer
least : (front : List ℕ) (last : ℕ) → last < 128 → length (shortest (number (front ++ last ∷ []))) ≤ suc (length front)
least [] last h =
    let v : last % 128 + 128 * 0 ≡ last = omega arith in
    let e = ap length (ap shortest v ∙ shortest_one last h) in
    omega arith
least (b ∷ front) last h =
    let n : ℕ = number (b ∷ front ++ last ∷ []) in
    let m : ℕ = number (front ++ last ∷ []) in
    ⊎_elim (λ l. let e = ap length (shortest_one n l) in omega arith)
    (λ g.
    let v : n / 128 ≡ m = omega arith in
    let e = ap length (shortest_more n g) in
    let i = least front last h in
    let w = ap (λ k. length (shortest k)) v in
    omega arith)
    (cases_lt n 128)

-- the law of the shortest spelling
pub shortest_is_shortest : ShortestIsShortest
shortest_is_shortest = record {
  spells = λ n. spells n n (omega arith);
  least = λ bs n s.
      let v : number (s.front ++ s.last ∷ []) ≡ n = ap number (sym s.is) ∙ sym (adds_number bs) ∙ s.adds in
      let l = subst (λ k. length (shortest k) ≤ suc (length s.front)) v (least s.front s.last s.ends) in
      omega (arith, ap length s.is, length-append s.front (s.last ∷ []));
}
