-- Numbers as they are spelt, beside numbers as they are read.
use Rattle.std.proofs.Common.{◌≡◌, ℕ, suc, ◌+◌, ◌*◌, ◌%◌, ◌^◌, ◌<◌, ◌≤◌, Bool, true, false, cond, leb, List, [], ◌∷◌, ◌++◌, length, take, drop, Ok, Err, sym, refl, ap, ◌∙◌, subst, ⊎_elim, append_assoc, mul_assoc, mul_comm, pow-suc, mul-add, arith, length-append, le-ltb, lt-ltb, le-leb, leb-false, leb-true}
use borrow.Author.Tests.{lt-leb}
use Rattle.std.proofs.lemmas.Bool.{cases_lt}
use Rattle.encoding.specs.declared.fault.WireFault.TheVariants.{InvalidVarInt, EndOfBuffer}
use Rattle.encoding.specs.Reading.{Reading}
use Rattle.encoding.specs.VarUint.{going, number, number_in, var_uint, GoesOn, worth, Spells, VarUintsAreAsSpelt}

-- what bytes add from place i on is 128 to the power i times their number
worth_number : (i : ℕ) (bs : List ℕ) → worth i bs ≡ 128 ^ i * number bs
worth_number i [] = omega arith
worth_number i (b ∷ bs) =
    let e : 128 ^ suc i * number bs ≡ 128 ^ i * (128 * number bs) = ap (λ k. k * number bs) (pow-suc 128 i) ∙ mul_assoc (128 ^ i) 128 (number bs) in
    omega (arith, worth_number (suc i) bs, mul-add (128 ^ i) (b % 128) (128 * number bs), mul_comm (b % 128) (128 ^ i))

pub adds_number : (bs : List ℕ) → worth 0 bs ≡ number bs
adds_number bs = omega (arith, worth_number 0 bs)

-- bytes that go on, then one that does not
pub going_front : (front rest : List ℕ) (last : ℕ) → GoesOn front → last < 128 → going (front ++ last ∷ rest) ≡ length front
going_front [] rest last g h = rw (lt-ltb last 128 h) refl
going_front (b ∷ front) rest last g h = rw (le-ltb b 128 g.0) (ap (λ k. suc k) (going_front front rest last g.1 h))

-- bytes that all go on
going_all : (bs rest : List ℕ) → GoesOn bs → going (bs ++ rest) ≡ length bs + going rest
going_all [] rest g = omega arith
going_all (b ∷ bs) rest g = rw (le-ltb b 128 g.0) (let e = going_all bs rest g.1 in omega arith)

taken_front : (front rest : List ℕ) (last : ℕ) → take (suc (length front)) (front ++ last ∷ rest) ≡ front ++ last ∷ []
taken_front [] rest last = refl
taken_front (b ∷ front) rest last = ap (λ l. b ∷ l) (taken_front front rest last)

dropped_front : (front rest : List ℕ) (last : ℕ) → drop (suc (length front)) (front ++ last ∷ rest) ≡ rest
dropped_front [] rest last = refl
dropped_front (b ∷ front) rest last = dropped_front front rest last

-- what is read of a number that is spelt
abbrev told : Bool → Bool → ℕ → List ℕ → Reading ℕ
told endless fits n rest = cond endless (Err InvalidVarInt) (cond fits (Ok (n, rest)) (Err InvalidVarInt))

pub spelt_reads : (room top : ℕ) (front rest : List ℕ) (last : ℕ) → GoesOn front → last < 128 → number_in room top (front ++ last ∷ rest) ≡ told (leb room (length front)) (leb (number (front ++ last ∷ [])) top) (number (front ++ last ∷ [])) rest
spelt_reads room top front rest last g h =
    let s : List ℕ = front ++ last ∷ rest in
    let n : length front < length (front ++ last ∷ rest) = omega (arith, length-append front (last ∷ rest)) in
    rw (going_front front rest last g h, lt-leb (length (front ++ last ∷ rest)) (length front) n, taken_front front rest last, dropped_front front rest last) refl

-- a number ends somewhere, or its bytes all go on
record Ended (s : List ℕ) : Type 0 where
  front : List ℕ
  last : ℕ
  rest : List ℕ
  is : s ≡ front ++ last ∷ rest
  goes : GoesOn front
  ends : last < 128

ended : (s : List ℕ) → going s < length s → Ended s
ended [] h = absurd (omega arith)
ended (b ∷ s) h =
    ⊎_elim (λ l. record { front = []; last = b; rest = s; is = refl; goes = tt; ends = l })
    (λ g. let k : going s < length s = let e = rw (le-ltb b 128 g) at h in omega arith in
    let r = ended s k in record { front = b ∷ r.front; last = r.last; rest = r.rest; is = ap (λ l. b ∷ l) r.is; goes = (g, r.goes); ends = r.ends })
    (cases_lt b 128)

joined : (front rest : List ℕ) (last : ℕ) → (front ++ last ∷ []) ++ rest ≡ front ++ last ∷ rest
joined front rest last = append_assoc front (last ∷ []) rest

-- what was read, by the three tests
within : (room top n : ℕ) (s rest : List ℕ) → number_in room top s ≡ Ok (n, rest) → (going s < room) × (going s < length s)
within room top n s rest e = by (leb room (going s)) (leb (length s) (going s)) refl refl
  where
    by : (p q : Bool) → leb room (going s) ≡ p → leb (length s) (going s) ≡ q → (going s < room) × (going s < length s)
    by true q hp hq = absurd (let z = rw hp at e in let y : ◌≡◌ {A = ℕ} 0 1 = cc in omega arith)
    by false true hp hq = absurd (let z = rw (hp, hq) at e in let y : ◌≡◌ {A = ℕ} 0 1 = cc in omega arith)
    by false false hp hq = (leb-false _ _ hp, leb-false _ _ hq)

fitted : (fits : Bool) (x n top : ℕ) (u rest : List ℕ) → leb x top ≡ fits → told false fits x u ≡ Ok (n, rest) → (x ≡ n) × (u ≡ rest) × (n ≤ top)
fitted true x n top u rest h e =
    let p : ◌≡◌ {A = ℕ × List ℕ} (x, u) (n, rest) = cc in
    let i : x ≡ n = ap (λ q. q.0) p in
    (i, ap (λ q. q.1) p, subst (λ k. k ≤ top) i (leb-true x top h))
fitted false x n top u rest h e = absurd (let z : ◌≡◌ {A = ℕ} 0 1 = cc in omega arith)

accepted : (top n : ℕ) (s rest : List ℕ) → var_uint top s ≡ Ok (n, rest) → (bs : List ℕ) × (s ≡ bs ++ rest) × Spells bs n × (length bs ≤ 10) × (n ≤ top)
accepted top n s rest e =
    let w = within 10 top n s rest e in
    let d = ended s w.1 in
    let bs : List ℕ = d.front ++ d.last ∷ [] in
    let k : going s ≡ length d.front = ap going d.is ∙ going_front d.front d.rest d.last d.goes d.ends in
    let l : length d.front < 10 = omega (arith, w.0) in
    let reads = sym (spelt_reads 10 top d.front d.rest d.last d.goes d.ends) ∙ ap (var_uint top) (sym d.is) ∙ e in
    let f = fitted (leb (number bs) top) (number bs) n top d.rest rest refl (rw (lt-leb 10 (length d.front) l) at reads) in
    (bs, d.is ∙ sym (joined d.front d.rest d.last) ∙ ap (λ r. bs ++ r) f.1, record { front = d.front; last = d.last; is = refl; goes = d.goes; ends = d.ends; adds = adds_number bs ∙ f.0 }, omega (arith, length-append d.front (d.last ∷ [])), f.2)

-- what a spelling of ten bytes at most is read as
spelt : (top n : ℕ) (bs rest : List ℕ) → Spells bs n → length bs ≤ 10 → var_uint top (bs ++ rest) ≡ told false (leb n top) n rest
spelt top n bs rest h l =
    let v : number (h.front ++ h.last ∷ []) ≡ n = ap number (sym h.is) ∙ sym (adds_number bs) ∙ h.adds in
    let k : length h.front < 10 = omega (arith, ap length h.is, length-append h.front (h.last ∷ [])) in
    ap (λ x. var_uint top (x ++ rest)) h.is ∙ ap (var_uint top) (joined h.front rest h.last) ∙ spelt_reads 10 top h.front rest h.last h.goes h.ends ∙ rw (v, lt-leb 10 (length h.front) k) refl

endless : (top : ℕ) (bs rest : List ℕ) → GoesOn bs → length bs ≡ 10 → var_uint top (bs ++ rest) ≡ Err InvalidVarInt
endless top bs rest g l = let k : 10 ≤ going (bs ++ rest) = omega (arith, going_all bs rest g) in rw (le-leb 10 (going (bs ++ rest)) k) refl

all_going : (bs : List ℕ) → GoesOn bs → going bs ≡ length bs
all_going [] g = refl
all_going (b ∷ bs) g = rw (le-ltb b 128 g.0) (ap (λ k. suc k) (all_going bs g.1))

cut : (top : ℕ) (bs : List ℕ) → GoesOn bs → length bs < 10 → var_uint top bs ≡ Err EndOfBuffer
cut top bs g l = let n : length bs ≤ length bs = omega arith in rw (all_going bs g, lt-leb 10 (length bs) l, le-leb (length bs) (length bs) n) refl

pub var_uints_are_as_spelt : VarUintsAreAsSpelt
var_uints_are_as_spelt = record {
  accepted_is_spelt = accepted;
  spelt_is_accepted = λ top n bs rest h l f. spelt top n bs rest h l ∙ rw (le-leb n top f) refl;
  past_width_is_refused = λ top n bs rest h l f. spelt top n bs rest h l ∙ rw (lt-leb n top f) refl;
  endless_is_refused = endless;
  cut_is_refused = cut;
}
