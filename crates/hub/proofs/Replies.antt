-- Replies in a buffer: bytes that stand one after another.
use Rattle.std.proofs.Common.{◌≡◌, ℕ, ◌+◌, ◌-◌, ◌^◌, ◌≤◌, ◌<◌, false, cond, List, [], ◌∷◌, ◌++◌, length, take, drop, Ok, Err, Result, sym, refl, ap, ◌∙◌, append_assoc, arith, length-append, length-take, length-drop}
use Rattle.std.proofs.Math.Seq.{take-append_seam, drop-append-add}
use Rattle.std.proofs.lemmas.List.{drop-drop, take-append-drop, drop_all, take_all, append-nil}
use Rattle.std.proofs.lemmas.Bool.{le-leb, lt-ltb}
use borrow.Rule.Slice.PartMut.{put_mid, mid_of}
use Rattle.encoding.specs.declared.fault.WireFault.{WireFault}
use Rattle.encoding.specs.declared.write.WriteFault.TheVariants.{Short}
use Rattle.encoding.specs.declared.sink.BufferTooShort.{BufferTooShort}
use Rattle.encoding.specs.declared.sink.Counter.{Counter}
use Rattle.encoding.specs.declared.write.WriteFault.{WriteFault}
use Rattle.calls.specs.Refusals.{Put, sent}
use Rattle.law.specs.Words.{both}
use Rattle.encoding.specs.TwoSinks.{stood, Filled, room_of_counter, Counts}
use Rattle.encoding.proofs.Fillings.{length_stood}
use Rattle.state_vector.specs.declared.vector.VectorEntry.{VectorEntry}
use Rattle.document.specs.Kind.{Kind}
use Rattle.calls.specs.Handling.{Hub, asked, fits, replied}
use Rattle.encoding.specs.Writing.{Row, shortest, packed, Sent}
use Rattle.message.specs.Writing.{step2, led, message_out, Written}
use Rattle.calls.specs.declared.fault.Fault.TheVariants.{Buffer}

-- bytes that stand right after others are all of them
pub stood_then : (old xs ys : List ℕ) (at : ℕ) → at + length xs ≤ length old → stood (stood old at xs) (at + length xs) ys ≡ stood old at (xs ++ ys)
stood_then old xs ys at l =
    let p = take at old in
    let d = drop (at + length xs) old in
    let long : length (p ++ xs) ≡ at + length xs = omega (arith, length-append p xs, length-take at old) in
    let all : stood old at xs ≡ (p ++ xs) ++ d = sym (append_assoc p xs d) in
    let front : take (at + length xs) (stood old at xs) ≡ p ++ xs = ap (take (at + length xs)) all ∙ ap (λ n. take n ((p ++ xs) ++ d)) (sym long) ∙ take-append_seam (p ++ xs) d in
    let back : drop (at + length xs + length ys) (stood old at xs) ≡ drop (at + length (xs ++ ys)) old =
    ap (drop (at + length xs + length ys)) all ∙ ap (λ n. drop (n + length ys) ((p ++ xs) ++ d)) (sym long) ∙ drop-append-add (p ++ xs) d (length ys)
    ∙ drop-drop (length ys) (at + length xs) old ∙ ap (λ n. drop n old) (omega (arith, length-append xs ys)) in
    ap (λ f. f ++ (ys ++ drop (at + length xs + length ys) (stood old at xs))) front ∙ ap (λ b. (p ++ xs) ++ (ys ++ b)) back
    ∙ append_assoc p xs (ys ++ drop (at + length (xs ++ ys)) old) ∙ ap (λ q. p ++ q) (sym (append_assoc xs ys (drop (at + length (xs ++ ys)) old)))

-- no bytes stand anywhere
pub stood_none : (old : List ℕ) (at : ℕ) → stood old at [] ≡ old
stood_none old at = ap (λ n. take at old ++ drop n old) (omega arith) ∙ take-append-drop at old

-- a part that reaches to the end, written from its front on
tail_stood : (xs u ys : List ℕ) (k : ℕ) → ys ≡ stood (drop k xs) 0 u → k + length u ≤ length xs → put_mid k (length xs - k) xs ys ≡ stood xs k u
tail_stood xs u ys k is l =
    let none : drop (length xs - k) (drop k xs) ≡ [] = drop_all (length xs - k) (drop k xs) (omega (arith, length-drop k xs)) in
    let zero_more : 0 + length u ≡ length u = omega arith in
    let whole : ys ≡ u ++ drop (k + length u) xs = is ∙ ap (λ n. u ++ drop n (drop k xs)) zero_more ∙ ap (λ b. u ++ b) (drop-drop (length u) k xs) in
    ap (λ p. take k xs ++ (ys ++ p)) none ∙ ap (λ y. take k xs ++ y) (append-nil ys ∙ whole)

-- how a step 2 is laid out
pub step2_is : (u : List ℕ) → length u < 2 ^ 32 → message_out (step2 u) ≡ Ok (0 ∷ 1 ∷ packed u)
step2_is u l = ap (λ b. asked_step (cond b (Ok (packed u)) (Err Short))) (lt-ltb (length u) (2 ^ 32) l) where
  asked_step : Row → Row
  asked_step r = led (0 ∷ 1 ∷ []) r

-- its head, its length and the update, one after another
pub step2_stands : (out u size one two ys : List ℕ) (at : ℕ) → size ≡ shortest (length u) → one ≡ stood out at (0 ∷ 1 ∷ []) → two ≡ stood one (at + 2) size → ys ≡ stood (drop (at + (2 + length size)) two) 0 u → at + (2 + length size + length u) ≤ length out
    → put_mid (at + (2 + length size)) (length two - (at + (2 + length size))) two ys ≡ stood out at (0 ∷ 1 ∷ packed u)
step2_stands out u size one two ys at s a b c l =
    let l1 : length one ≡ length out = ap length a ∙ length_stood out at (0 ∷ 1 ∷ []) (omega arith) in
    let both : two ≡ stood out at (0 ∷ 1 ∷ size) = b ∙ ap (λ o. stood o (at + 2) size) a ∙ stood_then out (0 ∷ 1 ∷ []) size at (omega arith) in
    let l2 : length two ≡ length out = ap length both ∙ length_stood out at (0 ∷ 1 ∷ size) (omega arith) in
    tail_stood two u ys (at + (2 + length size)) c (omega arith)
    ∙ ap (λ o. stood o (at + (2 + length size)) u) both
    ∙ ap (λ n. stood (stood out at (0 ∷ 1 ∷ size)) n u) (omega arith)
    ∙ stood_then out (0 ∷ 1 ∷ size) u at (omega arith)
    ∙ ap (λ z. stood out at (0 ∷ 1 ∷ (z ++ u))) s

-- a step 1 whose reply fits is replied to
pub asked_fits : (k : Kind) (room : ℕ) (h : Hub k) (v : List VectorEntry) (r : Result (List VectorEntry) WireFault) (u : List ℕ) → r ≡ Ok v → u ≡ k.update h.document v → length u < 2 ^ 32 → 2 + length (shortest (length u)) + length u ≤ room
    → asked k room h r ≡ record { verdict = Ok tt; hub = h; reply = 0 ∷ 1 ∷ packed u; reads = false }
asked_fits k room h v r u is same l fits_so =
    ap (asked k room h) is ∙ ap (λ w. replied k h (fits k room (message_out (step2 w)))) (sym same) ∙ ap (λ row. replied k h (fits k room row)) (step2_is u l)
    ∙ ap (λ b. replied k h (cond b (Ok (0 ∷ 1 ∷ packed u)) (Err Buffer))) (le-leb (length (0 ∷ 1 ∷ packed u)) room (omega (arith, length-append (shortest (length u)) u)))

-- what was put where its number was told
pub filled_ok : (old new bs : List ℕ) (at n : ℕ) (r : Result ℕ BufferTooShort) → Filled old at bs r new → r ≡ Ok n → new ≡ stood old at bs
filled_ok old new bs at n (Ok m) f is = f.1
filled_ok old new bs at n (Err e) f is = cc

-- a part that reaches to the end is what is left from there
pub mid_to_end : (k : ℕ) (xs : List ℕ) → mid_of k (length xs - k) xs ≡ drop k xs
mid_to_end k xs = take_all (length xs - k) (drop k xs) (omega (arith, length-drop k xs))

abbrev row_length : Row → ℕ
row_length (Ok bs) = length bs
row_length (Err f) = 0

-- a row that a counter took is no longer than what it may take
sent_short : (row : Row) (limit : ℕ) (t : Counter) (bs : List ℕ) → row ≡ Ok bs → Sent room_of_counter Counts (record { count = 0; limit = limit }) row (Ok tt) t → length bs ≤ limit
sent_short (Ok cs) limit t bs e s = let l : length cs ≡ length bs = ap row_length e in omega (arith, s.0, l)
sent_short (Err f) limit t bs e s = cc

-- two messages, one written right after the other
pub both_put : (old one two : List ℕ) (first second : Row) (n m : ℕ) (t : Counter) → Written old 0 first (Ok n) one → Written one n second (Ok m) two → Sent room_of_counter Counts (record { count = 0; limit = length old }) first (Ok tt) t → Put old (sent (both first second)) (Ok (n + m)) two
both_put old one two (Ok a) (Ok b) n m t w v s =
    let l = sent_short (Ok a) (length old) t a refl s in (
      omega (arith, w.0, v.0, length-append a b),
      v.1 ∙ ap (λ o. stood o n b) w.1 ∙ ap (λ i. stood (stood old 0 a) i b) (omega (arith, w.0)) ∙ stood_then old a b 0 (omega arith),
    )
both_put old one two (Ok a) (Err f) n m t w v s = absurd (never v.0) where
  never : ◌≡◌ {A = Result ℕ WriteFault} (Ok m) (Err f) → ⊥
  never z = cc
both_put old one two (Err f) r n m t w v s = absurd (never w.0) where
  never : ◌≡◌ {A = Result ℕ WriteFault} (Ok n) (Err f) → ⊥
  never z = cc
