-- Rows that are sent into a sink one after another.
use Rattle.std.proofs.Common.{◌≡◌, ℕ, ◌+◌, ◌^◌, ◌<◌, ◌≤◌, List, [], ◌∷◌, ◌++◌, length, Ok, Err, Result, sym, refl, ap, ◌∙◌, subst, append_assoc, arith, length-append, lt-ltb}
use Rattle.encoding.specs.declared.sink.BufferTooShort.{BufferTooShort}
use Rattle.encoding.specs.Sink.{Put}
use Rattle.encoding.specs.Writing.{shortest, packed, buffer_out, row_out, Writes, told, Sent}
use Rattle.encoding.proofs.Rows.{buffer_writes}
use Rattle.encoding.proofs.Runs.{runs_append, put_then, put_short}

-- entries in front of others
pub row_append : {X : Type 0} (out : X → List ℕ) (xs ys : List X) → row_out out (xs ++ ys) ≡ row_out out xs ++ row_out out ys
row_append out [] ys = refl
row_append out (x ∷ xs) ys = ap (λ l. out x ++ l) (row_append out xs ys) ∙ sym (append_assoc (out x) (row_out out xs) (row_out out ys))

module _ {S : Type 0} (room : S → ℕ) (step : S → ℕ → S → Type 0) where
  -- what goes in whole or is refused is sent
  pub put_sent : (s t : S) (bs : List ℕ) (r : Result (Unit {0}) BufferTooShort) → Put room step s bs r t → Sent room step s (Ok bs) r t
  put_sent s t bs (Ok u) p = p
  put_sent s t bs (Err e) p = p.0

  -- one row after another is the row of both
  pub sent_then : (s m t : S) (xs ys : List ℕ) (u : Unit {0}) (r : Result (Unit {0}) BufferTooShort) → Sent room step s (Ok xs) (Ok u) m → Sent room step m (Ok ys) r t → Sent room step s (Ok (xs ++ ys)) r t
  sent_then s m t xs ys u (Ok v) p q = (omega (arith, p.0, q.0, length-append xs ys), runs_append room step s m t xs ys p.1 q.1)
  sent_then s m t xs ys u (Err e) p q = omega (arith, p.0, q, length-append xs ys)

  -- two numbers, one after the other
  pub numbers_sent : (s m t : S) (n k : ℕ) (u : Unit {0}) (r : Result (Unit {0}) BufferTooShort) → Put room step s (shortest n) (Ok u) m → Put room step m (shortest k) r t → Sent room step s (Ok (shortest n ++ shortest k)) r t
  numbers_sent s m t n k u r p q = sent_then s m t (shortest n) (shortest k) u r p (put_sent m t (shortest k) r q)

  -- a buffer that is short enough is its bytes
  pub buffer_goes : (s t : S) (bs : List ℕ) (r : Result (Unit {0}) BufferTooShort) → length bs < 2 ^ 32 → Writes room step s (buffer_out bs) (told r) t → Sent room step s (Ok (packed bs)) r t
  buffer_goes s t bs r l w = by r (rw (lt-ltb (length bs) (2 ^ 32) l) at w)
    where
      by : (r : Result (Unit {0}) BufferTooShort) → Writes room step s (Ok (packed bs)) (told r) t → Sent room step s (Ok (packed bs)) r t
      by (Ok u) w = w
      by (Err e) w = w.1

  -- two numbers and such a buffer, by what they are equal to
  pub numbers_and_buffer : (s l m t : S) (a b n k : ℕ) (bs cs : List ℕ) (u v : Unit {0}) (r : Result (Unit {0}) BufferTooShort) → n ≡ a → k ≡ b → cs ≡ bs → length bs < 2 ^ 32 → Put room step s (shortest n) (Ok u) l → Put room step l (shortest k) (Ok v) m → Writes room step m (buffer_out cs) (told r) t → Sent room step s (Ok (shortest a ++ (shortest b ++ packed bs))) r t
  numbers_and_buffer s l m t a b n k bs cs u v r i j e few p q w =
      let first = subst (λ x. Put room step s (shortest x) (Ok u) l) i p in
      let second = subst (λ x. Put room step l (shortest x) (Ok v) m) j q in
      let third = buffer_goes m t bs r few (subst (λ x. Writes room step m (buffer_out x) (told r) t) e w) in
      sent_then s l t (shortest a) (shortest b ++ packed bs) u r first (sent_then l m t (shortest b) (packed bs) v r second third)

  -- no room for the first row is none for both
  pub sent_short : (s t v : S) (xs ys : List ℕ) (e : BufferTooShort) → Sent room step s (Ok xs) (Err e) t → Sent room step s (Ok (xs ++ ys)) (Err e) v
  sent_short s t v xs ys e p = omega (arith, p, length-append xs ys)

  -- nothing yet
  pub sent_none : (s : S) → Sent room step s (Ok []) (Ok tt) s
  sent_none s = (omega arith, refl)

  -- a row for which there is room goes in whole
  pub sent_sure : (s t : S) (bs : List ℕ) (r : Result (Unit {0}) BufferTooShort) → length bs ≤ room s → Sent room step s (Ok bs) r t → Put room step s bs r t
  sent_sure s t bs (Ok u) l p = p
  sent_sure s t bs (Err e) l p = absurd (omega (arith, p))

  -- a buffer whose length and contents are sent, where there is room for both
  pub buffer_sent : (s m t : S) (n : ℕ) (bs : List ℕ) (u : Unit {0}) (r : Result (Unit {0}) BufferTooShort) → n ≡ length bs → n < 2 ^ 32 → length (shortest n) + n ≤ room s → Put room step s (shortest n) (Ok u) m → Sent room step m (Ok bs) r t → Writes room step s (buffer_out bs) (told r) t
  buffer_sent s m t n bs u r e f l p q =
      let b : length bs ≤ room m = omega (arith, p.0) in
      let w = put_then room step s m t (shortest n) bs u r (omega arith) p (sent_sure m t bs r b q) in
      buffer_writes room step s t bs r (omega arith) (subst (λ k. Put room step s (shortest k ++ bs) r t) e w)

  -- a buffer for which there is no room
  pub buffer_short : (s : S) (n : ℕ) (bs : List ℕ) (e : BufferTooShort) → n ≡ length bs → n < 2 ^ 32 → room s < length (shortest n) + n → Writes room step s (buffer_out bs) (told (Err e)) s
  buffer_short s n bs e i f l =
      let k = ap (λ m. length (shortest m)) i in
      buffer_writes room step s s bs (Err e) (omega arith) (put_short room step s (shortest (length bs)) bs e (omega arith))
