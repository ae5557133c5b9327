-- What the two sinks hold after bytes went in.
use Rattle.std.proofs.Common.{◌≡◌, ℕ, ◌+◌, ◌-◌, ◌<◌, ◌≤◌, List, [], ◌∷◌, ◌++◌, length, take, drop, set, Ok, Err, Result, sym, refl, ap, ◌∙◌, append_assoc, add-one, arith, length-append, length-drop, length-set, take-append-drop}
use borrow.Rule.Slice.PartMut.{put_mid}
use Rattle.std.proofs.lemmas.List.{take_more_set, drop-set-lt, set_split, drop-drop, length-take-le, nil_from_length}
use Rattle.encoding.specs.declared.sink.BufferTooShort.{BufferTooShort}
use Rattle.encoding.specs.declared.sink.Counter.{Counter}
use Rattle.encoding.specs.declared.sink.Filler.{Filler}
use Rattle.encoding.specs.Sink.{Runs, Put}
use Rattle.encoding.specs.TwoSinks.{room_of_counter, Counts, room_of_filler, Fills, stood, SinksAgree}

-- a counter that is so many bytes further has taken any so many
pub counter_runs : (s t : Counter) (bs : List ℕ) → t.count ≡ s.count + length bs → t.limit ≡ s.limit → Runs Counts s bs t
counter_runs s t [] e l = let z : s.count ≡ t.count = omega arith in λ i. record { count = z i; limit = sym l i }
counter_runs s t (b ∷ bs) e l = let m : Counter = record { count = s.count + 1; limit = s.limit } in (m, (refl, refl), counter_runs m t bs (omega arith) l)

-- and the other way round
pub runs_count : (s t : Counter) (bs : List ℕ) → Runs Counts s bs t → (t.count ≡ s.count + length bs) × (t.limit ≡ s.limit)
runs_count s t [] r = let e = ap (λ x. x.count) r in (omega arith, ap (λ x. x.limit) (sym r))
runs_count s t (b ∷ bs) r = let i = runs_count r.0 t bs r.2 in let e = r.1.0 in (omega (arith, i.0), i.1 ∙ r.1.1)

-- one byte, then the others
stood_more : (old : List ℕ) (at b : ℕ) (bs : List ℕ) → at < length old → stood (set old at b) (at + 1) bs ≡ stood old at (b ∷ bs)
stood_more old at b bs h =
    let e : at + 1 + length bs ≡ at + length (b ∷ bs) = omega arith in
    let l : at < at + length (b ∷ bs) = omega arith in
    rw (take_more_set old at b h, e, drop-set-lt (at + length (b ∷ bs)) old at b l, append_assoc) refl

-- one byte alone
stood_one : (old : List ℕ) (at b : ℕ) → at < length old → stood old at (b ∷ []) ≡ set old at b
stood_one old at b h = rw add-one (sym (set_split old at b h))

-- a filler whose buffer holds bytes from its place on has taken them
pub filler_runs : (s t : Filler) (b : ℕ) (bs : List ℕ) → s.at + length (b ∷ bs) ≤ length s.out.now → t.at ≡ s.at + length (b ∷ bs) → t.out.now ≡ stood s.out.now s.at (b ∷ bs) → t.out.ghost_name ≡ s.out.ghost_name → Runs Fills s (b ∷ bs) t
filler_runs s t b [] h a w n = (t, (a, w ∙ stood_one s.out.now s.at b (omega arith), n), refl)
filler_runs s t b (d ∷ bs) h a w n =
    let m : Filler = record { out = record { ref_ptr = s.out.ref_ptr; ghost_name = s.out.ghost_name; now = set s.out.now s.at b }; at = s.at + 1 } in
    let l = length-set s.out.now s.at b in
    (m, (refl, refl, refl), filler_runs m t d bs (omega arith) (omega arith) (w ∙ sym (stood_more s.out.now s.at b (d ∷ bs) (omega arith))) n)

-- and the other way round
pub runs_fill : (s t : Filler) (bs : List ℕ) → length bs ≤ room_of_filler s → Runs Fills s bs t → (t.out.now ≡ stood s.out.now s.at bs) × (t.at ≡ s.at + length bs) × (t.out.ghost_name ≡ s.out.ghost_name)
runs_fill s t [] h r =
    let e : s.at + 0 ≡ s.at = omega arith in
    let a = ap (λ x. x.at) (sym r) in
    (ap (λ x. x.out.now) (sym r) ∙ sym (rw (e, take-append-drop) refl), omega arith, ap (λ x. x.out.ghost_name) (sym r))
runs_fill s t (b ∷ bs) h r =
    let m = r.0 in
    let f = r.1 in
    let k = f.0 in
    let len = ap length f.1 ∙ length-set s.out.now s.at b in
    let i = runs_fill m t bs (omega arith) r.2 in
    (i.0 ∙ ap (λ k. stood m.out.now k bs) f.0 ∙ ap (λ l. stood l (s.at + 1) bs) f.1 ∙ stood_more s.out.now s.at b bs (omega arith), omega (arith, i.1), i.2 ∙ f.2)

-- a buffer stays as long as it was
pub length_stood : (old : List ℕ) (at : ℕ) (bs : List ℕ) → at + length bs ≤ length old → length (stood old at bs) ≡ length old
length_stood old at bs h =
    let t : length (take at old) ≡ at = length-take-le at old (omega arith) in
    omega (arith, t, length-append (take at old) (bs ++ drop (at + length bs) old), length-append bs (drop (at + length bs) old), length-drop (at + length bs) old)

-- what a copy into a part of the buffer makes of it
pub copied_stood : (old bs ys : List ℕ) (at : ℕ) → ys ≡ bs → put_mid at (at + length bs - at) old ys ≡ stood old at bs
copied_stood old bs ys at e = let n : at + length bs - at ≡ length bs = omega arith in rw (e, n, drop-drop) refl

-- no bytes change nothing
pub none_put : (s : Filler) (bs : List ℕ) (u : Unit {0}) → length bs ≡ 0 → Put room_of_filler Fills s bs (Ok u) s
none_put s bs u h = rw (nil_from_length bs h) (omega arith, refl)

-- bytes that a filler's buffer holds from its place on went in whole
pub filler_put : (s t : Filler) (bs : List ℕ) (u : Unit {0}) → 0 < length bs → length bs ≤ room_of_filler s → t.at ≡ s.at + length bs → t.out.now ≡ stood s.out.now s.at bs → t.out.ghost_name ≡ s.out.ghost_name → Put room_of_filler Fills s bs (Ok u) t
filler_put s t [] u n h a w e = absurd (omega arith)
filler_put s t (b ∷ bs) u n h a w e =
    let l = ap length w ∙ length_stood s.out.now s.at (b ∷ bs) (omega arith) in
    (omega arith, filler_runs s t b bs (omega arith) a w e)

-- a buffer that was lent to a filler, once the filler is gone: bytes that went in stand in it
pub lent_stood : (s t : Filler) (bs new : List ℕ) (u : Unit {0}) → Put room_of_filler Fills s bs (Ok u) t → (s.out.ghost_name ≡ t.out.ghost_name → new ≡ t.out.now) → new ≡ stood s.out.now s.at bs
lent_stood s t bs new u p k = let r = runs_fill s t bs (omega (arith, p.0)) p.1 in k (sym r.2) ∙ r.0

-- with as much room, both sinks take bytes or both refuse them
same : (c d : Counter) (f g : Filler) (bs : List ℕ) (r q : Result (Unit {0}) BufferTooShort) → room_of_counter c ≡ room_of_filler f → Put room_of_counter Counts c bs r d → Put room_of_filler Fills f bs q g → r ≡ q
same c d f g bs (Ok u) (Ok v) e p q = refl
same c d f g bs (Ok u) (Err w) e p q = absurd (omega (arith, p.0, q.0))
same c d f g bs (Err w) (Ok v) e p q = absurd (omega (arith, p.0, q.0))
same c d f g bs (Err w) (Err x) e p q = refl

-- the law of the two sinks
pub sinks_agree : SinksAgree
sinks_agree = record {
  same_answer = same;
  counted = λ c d bs u p. runs_count c d bs p.1;
  filled = λ f g bs u p. let r = runs_fill f g bs (omega (arith, p.0)) p.1 in (r.0, r.1);
  unchanged = λ c d f g bs e p q. (p.1, q.1);
}
