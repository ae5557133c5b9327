-- Readers that take exactly what is spelt, put together as the readers are.
use Rattle.std.proofs.Common.{◌≡◌, ℕ, zero, suc, ◌-◌, ◌^◌, ◌≤◌, Bool, true, false, cond, ltb, leb, List, [], ◌∷◌, ◌++◌, length, take, drop, Ok, Err, Result, sym, refl, ap, ◌∙◌, subst, append_assoc, arith, length-append, take-append-drop, length-take-le, ltb-true, lt-ltb, le-leb, leb-true}
use lib.Seq.{take-append_seam, drop-append_seam}
use Rattle.encoding.specs.declared.fault.WireFault.{WireFault}
use Rattle.encoding.specs.declared.fault.WireFault.TheVariants.{EndOfBuffer, UnexpectedValue, InvalidClientId, TooManyEntries, TextTooLong}
use Rattle.encoding.specs.Entries.{entries}
use Rattle.encoding.specs.Fields.{part, buffer, plain_text, text, client_id, client_id_in, count, count_in, presence_text, presence_text_in}
use Rattle.encoding.specs.Reading.{Reading, thence, named, passed}
use Rattle.encoding.specs.Spelling.{Exactly, NumberIs, BufferIs, TextIs, ClientIs, CountIs, PresenceTextIs, RowIs, CountedIs, FieldsAreAsSpelt}
use Rattle.encoding.specs.Utf8.{is_text}
use Rattle.encoding.specs.VarUint.{var_uint}
use Rattle.encoding.proofs.Spellings.{var_uints_are_as_spelt}
use Rattle.encoding.proofs.Utf8s.{text_decides}

-- what a reading gave, taken apart
pub ok_is : {X : Type 0} {x y : X} {s t : List ℕ} → ◌≡◌ {A = Reading X} (Ok (x, s)) (Ok (y, t)) → (x ≡ y) × (s ≡ t)
ok_is {X} {x} {y} {s} {t} e = let p : ◌≡◌ {A = X × List ℕ} (x, s) (y, t) = cc in (ap (λ q. q.0) p, ap (λ q. q.1) p)

pub never : {A X : Type 0} {f : X} {y : A} → ◌≡◌ {A = Result A X} (Err f) (Ok y) → ⊥
never e = let z : ◌≡◌ {A = ℕ} 0 1 = cc in omega arith

-- two spellings end to end, the second as the first one says
abbrev pub Then : {X Y : Type 0} → (X → List ℕ → Type 0) → (X → Y → List ℕ → Type 0) → Y → List ℕ → Type 0
Then {X} P Q y bs = (x : X) × (a : List ℕ) × (b : List ℕ) × (bs ≡ a ++ b) × P x a × Q x y b

module _ {X Y : Type 0} (r : List ℕ → Reading X) (k : X → List ℕ → Reading Y) where
  pub came : (s : List ℕ) (y : Y) (rest : List ℕ) (v : Reading X) → r s ≡ v → thence v k ≡ Ok (y, rest) → (x : X) × (mid : List ℕ) × (r s ≡ Ok (x, mid)) × (k x mid ≡ Ok (y, rest))
  came s y rest (Ok p) e h = (p.0, p.1, e, h)
  came s y rest (Err f) e h = absurd (never h)

  pub exact_thence : {P : X → List ℕ → Type 0} {Q : X → Y → List ℕ → Type 0} → Exactly r P → ((x : X) → Exactly (k x) (Q x)) → Exactly (λ s. thence (r s) k) (Then P Q)
  exact_thence {P} {Q} h g = record {
    taken_is_spelt = λ s y rest e.
        let c = came s y rest (r s) refl e in
        let a = h.taken_is_spelt s c.0 c.1 c.2 in
        let b = (g c.0).taken_is_spelt c.1 y rest c.3 in
        (a.0 ++ b.0, a.1 ∙ ap (λ l. a.0 ++ l) b.1 ∙ sym (append_assoc a.0 b.0 rest), (c.0, a.0, b.0, refl, a.2, b.2));
    spelt_is_taken = λ y bs rest t.
        ap (λ l. thence (r (l ++ rest)) k) t.3 ∙ ap (λ l. thence (r l) k) (append_assoc t.1 t.2 rest) ∙ ap (λ v. thence v k) (h.spelt_is_taken t.0 t.1 (t.2 ++ rest) t.4) ∙ (g t.0).spelt_is_taken y t.2 rest t.5;
  }

-- the same spelling in other words
pub exact_as : {X : Type 0} {r : List ℕ → Reading X} {P Q : X → List ℕ → Type 0} → Exactly r P → ((x : X) (bs : List ℕ) → P x bs → Q x bs) → ((x : X) (bs : List ℕ) → Q x bs → P x bs) → Exactly r Q
exact_as h there back = record {
  taken_is_spelt = λ s x rest e. let a = h.taken_is_spelt s x rest e in (a.0, a.1, there x a.0 a.2);
  spelt_is_taken = λ x bs rest q. h.spelt_is_taken x bs rest (back x bs q);
}

-- a value under another name
module _ {X Y : Type 0} (f : X → Y) (r : List ℕ → Reading X) where
  pub named_came : (s : List ℕ) (y : Y) (rest : List ℕ) (v : Reading X) → r s ≡ v → named f v ≡ Ok (y, rest) → (x : X) × (r s ≡ Ok (x, rest)) × (f x ≡ y)
  named_came s y rest (Ok p) e h = let q = ok_is h in (p.0, e ∙ ap (λ l. Ok (p.0, l)) q.1, q.0)
  named_came s y rest (Err g) e h = absurd (never h)

  pub exact_named : {P : X → List ℕ → Type 0} → Exactly r P → Exactly (λ s. named f (r s)) (λ y bs. (x : X) × (f x ≡ y) × P x bs)
  exact_named h = record {
    taken_is_spelt = λ s y rest e.
        let c = named_came s y rest (r s) refl e in
        let a = h.taken_is_spelt s c.0 rest c.1 in
        (a.0, a.1, (c.0, c.2, a.2));
    spelt_is_taken = λ y bs rest t. ap (named f) (h.spelt_is_taken t.0 bs rest t.2) ∙ ap (λ z. Ok (z, rest)) t.1;
  }

-- a value that passes a test
module _ {X : Type 0} (test : X → Result (Unit {0}) WireFault) (r : List ℕ → Reading X) where
  passes : (v : Result (Unit {0}) WireFault) (x y : X) (s t : List ℕ) → passed v x s ≡ Ok (y, t) → (x ≡ y) × (s ≡ t) × (v ≡ Ok tt)
  passes (Ok tt) x y s t e = let q = ok_is e in (q.0, q.1, refl)
  passes (Err f) x y s t e = absurd (never e)

  pub tested : (s : List ℕ) (x : X) (rest : List ℕ) (v : Reading X) → r s ≡ v → thence v (λ y l. passed (test y) y l) ≡ Ok (x, rest) → (r s ≡ Ok (x, rest)) × (test x ≡ Ok tt)
  tested s x rest (Ok p) e h =
      let q = passes (test p.0) p.0 x p.1 rest h in
      (e ∙ ap (λ z. Ok (z, p.1)) q.0 ∙ ap (λ l. Ok (x, l)) q.1, ap test (sym q.0) ∙ q.2)
  tested s x rest (Err f) e h = absurd (never h)

  pub exact_passed : {P : X → List ℕ → Type 0} → Exactly r P → Exactly (λ s. thence (r s) (λ x rest. passed (test x) x rest)) (λ x bs. P x bs × (test x ≡ Ok tt))
  exact_passed h = record {
    taken_is_spelt = λ s x rest e.
        let c = tested s x rest (r s) refl e in
        let a = h.taken_is_spelt s x rest c.0 in
        (a.0, a.1, (a.2, c.1));
    spelt_is_taken = λ x bs rest t. ap (λ v. thence v (λ y l. passed (test y) y l)) (h.spelt_is_taken x bs rest t.0) ∙ ap (λ v. passed v x rest) t.1;
  }

-- entries end to end
module _ {X : Type 0} (one : List ℕ → Reading X) where
  pub exact_entries : {P : X → List ℕ → Type 0} → Exactly one P → (n : ℕ) → Exactly (entries one n) (λ xs bs. RowIs P xs bs × (length xs ≡ n))
  exact_entries {P} h zero = record {
    taken_is_spelt = λ s xs rest e. let q = ok_is e in ([], q.1, subst (λ ys. RowIs P ys [] × (length ys ≡ 0)) q.0 (refl, refl));
    spelt_is_taken = none;
  }
    where
      none : (xs : List X) (bs rest : List ℕ) → RowIs P xs bs × (length xs ≡ 0) → ◌≡◌ {A = Reading (List X)} (Ok ([], bs ++ rest)) (Ok (xs, rest))
      none [] bs rest t = ap (λ l. Ok ([], l ++ rest)) t.0
      none (x ∷ xs) bs rest t = absurd (omega (arith, t.1))
  exact_entries {P} h (suc n) = exact_as (exact_thence one _ h (λ x. exact_named (λ xs. x ∷ xs) (entries one n) (exact_entries h n))) there back
    where
      there : (ys : List X) (bs : List ℕ) → Then P (λ x zs b. (xs : List X) × (x ∷ xs ≡ zs) × (RowIs P xs b × (length xs ≡ n))) ys bs → RowIs P ys bs × (length ys ≡ suc n)
      there ys bs (x, a, b, e, p, (xs, i, q)) = subst (λ zs. RowIs P zs bs × (length zs ≡ suc n)) i ((a, b, e, p, q.0), ap (λ k. suc k) q.1)

      back : (ys : List X) (bs : List ℕ) → RowIs P ys bs × (length ys ≡ suc n) → Then P (λ x zs b. (xs : List X) × (x ∷ xs ≡ zs) × (RowIs P xs b × (length xs ≡ n))) ys bs
      back [] bs t = absurd (omega (arith, t.1))
      back (y ∷ ys) bs t = (y, t.0.0, t.0.1, t.0.2, t.0.3, (ys, refl, (t.0.4, omega (arith, t.1))))

-- ---- the fields
pub exact_number : (top : ℕ) → Exactly (var_uint top) (NumberIs top)
exact_number top = record {
  taken_is_spelt = λ s n rest e. let a = var_uints_are_as_spelt.accepted_is_spelt top n s rest e in (a.0, a.1, (a.2, a.3, a.4));
  spelt_is_taken = λ n bs rest h. var_uints_are_as_spelt.spelt_is_accepted top n bs rest h.0 h.1 h.2;
}

exact_part : (n : ℕ) → Exactly (part n) (λ contents bs. (bs ≡ contents) × (length contents ≡ n))
exact_part n = record {
  taken_is_spelt = λ s contents rest e. by s contents rest (leb n (length s)) refl e;
  spelt_is_taken = λ contents bs rest h. subst (λ k. part k (bs ++ rest) ≡ Ok (contents, rest)) h.1 (ap (λ l. part (length contents) (l ++ rest)) h.0 ∙ whole contents rest);
}
  where
    by : (s contents rest : List ℕ) (b : Bool) → leb n (length s) ≡ b → ◌≡◌ {A = Reading (List ℕ)} (cond b (Ok (take n s, drop n s)) (Err EndOfBuffer)) (Ok (contents, rest)) → (bs : List ℕ) × (s ≡ bs ++ rest) × ((bs ≡ contents) × (length contents ≡ n))
    by s contents rest true h e = let q = ok_is e in (contents, sym (take-append-drop n s) ∙ ap (λ l. l ++ drop n s) q.0 ∙ ap (λ l. contents ++ l) q.1, (refl, ap length (sym q.0) ∙ length-take-le n s (leb-true n (length s) h)))
    by s contents rest false h e = absurd (never e)

    whole : (contents rest : List ℕ) → part (length contents) (contents ++ rest) ≡ Ok (contents, rest)
    whole contents rest =
        let l : length contents ≤ length (contents ++ rest) = omega (arith, length-append contents rest) in
        rw (le-leb (length contents) (length (contents ++ rest)) l, take-append_seam contents rest, drop-append_seam contents rest) refl

pub exact_buffer : Exactly buffer BufferIs
exact_buffer = exact_as (exact_thence (var_uint (2 ^ 32 - 1)) part (exact_number (2 ^ 32 - 1)) exact_part) there back
  where
    there : (contents bs : List ℕ) → Then (NumberIs (2 ^ 32 - 1)) (λ n c b. (b ≡ c) × (length c ≡ n)) contents bs → BufferIs contents bs
    there contents bs (n, size, b, e, h, (i, l)) = (size, e ∙ ap (λ x. size ++ x) i, subst (λ k. NumberIs (2 ^ 32 - 1) k size) (sym l) h)

    back : (contents bs : List ℕ) → BufferIs contents bs → Then (NumberIs (2 ^ 32 - 1)) (λ n c b. (b ≡ c) × (length c ≡ n)) contents bs
    back contents bs (size, e, h) = (length contents, size, contents, e, h, (refl, refl))

-- a test that passes, and what it says
pub test_passes : (f : WireFault) (b : Bool) → ◌≡◌ {A = Result (Unit {0}) WireFault} (cond b (Ok tt) (Err f)) (Ok tt) → b ≡ true
test_passes f true e = refl
test_passes f false e = absurd (never e)

pub exact_text : Exactly text TextIs
exact_text = exact_as (exact_passed plain_text buffer exact_buffer) (λ x bs h. (h.0, (text_decides x).0 (test_passes UnexpectedValue (is_text x) h.1))) (λ x bs h. (h.0, rw ((text_decides x).1 h.1) refl))

pub exact_client_id : Exactly client_id_in ClientIs
exact_client_id = exact_as (exact_passed client_id (var_uint (2 ^ 64 - 1)) (exact_number (2 ^ 64 - 1))) (λ n bs h. (h.0, ltb-true n (2 ^ 53) (test_passes InvalidClientId (ltb n (2 ^ 53)) h.1))) (λ n bs h. (h.0, rw (lt-ltb n (2 ^ 53) h.1) refl))

pub exact_count : (width : ℕ) → Exactly (count_in width) (CountIs width)
exact_count width = exact_as (exact_passed count (var_uint (2 ^ width - 1)) (exact_number (2 ^ width - 1))) (λ n bs h. (h.0, leb-true n 64 (test_passes TooManyEntries (leb n 64) h.1))) (λ n bs h. (h.0, rw (le-leb n 64 h.1) refl))

-- a count, then so many entries
pub exact_counted : {X : Type 0} (width : ℕ) (one : List ℕ → Reading X) (One : X → List ℕ → Type 0) → Exactly one One → Exactly (λ s. thence (count_in width s) (entries one)) (CountedIs width One)
exact_counted {X} width one One h = exact_as (exact_thence (count_in width) (entries one) (exact_count width) (exact_entries one h)) there back
  where
    there : (xs : List X) (bs : List ℕ) → Then (CountIs width) (λ n ys b. RowIs One ys b × (length ys ≡ n)) xs bs → CountedIs width One xs bs
    there xs bs (n, a, b, e, c, (r, l)) = (a, b, e, subst (λ k. CountIs width k a) (sym l) c, r)

    back : (xs : List X) (bs : List ℕ) → CountedIs width One xs bs → Then (CountIs width) (λ n ys b. RowIs One ys b × (length ys ≡ n)) xs bs
    back xs bs (a, b, e, c, r) = (length xs, a, b, e, c, (r, refl))

-- both tests of a presence text
pub both : (a b : Bool) → ◌≡◌ {A = Result (Unit {0}) WireFault} (cond a (cond b (Ok tt) (Err TextTooLong)) (Err UnexpectedValue)) (Ok tt) → (a ≡ true) × (b ≡ true)
both true b e = (refl, test_passes TextTooLong b e)
both false b e = absurd (never e)

pub exact_presence_text : Exactly presence_text_in PresenceTextIs
exact_presence_text =
    exact_as (exact_passed presence_text buffer exact_buffer)
    (λ x bs h. let t = both (is_text x) (leb (length x) 256) h.1 in ((h.0, (text_decides x).0 t.0), leb-true (length x) 256 t.1))
    (λ x bs h. (h.0.0, rw ((text_decides x).1 h.0.1, le-leb (length x) 256 h.1) refl))

pub fields_are_as_spelt : FieldsAreAsSpelt
fields_are_as_spelt = record {
  numbers = exact_number;
  buffers = exact_buffer;
  texts = exact_text;
  client_ids = exact_client_id;
  counts = exact_count;
  presence_texts = exact_presence_text;
}
