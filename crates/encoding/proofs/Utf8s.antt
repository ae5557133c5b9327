-- What the table of byte sequences takes is UTF-8. Assumes nothing.
use Rattle.std.proofs.Common.{◌≡◌, ℕ, zero, suc, ◌+◌, ◌-◌, ◌*◌, ◌/◌, ◌<◌, ◌≤◌, true, false, leb, ◌⊎◌, List, [], ◌∷◌, ◌++◌, length, Decides, sym, refl, ap, ◌∙◌, subst, inl, inr, ⊎_elim, arith, length-append, le-ltb, lt-ltb, le-leb, leb-true}
use lib.Utf8.{scalar, scalars, next, encode, encodes, low_scalar, scalar_cases}
use Rattle.std.specs.Int.{is_in_range}
use Rattle.std.proofs.lemmas.Bool.{and_parts, and_from, cases_eq, cases_lt, false≢true}
use Rattle.std.proofs.lemmas.Str.{length-encode, len_utf8_bounds, encode_ascii}
use Rattle.std.proofs.lemmas.Bool.Decides.{nat_tests}
use Rattle.encoding.specs.Utf8.{Row, after, refused, row, walks, is_text, Text}

-- ---- the bytes of a character, by its range
two : (c : ℕ) → 128 ≤ c → c < 2048 → encode c ≡ (192 + c / 64) ∷ next c ∷ []
unfolding encode
two c l h = rw (le-ltb c 128 l, lt-ltb c 2048 h) refl

three : (c : ℕ) → 2048 ≤ c → c < 65536 → encode c ≡ (224 + c / 4096) ∷ next (c / 64) ∷ next c ∷ []
unfolding encode
three c l h = rw (le-ltb c 128 (omega arith), le-ltb c 2048 l, lt-ltb c 65536 h) refl

four : (c : ℕ) → 65536 ≤ c → encode c ≡ (240 + c / 262144) ∷ next (c / 4096) ∷ next (c / 64) ∷ next c ∷ []
unfolding encode
four c l = rw (le-ltb c 128 (omega arith), le-ltb c 2048 (omega arith), le-ltb c 65536 l) refl

-- ---- a lead byte and its row
pub data Lead : ℕ → Row → Type 0 where
  ascii : {b : ℕ} → b < 128 → Lead b (after 0 128 191)
  pair : {b : ℕ} → 194 ≤ b → b < 224 → Lead b (after 1 128 191)
  triple_low : {b : ℕ} → b ≡ 224 → Lead b (after 2 160 191)
  triple : {b : ℕ} → 225 ≤ b → b < 240 → (b ≡ 237 → ⊥) → Lead b (after 2 128 191)
  triple_high : {b : ℕ} → b ≡ 237 → Lead b (after 2 128 159)
  quad_low : {b : ℕ} → b ≡ 240 → Lead b (after 3 144 191)
  quad : {b : ℕ} → 241 ≤ b → b < 244 → Lead b (after 3 128 191)
  quad_high : {b : ℕ} → b ≡ 244 → Lead b (after 3 128 143)
  no_lead : {b : ℕ} → 128 ≤ b → (b < 194) ⊎ (245 ≤ b) → Lead b refused

pub row_is : {b : ℕ} {r : Row} → Lead b r → row b ≡ r
row_is (ascii h) = grind (arith, nat_tests)
row_is (pair l h) = grind (arith, nat_tests)
row_is (triple_low e) = ap row e
row_is (triple l h n) = grind (arith, nat_tests)
row_is (triple_high e) = ap row e
row_is (quad_low e) = ap row e
row_is (quad l h) = grind (arith, nat_tests)
row_is (quad_high e) = ap row e
row_is (no_lead l (inl h)) = grind (arith, nat_tests)
row_is (no_lead l (inr h)) = grind (arith, nat_tests)

lead_of : (b : ℕ) → Lead b (row b)
lead_of b = by (cases_lt b 128) (cases_lt b 194) (cases_lt b 224) (cases_lt b 240) (cases_lt b 245)
  where
    at : {r : Row} → Lead b r → Lead b (row b)
    at l = subst (Lead b) (sym (row_is l)) l

    by3 : 224 ≤ b → b < 240 → (b ≡ 224) ⊎ (b ≡ 224 → ⊥) → (b ≡ 237) ⊎ (b ≡ 237 → ⊥) → Lead b (row b)
    by3 l h (inl e) _ = at (triple_low e)
    by3 l h (inr _) (inl e) = at (triple_high e)
    by3 l h (inr m) (inr n) = at (triple (omega arith) h n)

    by4 : 240 ≤ b → b < 245 → (b ≡ 240) ⊎ (b ≡ 240 → ⊥) → (b ≡ 244) ⊎ (b ≡ 244 → ⊥) → Lead b (row b)
    by4 l h (inl e) _ = at (quad_low e)
    by4 l h (inr _) (inl e) = at (quad_high e)
    by4 l h (inr m) (inr n) = at (quad (omega arith) (omega arith))

    by : (b < 128) ⊎ (128 ≤ b) → (b < 194) ⊎ (194 ≤ b) → (b < 224) ⊎ (224 ≤ b) → (b < 240) ⊎ (240 ≤ b) → (b < 245) ⊎ (245 ≤ b) → Lead b (row b)
    by (inl h) _ _ _ _ = at (ascii h)
    by (inr l) (inl h) _ _ _ = at (no_lead l (inl h))
    by (inr _) (inr l) (inl h) _ _ = at (pair l h)
    by (inr _) (inr _) (inr l) (inl h) _ = by3 l h (cases_eq b 224) (cases_eq b 237)
    by (inr _) (inr _) (inr _) (inr l) (inl h) = by4 l h (cases_eq b 240) (cases_eq b 244)
    by (inr l) (inr _) (inr _) (inr _) (inr h) = at (no_lead l (inr h))

-- ---- a walk
in_range : (low high b : ℕ) → is_in_range low high b ≡ true → (low ≤ b) × (b ≤ high)
in_range low high b e = let p = and_parts (leb low b) (leb b high) e in (leb-true low b p.0, leb-true b high p.1)

pub range_in : (low high b : ℕ) → low ≤ b → b ≤ high → is_in_range low high b ≡ true
range_in low high b l h = rw (le-leb low b l, le-leb b high h) refl

pub walks_lead : {b n low high : ℕ} (s : List ℕ) → Lead b (after n low high) → is_text (b ∷ s) ≡ walks n low high s
unfolding is_text
walks_lead s l = ap (λ r. elim r [ after n low high ↦ walks n low high s | refused ↦ false ]) (row_is l)

-- a walk that passes over xs comes to nothing due, and goes on so
walks_on : (xs ys : List ℕ) (n low high : ℕ) → walks n low high xs ≡ true → walks n low high (xs ++ ys) ≡ is_text ys
unfolding is_text
walks_on [] [] zero low high e = refl
walks_on [] (b ∷ ys) zero low high e = refl
walks_on [] ys (suc n) low high e = absurd (false≢true e)
walks_on (x ∷ xs) ys zero low high e = by (row x) (λ n l h. walks_on xs ys n l h) e
  where
    by : (r : Row) → ((n l h : ℕ) → walks n l h xs ≡ true → walks n l h (xs ++ ys) ≡ is_text ys) → (elim r [ after n l h ↦ walks n l h xs | refused ↦ false ]) ≡ true → (elim r [ after n l h ↦ walks n l h (xs ++ ys) | refused ↦ false ]) ≡ is_text ys
    by (after n l h) on e = on n l h e
    by refused on e = absurd (false≢true e)
walks_on (x ∷ xs) ys (suc n) low high e =
    let p = and_parts (is_in_range low high x) (walks n 128 191 xs) e in
    rw p.0 (walks_on xs ys n 128 191 p.1)

-- bytes after a text are text where the whole is
pub text_append : (xs ys : List ℕ) → is_text xs ≡ true → is_text (xs ++ ys) ≡ is_text ys
unfolding is_text
text_append xs ys e = walks_on xs ys 0 128 191 e

-- ---- the bytes of a character are text
one_more : (n low high x : ℕ) (s : List ℕ) → low ≤ x → x ≤ high → walks n 128 191 s ≡ true → walks (suc n) low high (x ∷ s) ≡ true
one_more n low high x s l h e = rw (range_in low high x l h) e

of_two : {b low high : ℕ} (x : ℕ) → Lead b (after 1 low high) → low ≤ x → x ≤ high → is_text (b ∷ x ∷ []) ≡ true
of_two x is l h = walks_lead _ is ∙ one_more 0 _ _ x [] l h refl

of_three : {b low high : ℕ} (x y : ℕ) → Lead b (after 2 low high) → low ≤ x → x ≤ high → 128 ≤ y → y ≤ 191 → is_text (b ∷ x ∷ y ∷ []) ≡ true
of_three x y is l h m k = walks_lead _ is ∙ one_more 1 _ _ x (y ∷ []) l h (one_more 0 128 191 y [] m k refl)

of_four : {b low high : ℕ} (x y z : ℕ) → Lead b (after 3 low high) → low ≤ x → x ≤ high → 128 ≤ y → y ≤ 191 → 128 ≤ z → z ≤ 191 → is_text (b ∷ x ∷ y ∷ z ∷ []) ≡ true
of_four x y z is l h m k n o = walks_lead _ is ∙ one_more 2 _ _ x (y ∷ z ∷ []) l h (one_more 1 128 191 y (z ∷ []) m k (one_more 0 128 191 z [] n o refl))

pub text_encode : (c : ℕ) → scalar c ≡ true → is_text (encode c) ≡ true
text_encode c is = by (cases_lt c 128) (cases_lt c 2048) (cases_lt c 65536) (scalar_cases c is)
  where
    by3 : 2048 ≤ c → c < 65536 → (c < 55296) ⊎ ((57344 ≤ c) × (c < 1114112)) → (224 + c / 4096 ≡ 224) ⊎ (224 + c / 4096 ≡ 224 → ⊥) → (224 + c / 4096 ≡ 237) ⊎ (224 + c / 4096 ≡ 237 → ⊥) → is_text ((224 + c / 4096) ∷ next (c / 64) ∷ next c ∷ []) ≡ true
    by3 g l u (inl e) _ = of_three (next (c / 64)) (next c) (triple_low e) (omega arith) (omega arith) (omega arith) (omega arith)
    by3 g l u (inr _) (inl e) = of_three (next (c / 64)) (next c) (triple_high e) (omega arith) (⊎_elim (λ v. omega arith) (λ v. absurd (omega arith)) u) (omega arith) (omega arith)
    by3 g l u (inr m) (inr n) = of_three (next (c / 64)) (next c) (triple (omega arith) (omega arith) n) (omega arith) (omega arith) (omega arith) (omega arith)

    by4 : 65536 ≤ c → c < 1114112 → (240 + c / 262144 ≡ 240) ⊎ (240 + c / 262144 ≡ 240 → ⊥) → (240 + c / 262144 ≡ 244) ⊎ (240 + c / 262144 ≡ 244 → ⊥) → is_text ((240 + c / 262144) ∷ next (c / 4096) ∷ next (c / 64) ∷ next c ∷ []) ≡ true
    by4 g l (inl e) _ = of_four (next (c / 4096)) (next (c / 64)) (next c) (quad_low e) (omega arith) (omega arith) (omega arith) (omega arith) (omega arith) (omega arith)
    by4 g l (inr _) (inl e) = of_four (next (c / 4096)) (next (c / 64)) (next c) (quad_high e) (omega arith) (omega arith) (omega arith) (omega arith) (omega arith) (omega arith)
    by4 g l (inr m) (inr n) = of_four (next (c / 4096)) (next (c / 64)) (next c) (quad (omega arith) (omega arith)) (omega arith) (omega arith) (omega arith) (omega arith) (omega arith) (omega arith)

    by : (c < 128) ⊎ (128 ≤ c) → (c < 2048) ⊎ (2048 ≤ c) → (c < 65536) ⊎ (65536 ≤ c) → (c < 55296) ⊎ ((57344 ≤ c) × (c < 1114112)) → is_text (encode c) ≡ true
    by (inl l) _ _ _ = ap is_text (encode_ascii c l) ∙ walks_lead [] (ascii l)
    by (inr g) (inl l) _ _ = ap is_text (two c g l) ∙ of_two (next c) (pair (omega arith) (omega arith)) (omega arith) (omega arith)
    by (inr _) (inr g) (inl l) u = ap is_text (three c g l) ∙ by3 g l u (cases_eq _ 224) (cases_eq _ 237)
    by (inr _) (inr _) (inr g) u = ap is_text (four c g) ∙ by4 g (⊎_elim (λ v. omega arith) (λ v. v.1) u) (cases_eq _ 240) (cases_eq _ 244)

-- ---- a text begins with the bytes of a character
pub Starts : List ℕ → Type 0
Starts s = (c : ℕ) × (t : List ℕ) × (scalar c ≡ true) × (s ≡ encode c ++ t)

high_scalar : (c : ℕ) → 57344 ≤ c → c < 1114112 → scalar c ≡ true
high_scalar c l h = rw (le-ltb c 55296 (omega arith), le-leb 57344 c l, lt-ltb c 1114112 h) refl

abbrev of3 : ℕ → ℕ → ℕ → ℕ
of3 b x y = (b - 224) * 4096 + (x - 128) * 64 + (y - 128)

abbrev of4 : ℕ → ℕ → ℕ → ℕ → ℕ
of4 b x y z = (b - 240) * 262144 + (x - 128) * 4096 + (y - 128) * 64 + (z - 128)

two_bytes : (b x : ℕ) (t : List ℕ) → 194 ≤ b → b < 224 → 128 ≤ x → x ≤ 191 → Starts (b ∷ x ∷ t)
unfolding Starts
two_bytes b x t l h m k =
    let c : ℕ = (b - 192) * 64 + (x - 128) in
    let e0 : 192 + c / 64 ≡ b = omega arith in
    let e1 : next c ≡ x = omega arith in
    (c, t, low_scalar c (omega arith), sym (ap (λ f. f ++ t) (two c (omega arith) (omega arith)) ∙ (λ i. e0 i ∷ e1 i ∷ t)))

three_bytes : (b x y : ℕ) (t : List ℕ) → 224 ≤ b → b < 240 → 128 ≤ x → x ≤ 191 → 128 ≤ y → y ≤ 191 → 2048 ≤ of3 b x y → scalar (of3 b x y) ≡ true → Starts (b ∷ x ∷ y ∷ t)
unfolding Starts
three_bytes b x y t l h m k n o least is =
    let c : ℕ = of3 b x y in
    let e0 : 224 + c / 4096 ≡ b = omega arith in
    let e1 : next (c / 64) ≡ x = omega arith in
    let e2 : next c ≡ y = omega arith in
    (c, t, is, sym (ap (λ f. f ++ t) (three c least (omega arith)) ∙ (λ i. e0 i ∷ e1 i ∷ e2 i ∷ t)))

four_bytes : (b x y z : ℕ) (t : List ℕ) → 240 ≤ b → 128 ≤ x → x ≤ 191 → 128 ≤ y → y ≤ 191 → 128 ≤ z → z ≤ 191 → 65536 ≤ of4 b x y z → of4 b x y z < 1114112 → Starts (b ∷ x ∷ y ∷ z ∷ t)
unfolding Starts
four_bytes b x y z t l m k n o p q least most =
    let c : ℕ = of4 b x y z in
    let e0 : 240 + c / 262144 ≡ b = omega arith in
    let e1 : next (c / 4096) ≡ x = omega arith in
    let e2 : next (c / 64) ≡ y = omega arith in
    let e3 : next c ≡ z = omega arith in
    (c, t, high_scalar c (omega arith) most, sym (ap (λ f. f ++ t) (four c least) ∙ (λ i. e0 i ∷ e1 i ∷ e2 i ∷ e3 i ∷ t)))

-- the first of the bytes that are due, and the walk after it
record Due (n low high : ℕ) (s : List ℕ) : Type 0 where
  pub x : ℕ
  pub rest : List ℕ
  pub is : s ≡ x ∷ rest
  pub low_x : low ≤ x
  pub x_high : x ≤ high
  pub on : walks n 128 191 rest ≡ true

next_due : (n low high : ℕ) (s : List ℕ) → walks (suc n) low high s ≡ true → Due n low high s
next_due n low high [] e = absurd (false≢true e)
next_due n low high (b ∷ s) e =
    let p = and_parts (is_in_range low high b) (walks n 128 191 s) e in
    let q = in_range low high b p.0 in
    record { x = b; rest = s; is = refl; low_x = q.0; x_high = q.1; on = p.1 }

two_due : (b low high : ℕ) (s : List ℕ) → walks 2 low high s ≡ true → ((x y : ℕ) (t : List ℕ) → low ≤ x → x ≤ high → 128 ≤ y → y ≤ 191 → Starts (b ∷ x ∷ y ∷ t)) → Starts (b ∷ s)
two_due b low high s e k =
    let f = next_due 1 low high s e in
    let g = next_due 0 128 191 f.rest f.on in
    subst (λ l. Starts (b ∷ l)) (sym (f.is ∙ ap (λ l. f.x ∷ l) g.is)) (k f.x g.x g.rest f.low_x f.x_high g.low_x g.x_high)

three_due : (b low high : ℕ) (s : List ℕ) → walks 3 low high s ≡ true → ((x y z : ℕ) (t : List ℕ) → low ≤ x → x ≤ high → 128 ≤ y → y ≤ 191 → 128 ≤ z → z ≤ 191 → Starts (b ∷ x ∷ y ∷ z ∷ t)) → Starts (b ∷ s)
three_due b low high s e k =
    let f = next_due 2 low high s e in
    let g = next_due 1 128 191 f.rest f.on in
    let h = next_due 0 128 191 g.rest g.on in
    subst (λ l. Starts (b ∷ l)) (sym (f.is ∙ ap (λ l. f.x ∷ l) (g.is ∙ ap (λ l. g.x ∷ l) h.is))) (k f.x g.x h.x h.rest f.low_x f.x_high g.low_x g.x_high h.low_x h.x_high)

starts : {b : ℕ} {r : Row} (s : List ℕ) → Lead b r → (elim r [ after n l h ↦ walks n l h s | refused ↦ false ]) ≡ true → Starts (b ∷ s)
unfolding Starts
starts {b} s (ascii h) e = (b, s, low_scalar b (omega arith), sym (ap (λ f. f ++ s) (encode_ascii b h)))
starts {b} s (pair l h) e =
    let f = next_due 0 128 191 s e in
    subst (λ u. Starts (b ∷ u)) (sym f.is) (two_bytes b f.x f.rest l h f.low_x f.x_high)
starts {b} s (triple_low i) e = two_due b 160 191 s e (λ x y t l h m k. three_bytes b x y t (omega arith) (omega arith) (omega arith) h m k (omega arith) (low_scalar (of3 b x y) (omega arith)))
starts {b} s (triple p q ne) e = two_due b 128 191 s e (λ x y t l h m k. three_bytes b x y t (omega arith) q l h m k (omega arith) (⊎_elim (λ v. low_scalar (of3 b x y) (omega arith)) (λ v. high_scalar (of3 b x y) (omega arith) (omega arith)) (cases_lt b 237)))
starts {b} s (triple_high i) e = two_due b 128 159 s e (λ x y t l h m k. three_bytes b x y t (omega arith) (omega arith) l (omega arith) m k (omega arith) (low_scalar (of3 b x y) (omega arith)))
starts {b} s (quad_low i) e = three_due b 144 191 s e (λ x y z t l h m k n o. four_bytes b x y z t (omega arith) (omega arith) h m k n o (omega arith) (omega arith))
starts {b} s (quad p q) e = three_due b 128 191 s e (λ x y z t l h m k n o. four_bytes b x y z t (omega arith) l h m k n o (omega arith) (omega arith))
starts {b} s (quad_high i) e = three_due b 128 143 s e (λ x y z t l h m k n o. four_bytes b x y z t (omega arith) l (omega arith) m k n o (omega arith) (omega arith))
starts s (no_lead p o) e = absurd (false≢true e)

pub text_starts : (b : ℕ) (s : List ℕ) → is_text (b ∷ s) ≡ true → Starts (b ∷ s)
unfolding is_text
text_starts b s e = starts s (lead_of b) e

-- ---- the test decides whether the bytes are UTF-8
past : (c : ℕ) (s t : List ℕ) → scalar c ≡ true → s ≡ encode c ++ t → is_text s ≡ is_text t
past c s t is e = ap is_text e ∙ text_append (encode c) t (text_encode c is)

spelt : (n : ℕ) (s : List ℕ) → length s ≤ n → is_text s ≡ true → Text s
unfolding Starts
spelt n [] l e = ([], (refl, refl))
spelt zero (b ∷ s) l e = absurd (omega arith)
spelt (suc n) (b ∷ s) l e =
    let h = text_starts b s e in
    let w = len_utf8_bounds h.0 in
    let m : length h.1 ≤ n = omega (arith, simp length-append at (ap length h.3), length-encode h.0) in
    let u = spelt n h.1 m (sym (past h.0 (b ∷ s) h.1 h.2 h.3) ∙ e) in
    (h.0 ∷ u.0, (and_from (scalar h.0) (scalars u.0) h.2 u.1.0, ap (λ l. encode h.0 ++ l) u.1.1 ∙ sym h.3))

text_encodes : (cs : List ℕ) → scalars cs ≡ true → is_text (encodes cs) ≡ true
unfolding is_text
text_encodes [] is = refl
text_encodes (c ∷ cs) is =
    let p = and_parts (scalar c) (scalars cs) is in
    past c (encodes (c ∷ cs)) (encodes cs) p.0 refl ∙ text_encodes cs p.1

pub text_decides : (s : List ℕ) → Decides (is_text s) (Text s)
text_decides s = (spelt (length s) s (omega arith), λ u. ap is_text (sym u.1.1) ∙ text_encodes u.0 u.1.0)
