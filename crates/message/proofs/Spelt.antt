-- Messages as they are spelt, beside messages as they are read.
use Rattle.std.proofs.Common.{◌≡◌, ℕ, ◌-◌, ◌^◌, ◌<◌, ◌≤◌, List, [], ◌++◌, Ok, sym, refl, ap, ◌∙◌, subst, ⊎_elim, append_assoc, arith, ne_eqb}
use Rattle.std.proofs.lemmas.Bool.{cases_eq}
use Rattle.encoding.specs.Fields.{buffer, text}
use Rattle.encoding.specs.Reading.{Reading, thence, named}
use Rattle.encoding.specs.Spelling.{Exactly, NumberIs, BufferIs, TextIs}
use Rattle.encoding.proofs.Exacts.{ok_is, came, named_came, exact_number, exact_buffer, exact_text}
use Rattle.message.specs.Message.{Said, step1, step2, update, awareness, denied, granted, query, custom, byte_wide, kinded, sync, flagged, auth, body, message}
use Rattle.message.specs.Spelling.{Tagged, MessageIs, step1_is, step2_is, update_is, awareness_is, denied_is, granted_is, query_is, custom_is}

wide : Exactly byte_wide (NumberIs (2 ^ 8 - 1))
wide = exact_number (2 ^ 8 - 1)

-- ---- what is spelt is taken
-- a number in front is read, and then what follows it
tagged_taken : {Y : Type 0} (k : ℕ → List ℕ → Reading Y) (n : ℕ) (Body : List ℕ → Type 0) (bs rest : List ℕ) (y : Y) → Tagged n Body bs → ((b : List ℕ) → Body b → k n (b ++ rest) ≡ Ok (y, rest)) → thence (byte_wide (bs ++ rest)) k ≡ Ok (y, rest)
tagged_taken k n Body bs rest y (t, b, e, h, body) then =
    ap (λ l. thence (byte_wide (l ++ rest)) k) e ∙ ap (λ l. thence (byte_wide l) k) (append_assoc t b rest) ∙ ap (λ r. thence r k) (wide.spelt_is_taken n t (b ++ rest) h) ∙ then b body

buffer_taken : {Y : Type 0} (f : List ℕ → Y) (part b rest : List ℕ) → BufferIs part b → named f (buffer (b ++ rest)) ≡ Ok (f part, rest)
buffer_taken f part b rest h = ap (named f) (exact_buffer.spelt_is_taken part b rest h)

text_taken : {Y : Type 0} (f : List ℕ → Y) (part b rest : List ℕ) → TextIs part b → named f (text (b ++ rest)) ≡ Ok (f part, rest)
text_taken f part b rest h = ap (named f) (exact_text.spelt_is_taken part b rest h)

-- a tag from 4 on is none of the others
custom_body : (tag : ℕ) (s : List ℕ) → 4 ≤ tag → body tag s ≡ named (custom tag) (buffer s)
custom_body tag s h = rw (ne_eqb tag 0 (λ e. omega arith), ne_eqb tag 1 (λ e. omega arith), ne_eqb tag 2 (λ e. omega arith), ne_eqb tag 3 (λ e. omega arith)) refl

granted_after : (flag : ℕ) (s : List ℕ) → 0 < flag → flagged flag s ≡ Ok (granted, s)
granted_after flag s h = rw (ne_eqb flag 0 (λ e. omega arith)) refl

spelt_taken : (m : Said) (bs rest : List ℕ) → MessageIs m bs → message (bs ++ rest) ≡ Ok (m, rest)
unfolding message
spelt_taken (step1 part) bs rest (step1_is h) = tagged_taken body 0 _ bs rest (step1 part) h (λ b k. tagged_taken kinded 0 _ b rest (step1 part) k (λ c u. buffer_taken step1 part c rest u))
spelt_taken (step2 part) bs rest (step2_is h) = tagged_taken body 0 _ bs rest (step2 part) h (λ b k. tagged_taken kinded 1 _ b rest (step2 part) k (λ c u. buffer_taken step2 part c rest u))
spelt_taken (update part) bs rest (update_is h) = tagged_taken body 0 _ bs rest (update part) h (λ b k. tagged_taken kinded 2 _ b rest (update part) k (λ c u. buffer_taken update part c rest u))
spelt_taken (awareness part) bs rest (awareness_is h) = tagged_taken body 1 _ bs rest (awareness part) h (λ b k. buffer_taken awareness part b rest k)
spelt_taken (denied reason) bs rest (denied_is h) = tagged_taken body 2 _ bs rest (denied reason) h (λ b k. tagged_taken flagged 0 _ b rest (denied reason) k (λ c u. text_taken denied reason c rest u))
spelt_taken granted bs rest (granted_is flag f h) = tagged_taken body 2 _ bs rest granted h (λ b k. ap (λ r. thence r flagged) (wide.spelt_is_taken flag b rest k) ∙ granted_after flag rest f)
spelt_taken query bs rest (query_is h) = tagged_taken body 3 _ bs rest query h (λ b k. ap (λ l. Ok (query, l ++ rest)) k)
spelt_taken (custom tag part) bs rest (custom_is f h) = tagged_taken body tag _ bs rest (custom tag part) h (λ b k. custom_body tag (b ++ rest) f ∙ buffer_taken (custom tag) part b rest k)

-- ---- what is taken is spelt
-- a number in front, and what follows it
abbrev Led : (k : ℕ → List ℕ → Reading Said) → List ℕ → Said → List ℕ → Type 0
Led k s m rest = (n : ℕ) × (tag : List ℕ) × (mid : List ℕ) × (s ≡ tag ++ mid) × NumberIs (2 ^ 8 - 1) n tag × (k n mid ≡ Ok (m, rest))

led : (k : ℕ → List ℕ → Reading Said) (s rest : List ℕ) (m : Said) → thence (byte_wide s) k ≡ Ok (m, rest) → Led k s m rest
led k s rest m e =
    let c = came byte_wide k s m rest (byte_wide s) refl e in
    let a = wide.taken_is_spelt s c.0 c.1 c.2 in
    (c.0, a.0, c.1, a.1, a.2, c.3)

-- the bytes of a body that begin s, and the message that they spell after a tag
abbrev Front : (List ℕ → Type 0) → List ℕ → List ℕ → Type 0
Front Body s rest = (bs : List ℕ) × (s ≡ bs ++ rest) × Body bs

tagged : (n : ℕ) (tag mid s rest : List ℕ) (Body : List ℕ → Type 0) → s ≡ tag ++ mid → NumberIs (2 ^ 8 - 1) n tag → Front Body mid rest → Front (Tagged n Body) s rest
tagged n tag mid s rest Body e h (bs, i, b) = (tag ++ bs, e ∙ ap (λ l. tag ++ l) i ∙ sym (append_assoc tag bs rest), (tag, bs, refl, h, b))

-- a part that was read under a name
part_of : {Y : Type 0} (f : List ℕ → Y) (s rest : List ℕ) (y : Y) → named f (buffer s) ≡ Ok (y, rest) → (part : List ℕ) × Front (BufferIs part) s rest × (f part ≡ y)
part_of f s rest y e = let c = named_came f buffer s y rest (buffer s) refl e in (c.0, exact_buffer.taken_is_spelt s c.0 rest c.1, c.2)

reason_of : (s rest : List ℕ) (m : Said) → named denied (text s) ≡ Ok (m, rest) → (reason : List ℕ) × Front (TextIs reason) s rest × (denied reason ≡ m)
reason_of s rest m e = let c = named_came denied text s m rest (text s) refl e in (c.0, exact_text.taken_is_spelt s c.0 rest c.1, c.2)

-- a spelt message that begins s
abbrev Begun : List ℕ → List ℕ → Said → Type 0
Begun s rest m = Front (MessageIs m) s rest

begun : (s rest : List ℕ) (m said : Said) (Body : List ℕ → Type 0) → said ≡ m → ((bs : List ℕ) → Body bs → MessageIs said bs) → Front Body s rest → Begun s rest m
begun s rest m said Body e is (bs, i, b) = (bs, i, subst (λ x. MessageIs x bs) e (is bs b))

sync_taken : (s mid rest : List ℕ) (m : Said) (tag : List ℕ) → s ≡ tag ++ mid → NumberIs (2 ^ 8 - 1) 0 tag → sync mid ≡ Ok (m, rest) → Begun s rest m
sync_taken s mid rest m tag e h r = by (led kinded mid rest m r)
  where
    by : Led kinded mid m rest → Begun s rest m
    by (n, u, after, i, k, q) =
        ⊎_elim
        (λ z. let p = part_of step1 after rest m (subst (λ j. kinded j after ≡ Ok (m, rest)) z q) in begun s rest m (step1 p.0) _ p.2 (λ bs b. step1_is b) (tagged 0 tag mid s rest _ e h (tagged 0 u after mid rest _ i (subst (λ j. NumberIs (2 ^ 8 - 1) j u) z k) p.1)))
        (λ n0. ⊎_elim
        (λ z. let p = part_of step2 after rest m (subst (λ j. kinded j after ≡ Ok (m, rest)) z q) in begun s rest m (step2 p.0) _ p.2 (λ bs b. step2_is b) (tagged 0 tag mid s rest _ e h (tagged 1 u after mid rest _ i (subst (λ j. NumberIs (2 ^ 8 - 1) j u) z k) p.1)))
        (λ n1. ⊎_elim
        (λ z. let p = part_of update after rest m (subst (λ j. kinded j after ≡ Ok (m, rest)) z q) in begun s rest m (update p.0) _ p.2 (λ bs b. update_is b) (tagged 0 tag mid s rest _ e h (tagged 2 u after mid rest _ i (subst (λ j. NumberIs (2 ^ 8 - 1) j u) z k) p.1)))
        (λ n2. let e = rw (ne_eqb n 0 n0, ne_eqb n 1 n1, ne_eqb n 2 n2) at q in cc)
        (cases_eq n 2)) (cases_eq n 1)) (cases_eq n 0)

auth_taken : (s mid rest : List ℕ) (m : Said) (tag : List ℕ) → s ≡ tag ++ mid → NumberIs (2 ^ 8 - 1) 2 tag → auth mid ≡ Ok (m, rest) → Begun s rest m
auth_taken s mid rest m tag e h r = by (led flagged mid rest m r)
  where
    by : Led flagged mid m rest → Begun s rest m
    by (n, u, after, i, k, q) =
        ⊎_elim
        (λ z. let p = reason_of after rest m (subst (λ j. flagged j after ≡ Ok (m, rest)) z q) in begun s rest m (denied p.0) _ p.2 (λ bs b. denied_is b) (tagged 2 tag mid s rest _ e h (tagged 0 u after mid rest _ i (subst (λ j. NumberIs (2 ^ 8 - 1) j u) z k) p.1)))
        (λ n0. let z = ok_is (rw (ne_eqb n 0 n0) at q) in begun s rest m granted _ z.0 (λ bs b. granted_is n (omega arith) b) (tagged 2 tag mid s rest _ e h (u, i ∙ ap (λ l. u ++ l) z.1, k)))
        (cases_eq n 0)

body_taken : (n : ℕ) (s mid rest : List ℕ) (m : Said) (tag : List ℕ) → s ≡ tag ++ mid → NumberIs (2 ^ 8 - 1) n tag → body n mid ≡ Ok (m, rest) → Begun s rest m
body_taken n s mid rest m tag e h q =
    ⊎_elim
    (λ z. sync_taken s mid rest m tag e (subst (λ j. NumberIs (2 ^ 8 - 1) j tag) z h) (subst (λ j. body j mid ≡ Ok (m, rest)) z q))
    (λ n0. ⊎_elim
    (λ z. let p = part_of awareness mid rest m (subst (λ j. body j mid ≡ Ok (m, rest)) z q) in begun s rest m (awareness p.0) _ p.2 (λ bs b. awareness_is b) (tagged 1 tag mid s rest _ e (subst (λ j. NumberIs (2 ^ 8 - 1) j tag) z h) p.1))
    (λ n1. ⊎_elim
    (λ z. auth_taken s mid rest m tag e (subst (λ j. NumberIs (2 ^ 8 - 1) j tag) z h) (subst (λ j. body j mid ≡ Ok (m, rest)) z q))
    (λ n2. ⊎_elim
    (λ z. let y = ok_is (subst (λ j. body j mid ≡ Ok (m, rest)) z q) in begun s rest m query _ y.0 (λ bs b. query_is b) (tagged 3 tag mid s rest _ e (subst (λ j. NumberIs (2 ^ 8 - 1) j tag) z h) ([], y.1, refl)))
    (λ n3. let four : 4 ≤ n = omega arith in let p = part_of (custom n) mid rest m (sym (custom_body n mid four) ∙ q) in begun s rest m (custom n p.0) _ p.2 (λ bs b. custom_is four b) (tagged n tag mid s rest _ e h p.1))
    (cases_eq n 3)) (cases_eq n 2)) (cases_eq n 1)) (cases_eq n 0)

pub exact_message : Exactly message MessageIs
unfolding message
exact_message = record {
  taken_is_spelt = λ s m rest e. let l = led body s rest m e in body_taken l.0 s l.2 rest m l.1 l.3 l.4 l.5;
  spelt_is_taken = spelt_taken;
}
