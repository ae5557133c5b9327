-- What buffers hold, as it is spelt, beside what is read of it.
use Rattle.std.proofs.Common.{◌≡◌, ℕ, ◌-◌, ◌^◌, ◌<◌, Bool, true, false, cond, List, [], ◌∷◌, ◌++◌, length, Some, None, Ok, Err, codes, Option, Result, sym, refl, ap, ◌∙◌, subst, arith, length-append}
use Rattle.std.specs.Str.{bytes_eq}
use Rattle.std.proofs.lemmas.Slice.Eq.{bytes_eq-Decides}
use Rattle.encoding.specs.declared.fault.WireFault.{WireFault}
use Rattle.encoding.specs.Entries.{verdict}
use Rattle.encoding.specs.Fields.{client_id_in, presence_text_in}
use Rattle.encoding.specs.Reading.{Reading, thence, named}
use Rattle.encoding.specs.Spelling.{Exactly, NumberIs, ClientIs, PresenceTextIs}
use Rattle.encoding.specs.VarUint.{var_uint}
use Rattle.encoding.proofs.Exacts.{Then, exact_thence, exact_named, exact_as, exact_number, exact_client_id, exact_presence_text, exact_counted}
use Rattle.state_vector.specs.Spelling.{VectorIs}
use Rattle.state_vector.specs.Vector.{vector_entries}
use Rattle.state_vector.proofs.Spelt.{exact_vector}
use Rattle.message.specs.Message.{Said, step1, step2, update, awareness, denied, granted, query, custom, message, contents}
use Rattle.message.specs.Messages.{whole, refused, cut, next, found, judged}
use Rattle.message.specs.Owned.{state_text}
use Rattle.message.specs.Presence.{Entry, state_of, presence_entry, presence}
use Rattle.message.specs.Spelling.{Tagged, MessageIs, step1_is, step2_is, update_is, awareness_is, denied_is, granted_is, query_is, custom_is, Shows, PresenceEntryIs, PresenceIs, Holds, MessagesAreAsSpelt}
use Rattle.message.proofs.Spelt.{exact_message}

-- what a text shows is what its state says
pub shown : (bs : List ℕ) → Shows bs (state_of bs)
shown bs = by (bytes_eq bs (codes "null")) refl
  where
    by : (b : Bool) → bytes_eq bs (codes "null") ≡ b → Shows bs (cond b None (Some bs))
    by true e = (bytes_eq-Decides bs (codes "null")).0 e
    by false e = (refl, λ i. cc ((bytes_eq-Decides bs (codes "null")).1 i, e))

-- and the text that says it is that text
pub state_says : (bs : List ℕ) → state_text (state_of bs) ≡ bs
state_says bs = by (bytes_eq bs (codes "null")) refl
  where
    by : (b : Bool) → bytes_eq bs (codes "null") ≡ b → state_text (cond b None (Some bs)) ≡ bs
    by true e = sym ((bytes_eq-Decides bs (codes "null")).0 e)
    by false e = refl

state_is_lem : (bs : List ℕ) (s : Option (List ℕ)) → Shows bs s → state_of bs ≡ s
state_is_lem bs None h = rw ((bytes_eq-Decides bs (codes "null")).1 h) refl
state_is_lem bs (Some shown) h = by (bytes_eq bs (codes "null")) refl
  where
    by : (b : Bool) → bytes_eq bs (codes "null") ≡ b → cond b None (Some bs) ≡ Some shown
    by true e = absurd (h.1 ((bytes_eq-Decides bs (codes "null")).0 e))
    by false e = ap Some h.0

abbrev made : ℕ → ℕ → List ℕ → Entry
made id n bs = record { client = id; clock = n; state = state_of bs }

abbrev Clocked : ℕ → Entry → List ℕ → Type 0
Clocked id = Then (NumberIs (2 ^ 32 - 1)) (λ n y c. (text : List ℕ) × (made id n text ≡ y) × PresenceTextIs text c)

clocked : (id : ℕ) → Exactly (λ s. thence (var_uint (2 ^ 32 - 1) s) (λ n after. named (made id n) (presence_text_in after))) (Clocked id)
clocked id = exact_thence (var_uint (2 ^ 32 - 1)) (λ n after. named (made id n) (presence_text_in after)) (exact_number (2 ^ 32 - 1)) (λ n. exact_named (made id n) presence_text_in exact_presence_text)

pub exact_presence_entry : Exactly presence_entry PresenceEntryIs
exact_presence_entry = exact_as (exact_thence client_id_in (λ id s. thence (var_uint (2 ^ 32 - 1) s) (λ n after. named (made id n) (presence_text_in after))) exact_client_id clocked) there back
  where
    there : (e : Entry) (bs : List ℕ) → Then ClientIs Clocked e bs → PresenceEntryIs e bs
    there e bs (id, a, d, i, h, (n, b, c, j, k, (text, q, t))) = subst (λ x. PresenceEntryIs x bs) q (a, b, c, text, i ∙ ap (λ l. a ++ l) j, h, k, t, shown text)

    back : (e : Entry) (bs : List ℕ) → PresenceEntryIs e bs → Then ClientIs Clocked e bs
    back e bs (a, b, c, text, i, h, k, t, s) = (e.client, a, b ++ c, i, h, (e.clock, b, c, refl, k, (text, ap (λ x. record { client = e.client; clock = e.clock; state = x }) (state_is_lem text e.state s), t)))

pub exact_presence : Exactly presence PresenceIs
unfolding presence
exact_presence = exact_counted 64 presence_entry PresenceEntryIs exact_presence_entry

-- a verdict that passes, by what was read
module _ {X : Type 0} (r : List ℕ → Reading X) (Is : X → List ℕ → Type 0) (h : Exactly r Is) where
  abbrev Held : List ℕ → Type 0
  Held part = (x : X) × (bs : List ℕ) × (rest : List ℕ) × (part ≡ bs ++ rest) × Is x bs

  read_held : (part : List ℕ) (v : Reading X) → r part ≡ v → verdict v ≡ Ok tt → Held part
  read_held part (Ok p) e j = let a = h.taken_is_spelt part p.0 p.1 e in (p.0, a.0, p.1, a.1, a.2)
  read_held part (Err f) e j = cc

  pub held : (part : List ℕ) → verdict (r part) ≡ Ok tt → Held part
  held part j = read_held part (r part) refl j

  pub held_passes : (part : List ℕ) → Held part → verdict (r part) ≡ Ok tt
  held_passes part (x, bs, rest, e, is) = ap (λ l. verdict (r l)) e ∙ ap verdict (h.spelt_is_taken x bs rest is)

holds : (m : Said) → contents m ≡ Ok tt → Holds m
holds (step1 part) e = held vector_entries VectorIs exact_vector part e
holds (awareness part) e = held presence PresenceIs exact_presence part e
holds (step2 part) e = tt
holds (update part) e = tt
holds (denied reason) e = tt
holds granted e = tt
holds query e = tt
holds (custom tag part) e = tt

passes : (m : Said) → Holds m → contents m ≡ Ok tt
passes (step1 part) h = held_passes vector_entries VectorIs exact_vector part h
passes (awareness part) h = held_passes presence PresenceIs exact_presence part h
passes (step2 part) h = refl
passes (update part) h = refl
passes (denied reason) h = refl
passes granted h = refl
passes query h = refl
passes (custom tag part) h = refl

-- a whole message at the front, by its two readings
whole_judged : (v : Result (Unit {0}) WireFault) (m n : Said) (r rest : List ℕ) → judged v m r ≡ whole n rest → (v ≡ Ok tt) × (m ≡ n) × (r ≡ rest)
whole_judged (Ok tt) m n r rest e = (refl, (cc), (cc))
whole_judged (Err f) m n r rest e = cc

stopped : (b : Bool) (f : WireFault) (m : Said) (rest : List ℕ) → cond b cut (refused f) ≡ whole m rest → ⊥
stopped true f m rest e = cc
stopped false f m rest e = cc

pub record Taken (s rest : List ℕ) (m : Said) : Type 0 where
  pub reads : message s ≡ Ok (m, rest)
  pub held : contents m ≡ Ok tt

taken_by : (s rest : List ℕ) (m : Said) (v : Reading Said) → message s ≡ v → found v ≡ whole m rest → Taken s rest m
taken_by s rest m (Ok p) e h =
    let w = whole_judged (contents p.0) p.0 m p.1 rest h in
    record { reads = e ∙ ap (λ x. Ok (x, p.1)) w.1 ∙ ap (λ l. Ok (m, l)) w.2; held = ap contents (sym w.1) ∙ w.0 }
taken_by s rest m (Err f) e h = absurd (stopped _ f m rest h)

pub taken : (s rest : List ℕ) (m : Said) → next s ≡ whole m rest → Taken s rest m
taken [] rest m h = cc
taken (b ∷ s) rest m h = taken_by (b ∷ s) rest m (message (b ∷ s)) refl h

-- what stands at the front of bytes that are not empty
next_of : (s : List ℕ) → 0 < length s → next s ≡ found (message s)
next_of [] h = absurd (omega arith)
next_of (b ∷ bs) h = refl

-- a message takes a byte at least
tagged_some : {n : ℕ} {Body : List ℕ → Type 0} (bs : List ℕ) → Tagged n Body bs → 0 < length bs
tagged_some bs (t, b, e, h, body) = omega (arith, ap length e, length-append t b, ap length h.0.is, length-append h.0.front (h.0.last ∷ []))

pub spelt_some : (m : Said) (bs : List ℕ) → MessageIs m bs → 0 < length bs
spelt_some (step1 part) bs (step1_is h) = tagged_some bs h
spelt_some (step2 part) bs (step2_is h) = tagged_some bs h
spelt_some (update part) bs (update_is h) = tagged_some bs h
spelt_some (awareness part) bs (awareness_is h) = tagged_some bs h
spelt_some (denied reason) bs (denied_is h) = tagged_some bs h
spelt_some granted bs (granted_is flag f h) = tagged_some bs h
spelt_some query bs (query_is h) = tagged_some bs h
spelt_some (custom tag part) bs (custom_is f h) = tagged_some bs h

pub next_shorter : (s rest : List ℕ) (m : Said) → next s ≡ whole m rest → length rest < length s
next_shorter s rest m e =
    let a = exact_message.taken_is_spelt s m rest (taken s rest m e).reads in
    let k = spelt_some m a.0 a.2 in
    omega (arith, ap length a.1, length-append a.0 rest)

-- a message takes some bytes, whatever its buffer holds
pub message_shorter : (s rest : List ℕ) (m : Said) → message s ≡ Ok (m, rest) → length rest < length s
message_shorter s rest m e =
    let a = exact_message.taken_is_spelt s m rest e in
    let k = spelt_some m a.0 a.2 in
    omega (arith, ap length a.1, length-append a.0 rest)

pub messages_are_as_spelt : MessagesAreAsSpelt
messages_are_as_spelt = record {
  framed = exact_message;
  vectors = exact_vector;
  presences = exact_presence;
  taken_is_spelt = λ s rest m e. let t = taken s rest m e in let a = exact_message.taken_is_spelt s m rest t.reads in (a.0, a.1, a.2, holds m t.held);
  spelt_is_taken = λ m bs rest is h. let n : 0 < length (bs ++ rest) = let k = spelt_some m bs is in omega (arith, length-append bs rest) in next_of (bs ++ rest) n ∙ ap found (exact_message.spelt_is_taken m bs rest is) ∙ ap (λ v. judged v m rest) (passes m h);
}
