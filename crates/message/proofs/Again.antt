-- Messages that were read and are written again.
use Rattle.std.proofs.Common.{◌≡◌, ℕ, zero, suc, ◌+◌, ◌/◌, ◌^◌, ◌<◌, ◌≤◌, cond, eqb, List, [], ◌∷◌, ◌++◌, length, get_or, Some, None, Ok, Err, Option, sym, refl, ap, ◌∙◌, subst, ⊎_elim, arith, length-append, lt-ltb, eq-eqb, ne_eqb, le-leb}
use Rattle.std.proofs.lemmas.Bool.{cond-true, cond-false, cases_lt}
use Rattle.std.proofs.lemmas.List.Elements.{All-nil, All-cons, All-head, All-tail}
use Rattle.std.specs.List.{All}
use Rattle.encoding.specs.Fields.{presence_text}
use Rattle.encoding.specs.Reading.{Reading}
use Rattle.encoding.specs.Spelling.{BufferIs, RowIs}
use Rattle.encoding.specs.Utf8.{Text}
use Rattle.encoding.specs.Writing.{shortest, packed, Row, buffer_out, row_out}
use Rattle.encoding.proofs.Shortest.{shortest_one, shortest_more, some_shortest, shortest_is_shortest}
use Rattle.encoding.proofs.Utf8s.{text_decides}
use Rattle.state_vector.specs.declared.vector.VectorEntry.{VectorEntry}
use Rattle.state_vector.specs.Tables.{always, entered, latest_or, row}
use Rattle.state_vector.specs.Vector.{client_of, vector_entries, tabled, tabled_after, vector, clock_in}
use Rattle.state_vector.specs.VectorOut.{vector_out}
use Rattle.state_vector.proofs.Rows.{length_row, updates_keep}
use Rattle.state_vector.proofs.Sizes.{size_row}
use Rattle.state_vector.proofs.VectorsOut.{table_known, vectors_shrink}
use Rattle.message.specs.Again.{Absent, Apart, by_client, Again, ReadAndWrittenAgain}
use Rattle.message.specs.Message.{Said, step1, step2, update, awareness, denied, granted, query, custom}
use Rattle.message.specs.Messages.{whole, next}
use Rattle.message.specs.Owned.{state_text}
use Rattle.message.specs.Presence.{Entry, presence}
use Rattle.message.specs.ReadBack.{OwnTag}
use Rattle.message.specs.Spelling.{Tagged, MessageIs, step1_is, step2_is, update_is, awareness_is, denied_is, granted_is, query_is, custom_is, Shows, PresenceEntryIs}
use Rattle.message.specs.Writing.{Told, Readable, Sound, led, presence_entry_out, presence_out, message_out}
use Rattle.message.proofs.Contents.{messages_are_as_spelt}
use Rattle.message.proofs.ReadsBack.{reads_back}
use Rattle.message.proofs.Sound.{All-entered}

-- a smaller number is no longer
grows_by : (k m n : ℕ) → n ≤ k → m ≤ n → length (shortest m) ≤ length (shortest n)
grows_by zero m n h l = let e : m ≡ n = omega arith in omega (arith, ap (λ j. length (shortest j)) e)
grows_by (suc k) m n h l =
    ⊎_elim (λ b. omega (arith, ap length (shortest_one m b), some_shortest n))
    (λ g. omega (arith, ap length (shortest_more m g), ap length (shortest_more n (omega arith)), grows_by k (m / 128) (n / 128) (omega arith) (omega arith)))
    (cases_lt m 128)

grows : (m n : ℕ) → m ≤ n → length (shortest m) ≤ length (shortest n)
grows m n l = grows_by n m n (omega arith) l

-- ---- a buffer
-- what is no longer than a buffer that is spelt goes into no more bytes, and its length has 32 bits
buffer_long : (part again b : List ℕ) → BufferIs part b → length again ≤ length part → (length (packed again) ≤ length b) × (length again < 2 ^ 32)
buffer_long part again b (size, e, h) l =
    let x = shortest_is_shortest.least size (length part) h.0 in
    let y = grows (length again) (length part) l in
    (omega (arith, ap length e, length-append size part, length-append (shortest (length again)) again), omega (arith, h.2))

-- a row that is written and no longer
abbrev Short : Row → List ℕ → Type 0
Short row bs = (out : List ℕ) × (row ≡ Ok out) × (length out ≤ length bs)

framed : (lead part again bs b : List ℕ) → BufferIs part b → length again ≤ length part → length lead + length b ≤ length bs → Short (led lead (buffer_out again)) bs
framed lead part again bs b h l k =
    let x = buffer_long part again b h l in
    (lead ++ packed again, rw (lt-ltb (length again) (2 ^ 32) x.1) refl, omega (arith, x.0, length-append lead (packed again)))

-- a number in front takes its shortest spelling at least
inside : {n : ℕ} {Body : List ℕ → Type 0} (bs : List ℕ) → Tagged n Body bs → (b : List ℕ) × Body b × (length (shortest n) + length b ≤ length bs)
inside {n} bs (t, b, e, h, body) = (b, body, omega (arith, shortest_is_shortest.least t n h.0, ap length e, length-append t b))

-- ---- a vector
vector_by : (part : List ℕ) (es : List VectorEntry) (v : Reading (List VectorEntry)) → vector_entries part ≡ v → tabled_after [] v ≡ Ok es → length (vector_out es) ≤ length part
vector_by part es (Ok p) e h =
    let i : tabled p.0 ≡ es = cc in
    omega (arith, vectors_shrink.no_longer part p.1 p.0 e, ap (λ l. length (vector_out l)) i)
vector_by part es (Err f) e h = cc

vector_short : (part : List ℕ) (es : List VectorEntry) → vector part ≡ Ok es → length (vector_out es) ≤ length part
vector_short part es e = vector_by part es (vector_entries part) refl e

-- ---- a presence update
-- the text of a state is what shows it
text_of : (bs : List ℕ) (s : Option (List ℕ)) → Shows bs s → state_text s ≡ bs
text_of bs None h = sym h
text_of bs (Some shown) h = sym h.0

entry_short : (e : Entry) (bs : List ℕ) → PresenceEntryIs e bs → length (presence_entry_out e) ≤ length bs
entry_short e bs (a, b, c, text, i, h, k, t, s) =
    let x = shortest_is_shortest.least a e.client h.0.0 in
    let y = shortest_is_shortest.least b e.clock k.0 in
    let same = text_of text e.state s in
    let z = buffer_long text (state_text e.state) c t.0.0 (omega (arith, ap length same)) in
    omega (arith, z.0, ap length i, length-append a (b ++ c), length-append b c, length-append (shortest e.client) (shortest e.clock ++ packed (state_text e.state)), length-append (shortest e.clock) (packed (state_text e.state)))

row_short : (es : List Entry) (bs : List ℕ) → RowIs PresenceEntryIs es bs → length (row_out presence_entry_out es) ≤ length bs
row_short [] bs h = omega arith
row_short (e ∷ es) bs (a, b, i, h, r) = omega (arith, entry_short e a h, row_short es b r, ap length i, length-append a b, length-append (presence_entry_out e) (row_out presence_entry_out es))

presence_short : (part rest : List ℕ) (es : List Entry) → presence part ≡ Ok (es, rest) → length (presence_out (by_client es)) ≤ length part
presence_short part rest es e =
    let v = messages_are_as_spelt.presences.taken_is_spelt part es rest e in
    let w = v.2 in
    let x = shortest_is_shortest.least w.0 (length es) w.3.0.0 in
    let y = grows (length (by_client es)) (length es) (omega (arith, length_row (λ (z : Entry). z.client) always [] es)) in
    let r = row_short es w.1 w.4 in
    let q = size_row (λ (z : Entry). z.client) always presence_entry_out [] es in
    omega (arith, ap length v.1, ap length w.2, length-append v.0 rest, length-append w.0 w.1, length-append (shortest (length (by_client es))) (row_out presence_entry_out (by_client es)))

-- ---- a message
abbrev Out : List ℕ → Told → Type 0
Out bs t = Short (message_out t) bs

-- a buffer after one number, and after two
once : {n : ℕ} (first : ℕ) (part again bs : List ℕ) → Tagged n (BufferIs part) bs → length again ≤ length part → Short (led (first ∷ []) (buffer_out again)) bs
once {n} first part again bs h l =
    let x = inside bs h in
    framed (first ∷ []) part again bs x.0 x.1 l (omega (arith, x.2, some_shortest n))

twice : {n k : ℕ} (first second : ℕ) (part again bs : List ℕ) → Tagged n (Tagged k (BufferIs part)) bs → length again ≤ length part → Short (led (first ∷ second ∷ []) (buffer_out again)) bs
twice {n} {k} first second part again bs h l =
    let x = inside bs h in
    let y = inside x.0 x.1 in
    framed (first ∷ second ∷ []) part again bs y.0 y.1 l (omega (arith, x.2, y.2, some_shortest n, some_shortest k))

written : (m : Said) (t : Told) (bs : List ℕ) → MessageIs m bs → Again m t → Out bs t
written (step1 part) t bs (step1_is h) (es, v, i) = subst (Out bs) (sym i) (twice 0 0 part (vector_out es) bs h (vector_short part es v))
written (awareness part) t bs (awareness_is h) (es, rest, p, apart, i) = subst (Out bs) (sym i) (once 1 part (presence_out (by_client es)) bs h (presence_short part rest es p))
written (step2 part) t bs (step2_is h) i = subst (Out bs) (sym i) (twice 0 1 part part bs h (omega arith))
written (update part) t bs (update_is h) i = subst (Out bs) (sym i) (twice 0 2 part part bs h (omega arith))
written (denied reason) t bs (denied_is h) i =
    let x = inside bs h in
    let y = inside x.0 x.1 in
    let r = framed (2 ∷ 0 ∷ []) reason reason bs y.0 y.1.0 (omega arith) (omega (arith, x.2, y.2, some_shortest 2, some_shortest 0)) in
    subst (Out bs) (sym i) (r.0, rw ((text_decides reason).1 y.1.1) r.1, r.2)
written granted t bs (granted_is flag f h) i =
    let x = inside bs h in
    let y = shortest_is_shortest.least x.0 flag x.1.0 in
    subst (Out bs) (sym i) (2 ∷ 1 ∷ [], refl, omega (arith, x.2, some_shortest 2, some_shortest flag))
written query t bs (query_is h) i = let x = inside bs h in subst (Out bs) (sym i) (3 ∷ [], refl, omega (arith, x.2, some_shortest 3))
written (custom tag part) t bs (custom_is f h) i = let x = inside bs h in subst (Out bs) (sym i) (framed (shortest tag) part part bs x.0 x.1 (omega arith) x.2)

-- a message that was read
again_written : (s rest : List ℕ) (m : Said) (t : Told) → next s ≡ whole m rest → Again m t → (out : List ℕ) × (message_out t ≡ Ok out) × (length out + length rest ≤ length s)
again_written s rest m t e a =
    let v = messages_are_as_spelt.taken_is_spelt s rest m e in
    let w = written m t v.0 v.2 a in
    (w.0, w.1, omega (arith, w.2, ap length v.1, length-append v.0 rest))

one_row : {bs out : List ℕ} {row : Row} → row ≡ Ok bs → row ≡ Ok out → out ≡ bs
one_row p q = cc

-- ---- every entry is kept
abbrev client_of_lem : Entry → ℕ
client_of_lem e = e.client

-- entries of other clients change nothing
latest_stays : (c : ℕ) (o : Option Entry) (es : List Entry) → Absent c es → latest_or client_of_lem c o es ≡ o
latest_stays c o [] h = refl
latest_stays c o (e ∷ es) h = ap (λ w. latest_or client_of_lem c w es) (cond-false (eqb e.client c) (Some e) o (ne_eqb e.client c h.0)) ∙ latest_stays c o es h.1

-- where no client stands twice, an entry is the last of its client
latest_at : (es : List Entry) (e : Entry) (k : ℕ) (o : Option Entry) → Apart es → k < length es → ((d : Entry) → get_or es k d ≡ e) → latest_or client_of_lem e.client o es ≡ Some e
latest_at [] e k o h l at = absurd (omega arith)
latest_at (x ∷ es) e zero o h l at =
    let i : x ≡ e = at e in
    subst (λ z. latest_or client_of_lem z.client o (x ∷ es) ≡ Some z) i
    (ap (λ w. latest_or client_of_lem x.client w es) (cond-true (eqb x.client x.client) (Some x) o (eq-eqb x.client x.client refl)) ∙ latest_stays x.client (Some x) es h.0)
latest_at (x ∷ es) e (suc k) o h l at = latest_at es e k (cond (eqb x.client e.client) (Some x) o) h.1 (omega arith) (λ d. at d)

-- ---- what is written reads again
-- the table of a vector that was read
vector_sound : (part : List ℕ) (es : List VectorEntry) (v : Reading (List VectorEntry)) → vector_entries part ≡ v → tabled_after [] v ≡ Ok es → Sound (Told.step1 es)
vector_sound part es (Ok p) e h =
    let i : tabled p.0 ≡ es = cc in
    let k = table_known part p.1 p.0 e in
    subst (λ l. Sound (Told.step1 l)) i (k.0, (updates_keep client_of).ascending p.0, k.1, k.2)
vector_sound part es (Err f) e h = cc

-- an entry that is spelt can be read again
text_passes : (bs : List ℕ) → Text bs → length bs ≤ 256 → presence_text bs ≡ Ok tt
text_passes bs t l = rw ((text_decides bs).1 t, le-leb (length bs) 256 l) refl

entry_readable : (e : Entry) (bs : List ℕ) → PresenceEntryIs e bs → Readable e
entry_readable e bs (a, b, c, text, i, h, k, t, s) = (h.1, omega (arith, k.2), ap presence_text (text_of text e.state s) ∙ text_passes text t.0.1 t.1)

all_readable : (es : List Entry) (bs : List ℕ) → RowIs PresenceEntryIs es bs → All Readable es
all_readable [] bs h = All-nil Readable
all_readable (e ∷ es) bs (a, b, i, h, r) = All-cons Readable e es (entry_readable e a h) (all_readable es b r)

-- and entries that come in leave it so
readable_row : (xs es : List Entry) → All Readable xs → All Readable es → All Readable (row client_of_lem always xs es)
readable_row xs [] h r = h
readable_row xs (e ∷ es) h r = readable_row (entered client_of_lem always xs e) es (All-entered client_of_lem Readable xs e (All-head Readable e es r) h) (All-tail Readable e es r)

presence_sound : (part rest : List ℕ) (es : List Entry) → presence part ≡ Ok (es, rest) → Sound (Told.awareness (by_client es))
presence_sound part rest es e =
    let v = messages_are_as_spelt.presences.taken_is_spelt part es rest e in
    let w = v.2 in
    (omega (arith, w.3.1, length_row client_of_lem always [] es), (updates_keep client_of_lem).ascending es, readable_row [] es (All-nil Readable) (all_readable es w.1 w.4))

-- the parts of a message that was read can be read again
sound : (m : Said) (t : Told) → Again m t → Sound t
sound (step1 part) t (es, v, i) = subst Sound (sym i) (vector_sound part es (vector_entries part) refl v)
sound (awareness part) t (es, rest, p, apart, i) = subst Sound (sym i) (presence_sound part rest es p)
sound (step2 part) t i = subst Sound (sym i) tt
sound (update part) t i = subst Sound (sym i) tt
sound (denied reason) t i = subst Sound (sym i) tt
sound granted t i = subst Sound (sym i) tt
sound query t i = subst Sound (sym i) tt
sound (custom tag part) t i = subst Sound (sym i) tt

-- and a custom one has a tag of its own
own_tag : (m : Said) (t : Told) (bs : List ℕ) → MessageIs m bs → Again m t → OwnTag t
own_tag (step1 part) t bs h (es, v, i) = subst OwnTag (sym i) tt
own_tag (awareness part) t bs h (es, rest, p, apart, i) = subst OwnTag (sym i) tt
own_tag (step2 part) t bs h i = subst OwnTag (sym i) tt
own_tag (update part) t bs h i = subst OwnTag (sym i) tt
own_tag (denied reason) t bs h i = subst OwnTag (sym i) tt
own_tag granted t bs h i = subst OwnTag (sym i) tt
own_tag query t bs h i = subst OwnTag (sym i) tt
own_tag (custom tag part) t bs (custom_is f (a, b, e, n, body)) i = subst OwnTag (sym i) (f, omega (arith, n.2))

pub read_and_written_again : ReadAndWrittenAgain
read_and_written_again = record {
  never_longer = λ s rest bs m t e a o. let w = again_written s rest m t e a in omega (arith, w.2, ap length (one_row o w.1));
  always_written = λ s rest m t e a. let w = again_written s rest m t e a in (w.0, w.1);
  same_vector = λ part rest es e c. ap clock_in ((updates_keep client_of).latest_is_held es c);
  same_presence = λ es c. (updates_keep (λ (e : Entry). e.client)).latest_is_held es c;
  ascending = λ es. (updates_keep (λ (e : Entry). e.client)).ascending es;
  kept = λ es e apart has. (updates_keep (λ (x : Entry). x.client)).latest_is_held es e.client ∙ latest_at es e has.0 None apart has.1 has.2;
  reads_again = λ s rest bs after m t e a o.
      let v = messages_are_as_spelt.taken_is_spelt s rest m e in
      let r = reads_back t bs (sound m t a) o in
      (r.whole_message (own_tag m t v.0 v.2 a) after, r.same_contents);
}
