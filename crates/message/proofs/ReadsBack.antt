-- Messages that were written, as they are spelt and so read.
use Rattle.std.proofs.Common.{◌≡◌, ℕ, ◌-◌, ◌^◌, ◌<◌, ◌≤◌, Bool, true, false, cond, ltb, leb, List, [], ◌∷◌, ◌++◌, map, length, Ok, Err, Result, sym, refl, ap, ◌∙◌, subst, append-nil, arith, ltb-true, leb-true}
use Rattle.std.proofs.lemmas.List.{length-map}
use Rattle.std.proofs.lemmas.List.Elements.{All-head, All-tail}
use Rattle.std.specs.List.{All}
use Rattle.encoding.specs.declared.fault.WireFault.{WireFault}
use Rattle.encoding.specs.declared.fault.WireFault.TheVariants.{UnexpectedValue}
use Rattle.encoding.specs.declared.write.WriteFault.TheVariants.{Short}
use Rattle.encoding.specs.Spelling.{NumberIs, BufferIs, CountIs, RowIs}
use Rattle.encoding.specs.Utf8.{is_text}
use Rattle.encoding.specs.Writing.{spelt as digits, shortest, packed, Row, asked, buffer_out, row_out}
use Rattle.encoding.proofs.Backs.{number_is, buffer_is, client_is, count_is}
use Rattle.encoding.proofs.Exacts.{test_passes, both}
use Rattle.encoding.proofs.Shortest.{shortest_one}
use Rattle.encoding.proofs.Utf8s.{text_decides}
use Rattle.state_vector.proofs.VectorsOut.{vector_is, vectors_back}
use Rattle.state_vector.specs.Vector.{vector}
use Rattle.state_vector.specs.VectorOut.{vector_out}
use Rattle.message.specs.Message.{Said, message}
use Rattle.message.specs.Owned.{state_text}
use Rattle.message.specs.Presence.{Entry, presence}
use Rattle.message.specs.ReadBack.{said, as_read, OwnTag, Same, ReadsBack, ExceptionsAreReal}
use Rattle.message.specs.Spelling.{Tagged, MessageIs, step1_is, step2_is, update_is, awareness_is, denied_is, granted_is, query_is, custom_is, PresenceEntryIs, PresenceIs, Holds}
use Rattle.message.specs.Writing.{Told, step1, step2, update, awareness, denied, granted, query, custom, Readable, Sound, presence_entry_out, presence_out, led, asks, drafted, message_out}
use Rattle.message.proofs.Contents.{shown, exact_presence, messages_are_as_spelt}

-- ---- what a row that is written is
row_some : (verdict : Result (Unit {0}) WireFault) (row : Row) (bs : List ℕ) → asked verdict row ≡ Ok bs → (verdict ≡ Ok tt) × (row ≡ Ok bs)
row_some (Ok tt) row bs e = (refl, e)
row_some (Err f) row bs e = cc

buffer_some : (part bs : List ℕ) → buffer_out part ≡ Ok bs → (length part < 2 ^ 32) × (packed part ≡ bs)
buffer_some part bs e = by (ltb (length part) (2 ^ 32)) refl e
  where
    by : (b : Bool) → ltb (length part) (2 ^ 32) ≡ b → ◌≡◌ {A = Row} (cond b (Ok (packed part)) (Err Short)) (Ok bs) → (length part < 2 ^ 32) × (packed part ≡ bs)
    by true h e = (ltb-true (length part) (2 ^ 32) h, (cc))
    by false h e = cc

led_some : (lead bs : List ℕ) (row : Row) → led lead row ≡ Ok bs → (inner : List ℕ) × (row ≡ Ok inner) × (bs ≡ lead ++ inner)
led_some lead bs (Ok inner) e = (inner, refl, let i : lead ++ inner ≡ bs = cc in sym i)
led_some lead bs (Err f) e = cc

-- bytes that lead a buffer
led_buffer : (lead part bs : List ℕ) → led lead (buffer_out part) ≡ Ok bs → (BufferIs part (packed part)) × (bs ≡ lead ++ packed part)
led_buffer lead part bs e =
    let l = led_some lead bs (buffer_out part) e in
    let b = buffer_some part l.0 l.1 in
    (buffer_is part b.0, l.2 ∙ ap (λ x. lead ++ x) (sym b.1))

-- a number of one byte
byte_is : (n : ℕ) → n < 128 → NumberIs (2 ^ 8 - 1) n (n ∷ [])
byte_is n h = subst (NumberIs (2 ^ 8 - 1) n) (shortest_one n h) (number_is (2 ^ 8 - 1) n (omega arith) (omega arith))

tagged : (n : ℕ) (Body : List ℕ → Type 0) (b : List ℕ) → n < 128 → Body b → Tagged n Body (n ∷ b)
tagged n Body b h body = (n ∷ [], b, refl, byte_is n h, body)

-- ---- entries
entry_is_lem : (e : Entry) → Readable e → PresenceEntryIs (as_read e) (presence_entry_out e)
entry_is_lem e (k, n, t) =
    let bs : List ℕ = state_text e.state in
    let p = both (is_text bs) (leb (length bs) 256) t in
    let short : length bs ≤ 256 = leb-true (length bs) 256 p.1 in
    (shortest e.client, shortest e.clock, packed bs, bs, refl, client_is e.client k, number_is (2 ^ 32 - 1) e.clock (omega arith) (omega arith), ((buffer_is bs (omega arith), (text_decides bs).0 p.0), short), shown bs)

row_is : (es : List Entry) → All Readable es → RowIs PresenceEntryIs (map as_read es) (row_out presence_entry_out es)
row_is [] h = refl
row_is (e ∷ es) h = (presence_entry_out e, row_out presence_entry_out es, refl, entry_is_lem e (All-head Readable e es h), row_is es (All-tail Readable e es h))

presence_is : (es : List Entry) → length es ≤ 64 → All Readable es → PresenceIs (map as_read es) (presence_out es)
presence_is es l h = (shortest (length es), row_out presence_entry_out es, refl, subst (λ k. CountIs 64 k (shortest (length es))) (sym (length-map es as_read)) (count_is 64 (length es) (omega arith) l), row_is es h)

-- ---- each message
spelt : (t : Told) (bs : List ℕ) → OwnTag t → asks t ≡ Ok tt → drafted t ≡ Ok bs → MessageIs (said t) bs
spelt (step1 es) bs o a e = let b = led_buffer (0 ∷ 0 ∷ []) (vector_out es) bs e in subst (MessageIs (Said.step1 (vector_out es))) (sym b.1) (step1_is (tagged 0 _ _ (omega arith) (tagged 0 _ _ (omega arith) b.0)))
spelt (step2 part) bs o a e = let b = led_buffer (0 ∷ 1 ∷ []) part bs e in subst (MessageIs (Said.step2 part)) (sym b.1) (step2_is (tagged 0 _ _ (omega arith) (tagged 1 _ _ (omega arith) b.0)))
spelt (update part) bs o a e = let b = led_buffer (0 ∷ 2 ∷ []) part bs e in subst (MessageIs (Said.update part)) (sym b.1) (update_is (tagged 0 _ _ (omega arith) (tagged 2 _ _ (omega arith) b.0)))
spelt (awareness es) bs o a e = let b = led_buffer (1 ∷ []) (presence_out es) bs e in subst (MessageIs (Said.awareness (presence_out es))) (sym b.1) (awareness_is (tagged 1 _ _ (omega arith) b.0))
spelt (denied reason) bs o a e = let b = led_buffer (2 ∷ 0 ∷ []) reason bs e in subst (MessageIs (Said.denied reason)) (sym b.1) (denied_is (tagged 2 _ _ (omega arith) (tagged 0 _ _ (omega arith) (b.0, (text_decides reason).0 (test_passes UnexpectedValue (is_text reason) a)))))
spelt granted bs o a e = subst (MessageIs Said.granted) (let i : 2 ∷ 1 ∷ [] ≡ bs = cc in i) (granted_is 1 (omega arith) (tagged 2 _ _ (omega arith) (byte_is 1 (omega arith))))
spelt query bs o a e = subst (MessageIs Said.query) (let i : 3 ∷ [] ≡ bs = cc in i) (query_is (tagged 3 _ _ (omega arith) refl))
spelt (custom tag part) bs o a e = let b = led_buffer (shortest tag) part bs e in subst (MessageIs (Said.custom tag part)) (sym b.1) (custom_is o.0 (shortest tag, packed part, refl, number_is (2 ^ 8 - 1) tag (omega (arith, o.1)) (omega (arith, o.1)), b.0))

holds : (t : Told) → Sound t → Holds (said t)
holds (step1 es) s = (es, vector_out es, [], sym (append-nil (vector_out es)), vector_is es s.0 s.2 s.3)
holds (awareness es) s = (map as_read es, presence_out es, [], sym (append-nil (presence_out es)), presence_is es s.0 s.2)
holds (step2 part) s = tt
holds (update part) s = tt
holds (denied reason) s = tt
holds granted s = tt
holds query s = tt
holds (custom tag part) s = tt

same : (t : Told) → Sound t → Same t
same (step1 es) s = ap vector (sym (append-nil (vector_out es))) ∙ vectors_back.tables_read_back es [] s.1 s.0 s.2 s.3
same (awareness es) s = ap presence (sym (append-nil (presence_out es))) ∙ exact_presence.spelt_is_taken (map as_read es) (presence_out es) [] (presence_is es s.0 s.2)
same (step2 part) s = tt
same (update part) s = tt
same (denied reason) s = tt
same granted s = tt
same query s = tt
same (custom tag part) s = tt

pub reads_back : (t : Told) (bs : List ℕ) → Sound t → message_out t ≡ Ok bs → ReadsBack t bs
reads_back t bs s e =
    let r = row_some (asks t) (drafted t) bs e in
    record { whole_message = λ o rest. messages_are_as_spelt.spelt_is_taken (said t) bs rest (spelt t bs o r.0 r.1) (holds t s); same_contents = same t s }

pub exceptions_are_real : ExceptionsAreReal
unfolding message digits shortest
exceptions_are_real = record { low_tag = (refl, refl); live_null = refl }
