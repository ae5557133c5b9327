-- The laws of slot boards.
use Rattle.std.proofs.Common.{◌≡◌, ℕ, ◌-◌, ◌^◌, ◌<◌, ◌≤◌, true, ◌&&◌, ltb, leb, List, ◌∷◌, ◌++◌, length, Some, None, Option, refl, ap, ◌∙◌, subst, arith, length-append, nat_le, false, unwrap_or}
use Rattle.std.proofs.lemmas.Bool.{leb-true, leb-false, le-leb, ltb-true, lt-ltb, and_parts, cond-true}
use Rattle.std.specs.List.{list_all}
use Rattle.encoding.specs.Fields.{buffer, client_id_in}
use Rattle.encoding.specs.Reading.{thence, named}
use Rattle.encoding.specs.Spelling.{Exactly, NumberIs, BufferIs, ClientIs}
use Rattle.encoding.specs.VarUint.{var_uint}
use Rattle.encoding.specs.Writing.{shortest, packed, counted_out}
use Rattle.encoding.proofs.Backs.{number_is, buffer_is, client_is}
use Rattle.encoding.proofs.Shortest.{length_shortest}
use Rattle.joined_tables.specs.TableKind.{Fair, clock_held}
use Rattle.joined_tables.proofs.TableLaws.{rows_spelt, tables_lawful}
use Rattle.encoding.proofs.Exacts.{Then, exact_thence, exact_named, exact_as, exact_number, exact_buffer, exact_client_id, exact_passed, exact_counted, test_passes}
use Rattle.state_vector.specs.Tables.{Order}
use Rattle.state_vector.specs.Vector.{clock_of}
use Rattle.joined_tables.specs.Joined.{Decided, HeldOff}
use Rattle.document.specs.Kind.{Lawful}
use Rattle.boards.specs.SlotBoard.{Plain, client_of, outranks, keepable, slot_clock, slot_bytes, slot_clock_in, slot_bytes_in, slot_in, slots_in, slot_out, slot_rows, slots, SlotIs, SlotsAre}
use Rattle.boards.specs.ByteOrder.{later_order, later_decided}

-- the clock before the bytes is one more place of their order
abbrev ranked : Plain → List ℕ
ranked e = e.clock ∷ e.bytes

-- which slot stands above which is an order
pub slots_order : Order outranks
slots_order = record {
  irreflexive = λ x. later_order.irreflexive (ranked x);
  asymmetric = λ x y. later_order.asymmetric (ranked x) (ranked y);
  third = λ x y z. later_order.third (ranked x) (ranked y) (ranked z);
}

pub slots_decided : Decided client_of outranks
slots_decided x y k f g =
    let same = later_decided (ranked x) (ranked y) f g in
    let clock : x.clock ≡ y.clock = cc in
    let bytes : x.bytes ≡ y.bytes = cc in
    ap (λ c. record { client = c; clock = x.clock; bytes = x.bytes }) k ∙ ap (λ n. record { client = y.client; clock = n; bytes = x.bytes }) clock ∙ ap (λ l. record { client = y.client; clock = y.clock; bytes = l }) bytes

-- a slot's clock and bytes are read exactly where the bytes spell them
clock_exact : Exactly slot_clock_in (λ n bs. NumberIs (2 ^ 32 - 1) n bs × (0 < n))
clock_exact = exact_as (exact_passed slot_clock (var_uint (2 ^ 32 - 1)) (exact_number (2 ^ 32 - 1))) (λ n bs h. (h.0, ltb-true 0 n (test_passes _ _ h.1))) (λ n bs h. (h.0, cond-true _ _ _ (lt-ltb 0 n h.1)))

bytes_exact : Exactly slot_bytes_in (λ part bs. BufferIs part bs × (length part ≤ 32))
bytes_exact = exact_as (exact_passed slot_bytes buffer exact_buffer) (λ part bs h. (h.0, leb-true _ 32 (test_passes _ _ h.1))) (λ part bs h. (h.0, cond-true _ _ _ (le-leb _ 32 h.1)))

abbrev made : ℕ → ℕ → List ℕ → Plain
made id n bs = record { client = id; clock = n; bytes = bs }

-- what follows a slot's client
abbrev Rest : ℕ → Plain → List ℕ → Type 0
Rest id = Then (λ n bs. NumberIs (2 ^ 32 - 1) n bs × (0 < n)) (λ n y bs. (part : List ℕ) × (made id n part ≡ y) × (BufferIs part bs × (length part ≤ 32)))

pub exact_slot : Exactly slot_in SlotIs
exact_slot =
    exact_as
    (exact_thence client_id_in (λ id rest. thence (slot_clock_in rest) (λ n after. named (made id n) (slot_bytes_in after))) exact_client_id
    (λ id. exact_thence slot_clock_in (λ n after. named (made id n) (slot_bytes_in after)) clock_exact (λ n. exact_named (made id n) slot_bytes_in bytes_exact)))
    there back
  where
    there : (e : Plain) (bs : List ℕ) → Then ClientIs Rest e bs → SlotIs e bs
    there e bs (id, a, r, i, h, (n, b, c, j, k, (part, q, m))) = subst (λ x. SlotIs x bs) q (a, b, c, i ∙ ap (λ l. a ++ l) j, h, k, m)

    back : (e : Plain) (bs : List ℕ) → SlotIs e bs → Then ClientIs Rest e bs
    back e bs (a, b, c, i, h, k, m) = (e.client, a, b ++ c, i, h, (e.clock, b, c, refl, k, (e.bytes, refl, m)))

pub exact_slots : Exactly slots_in SlotsAre
exact_slots = exact_counted 32 slot_in SlotIs exact_slot

-- what it takes to be held
pub record Keepable (e : Plain) : Type 0 where
  pub id : e.client < 2 ^ 53
  pub set : 0 < e.clock
  pub narrow : e.clock < 2 ^ 32
  pub short : length e.bytes ≤ 32

pub parts : (e : Plain) → keepable e ≡ true → Keepable e
parts e f =
    let q = and_parts (ltb e.client (2 ^ 53)) (ltb 0 e.clock && (ltb e.clock (2 ^ 32) && leb (length e.bytes) 32)) f in
    let r = and_parts (ltb 0 e.clock) (ltb e.clock (2 ^ 32) && leb (length e.bytes) 32) q.1 in
    let t = and_parts (ltb e.clock (2 ^ 32)) (leb (length e.bytes) 32) r.1 in
    record { id = ltb-true _ _ q.0; set = ltb-true _ _ r.0; narrow = ltb-true _ _ t.0; short = leb-true _ _ t.1 }

-- what is written of a slot spells it
slot_is : (e : Plain) → keepable e ≡ true → SlotIs e (slot_out e)
slot_is e f =
    let k = parts e f in
    (shortest e.client, shortest e.clock, packed e.bytes, refl, client_is e.client k.id, (number_is (2 ^ 32 - 1) e.clock (omega arith) (omega arith), k.set), (buffer_is e.bytes (omega arith), k.short))

-- a slot is written as at most 62 bytes
short : (e : Plain) → keepable e ≡ true → length (slot_out e) ≤ 64
short e f =
    let k = parts e f in
    omega (arith, length-append (shortest e.client) (shortest e.clock ++ packed e.bytes), length-append (shortest e.clock) (packed e.bytes), length-append (shortest (length e.bytes)) e.bytes, length_shortest e.client (omega arith), length_shortest e.clock (omega arith), length_shortest (length e.bytes) (omega arith))

-- a slot that is no news is held off by the one that the vector tells of, which is at a higher clock
old_news : (x : Plain) (o : Option Plain) (n : Option ℕ) → n ≡ clock_held slot_rows o → nat_le (unwrap_or n 0) x.clock ≡ false → HeldOff client_of outranks keepable x o
old_news x None n same old = absurd (omega (arith, leb-false _ _ old, ap (λ m. unwrap_or m 0) same))
old_news x (Some y) n same old =
    let l : x.clock < y.clock = omega (arith, leb-false _ _ old, ap (λ m. unwrap_or m 0) same) in
    rw (lt-ltb x.clock y.clock l) refl

-- slots owe nothing more for the laws of table kinds
pub slot_fair : Fair slot_rows
slot_fair = record {
  order = slots_order;
  decided = slots_decided;
  same_client = λ x. refl;
  ids = λ x f. (parts x f).id;
  clocks = λ x f. (parts x f).narrow;
  reads_back = λ x rest f. exact_slot.spelt_is_taken x (slot_out x) rest (slot_is x f);
  short = short;
  old_news = λ x v o f same old. old_news x o (clock_of x.client v) same old;
}

-- the laws of slot boards, within 16 slots
pub slots_lawful : Lawful slots 16
slots_lawful = tables_lawful slot_rows slot_fair 16 (omega arith)

-- what is written of slots spells them
pub slots_are : (es : List Plain) → length es ≤ 64 → list_all keepable es ≡ true → SlotsAre es (counted_out slot_out es)
slots_are = rows_spelt slot_rows slot_fair exact_slots
