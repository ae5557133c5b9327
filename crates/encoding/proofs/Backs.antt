-- What is written beside what is read.
use Rattle.std.proofs.Common.{◌≡◌, ℕ, ◌+◌, ◌-◌, ◌^◌, ◌<◌, ◌≤◌, ltb, leb, List, length, Ok, refl, ap, arith, length-append, ltb-true, leb-true}
use Rattle.std.proofs.Math.Pow.{pow_mono}
use Rattle.encoding.specs.declared.fault.WireFault.TheVariants.{InvalidClientId, TooManyEntries}
use Rattle.encoding.specs.Fields.{buffer, plain_text, count, presence_text}
use Rattle.encoding.specs.ReadBack.{FieldsReadBack, NeverLonger}
use Rattle.encoding.specs.Spelling.{NumberIs, BufferIs, ClientIs, CountIs}
use Rattle.encoding.specs.Utf8.{is_text}
use Rattle.encoding.specs.VarUint.{var_uint}
use Rattle.encoding.specs.Writing.{shortest, packed}
use Rattle.encoding.proofs.Exacts.{exact_number, exact_buffer, exact_passed, exact_client_id, exact_count, test_passes, both}
use Rattle.encoding.proofs.Shortest.{length_shortest, shortest_is_shortest}

-- the shortest spelling of a number of 64 bits is one that is read
pub number_is : (top n : ℕ) → n < 2 ^ 64 → n ≤ top → NumberIs top n (shortest n)
number_is top n h l = (shortest_is_shortest.spells n, length_shortest n h, l)

-- a buffer, as it is written
pub buffer_is : (bs : List ℕ) → length bs < 2 ^ 32 → BufferIs bs (packed bs)
buffer_is bs h = (shortest (length bs), refl, number_is (2 ^ 32 - 1) (length bs) (omega arith) (omega arith))

-- a client id, as it is written
pub client_is : (n : ℕ) → n < 2 ^ 53 → ClientIs n (shortest n)
client_is n h = (number_is (2 ^ 64 - 1) n (omega arith) (omega arith), h)

-- a count, as it is written, at a width that has it
pub count_is : (width n : ℕ) → n ≤ 2 ^ width - 1 → n ≤ 64 → CountIs width n (shortest n)
count_is width n l h = (number_is (2 ^ width - 1) n (omega arith) l, h)

-- a count that passes is small
few : (n : ℕ) → count n ≡ Ok tt → n ≤ 64
few n e = leb-true n 64 (test_passes TooManyEntries (leb n 64) e)

-- a presence text that passes is short
brief : (bs : List ℕ) → presence_text bs ≡ Ok tt → length bs ≤ 256
brief bs e = leb-true (length bs) 256 (both (is_text bs) (leb (length bs) 256) e).1

-- the law of reading back
pub fields_read_back : FieldsReadBack
fields_read_back = record {
  numbers = λ top n rest h l. (exact_number top).spelt_is_taken n (shortest n) rest (number_is top n h l);
  buffers = λ bs rest h. exact_buffer.spelt_is_taken bs (packed bs) rest (buffer_is bs h);
  texts = λ bs rest h e. (exact_passed plain_text buffer exact_buffer).spelt_is_taken bs (packed bs) rest (buffer_is bs h, e);
  client_ids = λ n rest e. exact_client_id.spelt_is_taken n (shortest n) rest (client_is n (ltb-true n (2 ^ 53) (test_passes InvalidClientId (ltb n (2 ^ 53)) e)));
  counts = λ width n rest w e. let l = few n e in (exact_count width).spelt_is_taken n (shortest n) rest (count_is width n (omega (arith, pow_mono {i = 7} {j = width} w)) l);
  presence_texts = λ bs rest e. let l = brief bs e in (exact_passed presence_text buffer exact_buffer).spelt_is_taken bs (packed bs) rest (buffer_is bs (omega arith), e);
}

-- a number that was read, written again
number_again : (top n : ℕ) (s rest : List ℕ) → var_uint top s ≡ Ok (n, rest) → length (shortest n) + length rest ≤ length s
number_again top n s rest e =
    let a = (exact_number top).taken_is_spelt s n rest e in
    let l = shortest_is_shortest.least a.0 n a.2.0 in
    omega (arith, ap length a.1, length-append a.0 rest)

-- a buffer that was read, written again; and that it can be
buffer_again : (s bs rest : List ℕ) → buffer s ≡ Ok (bs, rest) → (length (packed bs) + length rest ≤ length s) × (length bs < 2 ^ 32)
buffer_again s bs rest e =
    let a = exact_buffer.taken_is_spelt s bs rest e in
    let b = a.2 in
    let l = shortest_is_shortest.least b.0 (length bs) b.2.0 in
    (omega (arith, ap length a.1, length-append a.0 rest, ap length b.1, length-append b.0 bs, length-append (shortest (length bs)) bs), omega (arith, b.2.2))

-- the law of writing again
pub never_longer : NeverLonger
never_longer = record {
  numbers = number_again;
  buffers = λ s bs rest e. (buffer_again s bs rest e).0;
  writable = λ s bs rest e. (buffer_again s bs rest e).1;
}
