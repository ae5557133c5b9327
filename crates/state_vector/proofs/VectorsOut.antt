-- Vectors that are written, beside vectors as they are read.
use Rattle.std.proofs.Common.{◌≡◌, ℕ, ◌+◌, ◌-◌, ◌^◌, ◌≤◌, true, ltb, List, [], ◌∷◌, ◌++◌, length, Ok, refl, ap, ◌∙◌, arith, length-append}
use Rattle.std.proofs.lemmas.Bool.{and_parts, and_from, lt-ltb, ltb-true}
use Rattle.encoding.specs.Spelling.{RowIs}
use Rattle.encoding.specs.Writing.{shortest, row_out}
use Rattle.encoding.proofs.Backs.{number_is, client_is, count_is}
use Rattle.encoding.proofs.Shortest.{shortest_one, shortest_is_shortest}
use Rattle.state_vector.specs.declared.vector.VectorEntry.{VectorEntry}
use Rattle.state_vector.specs.Spelling.{VectorEntryIs, VectorIs}
use Rattle.state_vector.specs.Tables.{all_below, always, ascends}
use Rattle.state_vector.specs.Vector.{client_of, vector_entries, tabled, tabled_after, vector}
use Rattle.state_vector.specs.VectorOut.{vector_entry_out, vector_out, VectorsReadBack, VectorsNeverLonger}
use Rattle.state_vector.proofs.Rows.{length_row, updates_keep}
use Rattle.state_vector.proofs.Sizes.{below_row, size_row}
use Rattle.state_vector.proofs.Vectors.{clock_is}
use Rattle.state_vector.proofs.Spelt.{exact_vector}

-- what is written of entries spells them
row_is : (es : List VectorEntry) → all_below client_of (2 ^ 53) es ≡ true → all_below clock_is (2 ^ 32) es ≡ true → RowIs VectorEntryIs es (row_out vector_entry_out es)
row_is [] known low = refl
row_is (e ∷ es) known low =
    let p = and_parts (ltb e.client (2 ^ 53)) (all_below client_of (2 ^ 53) es) known in
    let q = and_parts (ltb e.clock (2 ^ 32)) (all_below clock_is (2 ^ 32) es) low in
    let c = ltb-true e.client (2 ^ 53) p.0 in
    let k = ltb-true e.clock (2 ^ 32) q.0 in
    (vector_entry_out e, row_out vector_entry_out es, refl, (shortest e.client, shortest e.clock, refl, client_is e.client c, number_is (2 ^ 32 - 1) e.clock (omega arith) (omega arith)), row_is es p.1 q.1)

-- with their count in front
pub vector_is : (es : List VectorEntry) → length es ≤ 64 → all_below client_of (2 ^ 53) es ≡ true → all_below clock_is (2 ^ 32) es ≡ true → VectorIs es (vector_out es)
vector_is es few known low = (shortest (length es), row_out vector_entry_out es, refl, count_is 32 (length es) (omega arith) few, row_is es known low)

-- so they are read as they were
entries_back : (es : List VectorEntry) (rest : List ℕ) → length es ≤ 64 → all_below client_of (2 ^ 53) es ≡ true → all_below clock_is (2 ^ 32) es ≡ true → vector_entries (vector_out es ++ rest) ≡ Ok (es, rest)
entries_back es rest few known low = exact_vector.spelt_is_taken es (vector_out es) rest (vector_is es few known low)

-- and where they ascend, as the table that they are
table_back : (es : List VectorEntry) (rest : List ℕ) → ascends client_of es ≡ true → length es ≤ 64 → all_below client_of (2 ^ 53) es ≡ true → all_below clock_is (2 ^ 32) es ≡ true → vector (vector_out es ++ rest) ≡ Ok es
table_back es rest up few known low = ap (tabled_after []) (entries_back es rest few known low) ∙ ap Ok ((updates_keep client_of).ascending_stays es up)

-- the law of reading back
pub vectors_back : VectorsReadBack
vectors_back = record {
  entries_read_back = entries_back;
  tables_read_back = table_back;
}

-- spelt entries have ids that can be written and clocks of 32 bits, and are no longer when they are written
row_spelt : (es : List VectorEntry) (bs : List ℕ) → RowIs VectorEntryIs es bs → (all_below client_of (2 ^ 53) es ≡ true) × (all_below clock_is (2 ^ 32) es ≡ true) × (length (row_out vector_entry_out es) ≤ length bs)
row_spelt [] bs h = (refl, refl, omega arith)
row_spelt (e ∷ es) bs (a, b, i, (c, k, j, (n, known), (sk, long, low)), r) =
    let t = row_spelt es b r in
    let x = shortest_is_shortest.least c e.client n.0 in
    let y = shortest_is_shortest.least k e.clock sk in (
      and_from _ _ (lt-ltb e.client (2 ^ 53) known) t.0,
      and_from _ _ (lt-ltb e.clock (2 ^ 32) (omega arith)) t.1,
      omega (arith, t.2, ap length i, ap length j, length-append a b, length-append c k, length-append (vector_entry_out e) (row_out vector_entry_out es), length-append (shortest e.client) (shortest e.clock)),
    )

-- what is known of entries that were read
abbrev pub Known : List ℕ → List ℕ → List VectorEntry → Type 0
Known s rest es = (length es ≤ 64) × (all_below client_of (2 ^ 53) es ≡ true) × (all_below clock_is (2 ^ 32) es ≡ true) × (1 + length (row_out vector_entry_out es) + length rest ≤ length s)

read_known : (s rest : List ℕ) (es : List VectorEntry) → vector_entries s ≡ Ok (es, rest) → Known s rest es
read_known s rest es e =
    let v = exact_vector.taken_is_spelt s es rest e in
    let w = v.2 in
    let few : length es ≤ 64 = w.3.1 in
    let t = row_spelt es w.1 w.4 in
    let x = shortest_is_shortest.least w.0 (length es) w.3.0.0 in
    let one = ap length (shortest_one (length es) (omega arith)) in
    (few, t.0, t.1, omega (arith, t.2, ap length v.1, ap length w.2, length-append v.0 rest, length-append w.0 w.1))

-- and of the table that they make
pub table_known : (s rest : List ℕ) (es : List VectorEntry) → vector_entries s ≡ Ok (es, rest) → Known s rest (tabled es)
table_known s rest es e =
    let k = read_known s rest es e in (
      omega (arith, k.0, length_row client_of always [] es),
      below_row client_of always client_of (2 ^ 53) [] es refl k.1,
      below_row client_of always clock_is (2 ^ 32) [] es refl k.2,
      omega (arith, k.3, size_row client_of always vector_entry_out [] es),
    )

-- its count takes one byte
table_short : (s rest : List ℕ) (es : List VectorEntry) → vector_entries s ≡ Ok (es, rest) → length (vector_out (tabled es)) + length rest ≤ length s
table_short s rest es e =
    let k = table_known s rest es e in
    let one = ap length (shortest_one (length (tabled es)) (omega (arith, k.0))) in
    omega (arith, k.3, length-append (shortest (length (tabled es))) (row_out vector_entry_out (tabled es)))

-- the law of writing again
pub vectors_shrink : VectorsNeverLonger
vectors_shrink = record {
  no_longer = table_short;
  same_table = λ s rest es e after. let k = table_known s rest es e in table_back (tabled es) after ((updates_keep client_of).ascending es) k.0 k.1 k.2;
}
