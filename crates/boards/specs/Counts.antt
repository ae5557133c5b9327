-- How counts are spelt, and what they owe for the laws of tables. It lies here since the law of a host cites it.
--   exact_counts   updates are read exactly where the bytes spell them
--   parts, kept_if, dropped_if   what a count has that may be held, which ones may, and which may not
--   count_back, counts_back   a count and an update's counts read back as they were written
--   counts_order, counts_decided   which stands above which is an order, and decides unless they are equal
--   count_fair     what counts owe for the laws of tables
--   counts_are     what is written of counts spells them
--   counts_lawful  boards of counts keep the laws of documents
--   board_within   a board of at most 64 counts is within the limit
use Rattle.std.specs.Prelude.{◌≡◌, ℕ, ◌-◌, ◌^◌, ◌<◌, ◌≤◌, true, false, ◌&&◌, List, length, take, ◌++◌, Some, None, Ok, Option, unwrap_or, nat_lt, refl}
use Rattle.std.proofs.Common.{sym, ap, ◌∙◌, subst, rules, arith, length-append, length-take}
use Rattle.std.proofs.Math.Nat.{le_trans, min-le_left}
use Rattle.std.proofs.lemmas.Bool.{ltb-true, ltb-false, lt-ltb, le-ltb, and_parts, and_from, and_right}
use Rattle.std.specs.List.{list_all}
use Rattle.encoding.specs.Spelling.{Exactly, NumberIs, ClientIs}
use Rattle.encoding.specs.Writing.{shortest, counted_out}
use Rattle.encoding.proofs.Backs.{number_is, client_is}
use Rattle.encoding.proofs.Exacts.{Then, exact_thence, exact_named, exact_as, exact_number, exact_client_id, exact_counted}
use Rattle.encoding.proofs.Shortest.{length_shortest}
use Rattle.document.specs.Kind.{Lawful}
use Rattle.state_vector.specs.Tables.{Order}
use Rattle.state_vector.specs.Vector.{clock_of}
use Rattle.joined_tables.specs.Joined.{Decided, HeldOff, sound}
use Rattle.joined_tables.specs.TableKind.{Fair, clock_held}
use Rattle.joined_tables.specs.Whole.{wholly}
use Rattle.joined_tables.proofs.TableHosts.{table_within}
use Rattle.joined_tables.proofs.TableLaws.{rows_back, rows_spelt, tables_lawful}
use Rattle.boards.specs.declared.count.Count.{Count}
use Rattle.boards.specs.CountBoard.{client_of, outranks, keepable, count_in, count_out, count_rows, board, counts, counts_in, CountIs, CountsAre}

-- a count is read exactly where the bytes spell it
exact_count_entry : Exactly count_in CountIs
exact_count_entry = exact_as (exact_thence _ _ exact_client_id (λ id. exact_named (λ n. record { client = id; count = n }) _ (exact_number (2 ^ 32 - 1)))) there back
  where
    there : (e : Count) (bs : List ℕ) → Then ClientIs (λ id y b. (n : ℕ) × (record { client = id; count = n } ≡ y) × NumberIs (2 ^ 32 - 1) n b) e bs → CountIs e bs
    there e bs (id, a, b, i, p, (n, j, q)) = (a, b, i, subst (λ (y : Count). ClientIs y.client a) j p, subst (λ (y : Count). NumberIs (2 ^ 32 - 1) y.count b) j q)

    back : (e : Count) (bs : List ℕ) → CountIs e bs → Then ClientIs (λ id y b. (n : ℕ) × (record { client = id; count = n } ≡ y) × NumberIs (2 ^ 32 - 1) n b) e bs
    back e bs (a, b, i, p, q) = (e.client, a, b, i, p, (e.count, refl, q))

pub exact_counts : Exactly counts_in CountsAre
exact_counts = exact_counted 32 count_in CountIs exact_count_entry

-- what a count that may be held has
pub parts : (e : Count) → keepable e ≡ true → (e.client < 2 ^ 53) × (0 < e.count) × (e.count < 2 ^ 32)
parts e f =
    let q = and_parts (nat_lt e.client (2 ^ 53)) (nat_lt 0 e.count && nat_lt e.count (2 ^ 32)) f in
    let r = and_parts (nat_lt 0 e.count) (nat_lt e.count (2 ^ 32)) q.1 in
    (ltb-true _ _ q.0, ltb-true _ _ r.0, ltb-true _ _ r.1)

-- a count that may be held, and one that may not
pub kept_if : (e : Count) → e.client < 2 ^ 53 → 0 < e.count → e.count < 2 ^ 32 → keepable e ≡ true
kept_if e known some narrow = and_from _ _ (lt-ltb _ _ known) (and_from _ _ (lt-ltb _ _ some) (lt-ltb _ _ narrow))

pub dropped_if : (e : Count) → e.count ≡ 0 → keepable e ≡ false
dropped_if e none = ap (λ n. keepable (record { client = e.client; count = n })) none ∙ and_right _ _ refl

-- what is written of a count that may be held spells it
count_is : (e : Count) → keepable e ≡ true → CountIs e (count_out e)
count_is e f = let p = parts e f in (shortest e.client, shortest e.count, refl, client_is e.client p.0, number_is (2 ^ 32 - 1) e.count (omega arith) (omega arith))

-- and it reads back, whatever bytes follow
pub count_back : (e : Count) (rest : List ℕ) → keepable e ≡ true → count_in (count_out e ++ rest) ≡ Ok (e, rest)
count_back e rest f = exact_count_entry.spelt_is_taken e (count_out e) rest (count_is e f)

-- in at most 20 bytes
short : (e : Count) → keepable e ≡ true → length (count_out e) ≤ 64
short e f = let p = parts e f in omega (arith, length-append (shortest e.client) (shortest e.count), length_shortest e.client (omega arith), length_shortest e.count (omega arith))

-- which count stands above which is an order, and decides unless they are equal
pub counts_order : Order outranks
counts_order = record { irreflexive = search rules; asymmetric = search rules; third = search rules }

pub counts_decided : Decided client_of outranks
counts_decided x y k f g = let same : x.count ≡ y.count = omega (arith, ltb-false y.count x.count f, ltb-false x.count y.count g) in ap (λ c. record { client = c; count = x.count }) k ∙ ap (λ n. record { client = y.client; count = n }) same

-- a count that is no news is held off by the one that the vector tells of
old_news : (x : Count) (o : Option Count) (n : Option ℕ) → 0 < x.count → n ≡ clock_held count_rows o → nat_lt (unwrap_or n 0) x.count ≡ false → HeldOff client_of outranks keepable x o
old_news x None n some same old = absurd (omega (arith, ltb-false _ _ old, ap (λ m. unwrap_or m 0) same))
old_news x (Some y) n some same old = le-ltb y.count x.count (omega (arith, ltb-false _ _ old, ap (λ m. unwrap_or m 0) same))

-- counts owe nothing more for the laws of tables
pub count_fair : Fair count_rows
count_fair = record {
  order = counts_order;
  decided = counts_decided;
  same_client = λ x. refl;
  ids = λ x f. (parts x f).0;
  clocks = λ x f. (parts x f).2;
  reads_back = count_back;
  short = short;
  old_news = λ x v o f same old. old_news x o (clock_of x.client v) (parts x f).1 same old;
}

-- what is written of counts spells them
pub counts_are : (es : List Count) → length es ≤ 64 → list_all keepable es ≡ true → CountsAre es (counted_out count_out es)
counts_are = rows_spelt count_rows count_fair exact_counts

-- counts that are written read back
pub counts_back : (es : List Count) → length es ≤ 64 → list_all keepable es ≡ true → wholly (counts_in (counted_out count_out es)) ≡ Ok es
counts_back = rows_back count_rows count_fair

-- boards of counts keep the laws of documents
pub counts_lawful : Lawful counts 64
counts_lawful = tables_lawful count_rows count_fair 64 (omega arith)

-- a board with at most 64 counts is within the limit
pub board_within : (len : ℕ) (xs : List Count) → len ≤ 64 → sound client_of keepable (take len xs) ≡ true → length (board (take len xs)).0 ≤ 64
board_within len xs few s = table_within count_rows 64 (take len xs) (le_trans (subst (λ n. n ≤ len) (sym (length-take len xs)) (min-le_left len (length xs))) few) s
