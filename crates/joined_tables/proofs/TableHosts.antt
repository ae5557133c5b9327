-- What a host of a kind of tables owes at its calls, from what the entries owe.
use Rattle.std.proofs.Common.{◌≡◌, ℕ, ◌+◌, ◌^◌, ◌<◌, ◌≤◌, true, List, map, length, filter, sym, ap, ◌∙◌, subst, arith}
use Rattle.std.proofs.lemmas.Bool.{and_parts}
use Rattle.std.specs.List.{list_all}
use Rattle.encoding.specs.Entries.{entries}
use Rattle.encoding.specs.Writing.{counted_out}
use Rattle.state_vector.specs.declared.vector.VectorEntry.{VectorEntry}
use Rattle.state_vector.specs.Tables.{all_below, ascends}
use Rattle.state_vector.specs.Vector.{client_of as vector_client}
use Rattle.state_vector.proofs.Kept.{few_kept, pass_kept}
use Rattle.joined_tables.specs.Joined.{gathered, sound}
use Rattle.joined_tables.specs.TableKind.{Rows, Fair, table_with, news_for}
use Rattle.joined_tables.specs.Whole.{wholly}
use Rattle.joined_tables.proofs.Arriving.{table_is}
use Rattle.joined_tables.proofs.Lengths.{counted_long}
use Rattle.joined_tables.proofs.Mapping.{ascends_seen, below_seen}
use Rattle.joined_tables.proofs.Steps.{gathered_few}

module _ {E : Type 0} (rows : Rows E) where
  -- a table with few entries is within the limit
  pub table_within : (limit : ℕ) (xs : List E) → length xs ≤ limit → sound rows.client rows.fine xs ≡ true → length (table_with rows xs).0 ≤ limit
  table_within limit xs few s = omega (arith, ap length (table_is rows.client rows.above rows.fine xs s))

  -- where a table and an update have no more entries together than the limit, the join fits
  pub surely_fits : (limit : ℕ) (xs : List E) (n : ℕ) (s : List ℕ) → sound rows.client rows.fine xs ≡ true → length xs + n ≤ limit → length (gathered rows.client rows.above rows.fine (table_with rows xs) (wholly (entries rows.reading n s))).0 ≤ limit
  surely_fits limit xs n s good few =
      omega (arith, gathered_few rows.client rows.above rows.fine rows.reading n s (table_with rows xs), table_within (length xs) xs (omega arith) good)

  -- what is news of the entries that a table is made of, is news of the table
  pub news_is : (v : List VectorEntry) (xs ys : List E) → ys ≡ xs → sound rows.client rows.fine xs ≡ true → filter (rows.news v) ys ≡ news_for rows (table_with rows xs) v
  news_is v xs ys e s = ap (filter (rows.news v)) (e ∙ sym (table_is rows.client rows.above rows.fine xs s))

  module _ (fair : Fair rows) (xs : List E) (s : sound rows.client rows.fine xs ≡ true) where
    both : (ascends rows.client xs ≡ true) × (list_all rows.fine xs ≡ true)
    both = and_parts (ascends rows.client xs) (list_all rows.fine xs) s

    -- the vector's entries for a sound table ascend, and are of clients that can be written
    pub vector_ascends : ascends vector_client (map rows.told xs) ≡ true
    vector_ascends = ascends_seen rows.client vector_client rows.told fair.same_client xs ∙ both.0

    pub vector_known : all_below vector_client (2 ^ 53) (map rows.told xs) ≡ true
    vector_known = below_seen rows.fine rows.told vector_client (2 ^ 53) (λ x f. subst (λ n. n < 2 ^ 53) (sym (fair.same_client x)) (fair.ids x f)) xs both.1

    -- what is written of its entries for a vector has a length of 32 bits
    pub news_long : (v : List VectorEntry) → length xs ≤ 64 → length (counted_out rows.writing (filter (rows.news v) xs)) < 2 ^ 32
    news_long v few = counted_long rows.fine rows.writing fair.short (filter (rows.news v) xs) (pass_kept rows.client (rows.news v) rows.fine xs both.1) (omega (arith, few_kept rows.client (rows.news v) xs))
