-- The laws of kinds of tables, and what taking an update comes to.
use Rattle.std.proofs.Common.{◌≡◌, ℕ, ◌^◌, ◌<◌, ◌≤◌, true, List, [], ◌∷◌, length, is_ok, Some, None, Ok, Err, Option, Result, sym, refl, ap, ◌∙◌, subst, append-nil, arith}
use lib.ListN.{length-map}
use Rattle.std.proofs.lemmas.List.{map-id}
use Rattle.std.proofs.lemmas.Bool.{true≢false, and_parts, le-leb, lt-leb, cond-true, cond-false}
use Rattle.std.specs.List.{list_all, AllByRecursion}
use Rattle.std.specs.Option.{option_map}
use Rattle.encoding.specs.declared.fault.WireFault.{WireFault}
use Rattle.encoding.specs.Spelling.{Exactly}
use Rattle.encoding.specs.Writing.{counted_out}
use Rattle.encoding.proofs.Counted.{Back, counted_back}
use Rattle.state_vector.specs.declared.vector.VectorEntry.{VectorEntry}
use Rattle.state_vector.specs.Tables.{held}
use Rattle.state_vector.specs.Vector.{clock_in, clock_of}
use Rattle.state_vector.specs.Vector.{client_of as vector_client}
use Rattle.state_vector.proofs.Kept.{few_kept, pass_kept}
use Rattle.state_vector.proofs.Keys.{held_key}
use Rattle.document.specs.declared.fault.DocumentFault.TheVariants.{TooLarge}
use Rattle.document.specs.Kind.{Kind, Brings, Lawful}
use Rattle.document.specs.Taking.{answer_to, after, accepts, taken}
use Rattle.joined_tables.specs.Joined.{Covers, none, gather, gathered}
use Rattle.joined_tables.specs.TableKind.{Rows, Table, rows_in, table_of, news_for, table_kind, clock_held, Fair}
use Rattle.joined_tables.specs.Whole.{wholly}
use Rattle.joined_tables.proofs.Arriving.{gather_joins}
use Rattle.joined_tables.proofs.Choosing.{choices_bring}
use Rattle.joined_tables.proofs.Gathering.{joins_lawful, up, pass}
use Rattle.joined_tables.proofs.Mapping.{held_passes, below_seen, ascends_seen, held_seen}
use Rattle.joined_tables.proofs.Wholes.{whole_is}

module _ {E : Type 0} (rows : Rows E) (fair : Fair rows) where
  abbrev k : Kind
  k = table_kind rows

  all_back : (xs : List E) → list_all rows.fine xs ≡ true → AllByRecursion (Back rows.reading rows.writing (λ x. x)) xs
  all_back [] h = tt
  all_back (x ∷ xs) h = let p = and_parts (rows.fine x) (list_all rows.fine xs) h in (λ rest. fair.reads_back x rest p.0, all_back xs p.1)

  -- entries that may be held read back
  pub rows_back : (xs : List E) → length xs ≤ 64 → list_all rows.fine xs ≡ true → wholly (rows_in rows (counted_out rows.writing xs)) ≡ Ok xs
  rows_back xs few h =
      ap (λ l. wholly (rows_in rows l)) (sym (append-nil (counted_out rows.writing xs)))
      ∙ ap wholly (counted_back rows.reading rows.writing (λ x. x) 32 xs [] (omega arith) (cond-true _ _ _ (le-leb (length xs) 64 few)) (all_back xs h))
      ∙ ap Ok (map-id xs)

  -- and they spell what they read back as
  pub rows_spelt : {Spelt : List E → List ℕ → Type 0} → Exactly (rows_in rows) Spelt → (xs : List E) → length xs ≤ 64 → list_all rows.fine xs ≡ true → Spelt xs (counted_out rows.writing xs)
  rows_spelt {Spelt} exact xs few h =
      let bs = counted_out rows.writing xs in
      let t = exact.taken_is_spelt bs xs [] (whole_is (rows_in rows bs) xs (rows_back xs few h)) in
      subst (Spelt xs) (sym (append-nil t.0) ∙ sym t.1) t.2

  clock_seen : (o : Option E) → clock_in (option_map rows.told o) ≡ clock_held rows o
  clock_seen None = refl
  clock_seen (Some x) = refl

  -- what an update for the vector of e leaves out of d, e holds off
  covers : (d e : Table rows) → Covers rows.client rows.above rows.fine (rows.news (k.vector e)) d e
  covers d e c x h f =
      let same : rows.client x ≡ c = held_key rows.client c d.0 x h in
      fair.old_news x (k.vector e) (held rows.client c e.0)
      (held_passes rows.client rows.fine c d.0 x (pass rows.client rows.above rows.fine d) h)
      (ap (λ i. clock_of i (k.vector e)) same ∙ ap clock_in (held_seen rows.client vector_client rows.told fair.same_client c e.0) ∙ clock_seen (held rows.client c e.0))
      f

  module _ (limit : ℕ) (small : limit ≤ 64) where
    brings : (d e : Table rows) → length d.0 ≤ limit → Brings k d e
    brings d e l =
        let v = k.vector e in
        let news = news_for rows d v in
        let fine = pass_kept rows.client (rows.news v) rows.fine d.0 (pass rows.client rows.above rows.fine d) in
        let few : length news ≤ 64 = omega (arith, few_kept rows.client (rows.news v) d.0) in
        record {
          brought = gather rows.client rows.above rows.fine (none rows.client rows.above rows.fine) news;
          readable = ap (table_of rows) (rows_back news few fine);
          enough = (choices_bring rows.client rows.above rows.fine).enough (rows.news v) d e (covers d e);
        }

    -- the laws, within a limit of at most 64 entries
    pub tables_lawful : Lawful k limit
    tables_lawful =
        let laws = joins_lawful rows.client rows.above rows.fine fair.order fair.decided in
        record {
          associative = laws.associative;
          commutative = laws.commutative;
          idempotent = laws.idempotent;
          neutral = laws.neutral;
          nothing_in_empty = refl;
          brings = brings;
          writable = λ d l. record {
            few = omega (arith, length-map d.0 rows.told);
            ascending = ascends_seen rows.client vector_client rows.told fair.same_client d.0 ∙ up rows.client rows.above rows.fine d;
            ids = below_seen rows.fine rows.told vector_client (2 ^ 53) (λ x f. subst (λ n. n < 2 ^ 53) (sym (fair.same_client x)) (fair.ids x f)) d.0 (pass rows.client rows.above rows.fine d);
            clocks = below_seen rows.fine rows.told (λ (v : VectorEntry). v.clock) (2 ^ 32) fair.clocks d.0 (pass rows.client rows.above rows.fine d);
          };
        }

  -- what was read, and is brought to a table entry by entry, is joined to it
  module _ (limit : ℕ) (d : Table rows) (bytes : List ℕ) where
    abbrev brought : Result (List E) WireFault → Table rows
    brought r = gathered rows.client rows.above rows.fine d r

    joins : (r : Result (List E) WireFault) → is_ok r ≡ true → (u : Table rows) × (table_of rows r ≡ Ok u) × (k.join d u ≡ brought r)
    joins (Ok es) h = (gather rows.client rows.above rows.fine (none rows.client rows.above rows.fine) es, refl, sym (gather_joins rows.client rows.above rows.fine fair.order fair.decided d es))
    joins (Err f) h = absurd (true≢false (sym h))

    module _ (r : Result (List E) WireFault) (reads : r ≡ wholly (rows_in rows bytes)) (whole : is_ok r ≡ true) where
      read_is : k.reading bytes ≡ Ok (joins r whole).0
      read_is = ap (table_of rows) (sym reads) ∙ (joins r whole).1

      size_is : k.size (k.join d (joins r whole).0) ≡ length (brought r).0
      size_is = ap k.size (joins r whole).2

      pub takes_it : length (brought r).0 ≤ limit → (Ok tt ≡ accepts k limit d bytes) × (brought r ≡ taken k limit d bytes)
      takes_it l =
          let t = le-leb (k.size (k.join d (joins r whole).0)) limit (omega (arith, size_is)) in
          (sym (ap (answer_to k limit d) read_is ∙ cond-true _ (Ok tt) (Err TooLarge) t), sym (ap (after k limit d) read_is ∙ cond-true _ (k.join d (joins r whole).0) d t ∙ (joins r whole).2))

      pub too_large : limit < length (brought r).0 → (Err TooLarge ≡ accepts k limit d bytes) × (d ≡ taken k limit d bytes)
      too_large l =
          let t = lt-leb (k.size (k.join d (joins r whole).0)) limit (omega (arith, size_is)) in
          (sym (ap (answer_to k limit d) read_is ∙ cond-false _ (Ok tt) (Err TooLarge) t), sym (ap (after k limit d) read_is ∙ cond-false _ (k.join d (joins r whole).0) d t))
