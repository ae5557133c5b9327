-- Entries that are written and read back, and entries that were read and are written again.
use Rattle.std.proofs.Common.{◌≡◌, ℕ, zero, suc, ◌+◌, ◌-◌, ◌^◌, ◌≤◌, List, [], ◌∷◌, ◌++◌, map, length, Ok, sym, refl, ap, ◌∙◌, subst, append_assoc, arith, length-append}
use Rattle.std.specs.List.{AllByRecursion}
use Rattle.encoding.specs.Entries.{entries}
use Rattle.encoding.specs.Fields.{count, count_in}
use Rattle.encoding.specs.Reading.{Reading, thence, named}
use Rattle.encoding.specs.VarUint.{var_uint}
use Rattle.encoding.specs.Writing.{shortest, row_out, counted_out}
use Rattle.encoding.proofs.Backs.{fields_read_back, never_longer}
use Rattle.encoding.proofs.Exacts.{ok_is, came, named_came, tested}

module _ {X Y : Type 0} (one : List ℕ → Reading Y) (out : X → List ℕ) (as_read : X → Y) where
  -- an entry reads back, whatever follows it
  abbrev pub Back : X → Type 0
  Back x = (rest : List ℕ) → one (out x ++ rest) ≡ Ok (as_read x, rest)

  -- and so do entries one after another
  pub row_back : (xs : List X) (rest : List ℕ) → AllByRecursion Back xs → entries one (length xs) (row_out out xs ++ rest) ≡ Ok (map as_read xs, rest)
  row_back [] rest h = refl
  row_back (x ∷ xs) rest h =
      ap (λ s. thence (one s) (λ y after. named (λ ys. y ∷ ys) (entries one (length xs) after))) (append_assoc (out x) (row_out out xs) rest)
      ∙ ap (λ r. thence r (λ y after. named (λ ys. y ∷ ys) (entries one (length xs) after))) (h.0 (row_out out xs ++ rest))
      ∙ ap (named (λ ys. as_read x ∷ ys)) (row_back xs rest h.1)

  -- with their count in front, at every width of seven bits or more
  pub counted_back : (width : ℕ) (xs : List X) (rest : List ℕ) → 7 ≤ width → count (length xs) ≡ Ok tt → AllByRecursion Back xs → thence (count_in width (counted_out out xs ++ rest)) (entries one) ≡ Ok (map as_read xs, rest)
  counted_back width xs rest wide few h =
      ap (λ s. thence (count_in width s) (entries one)) (append_assoc (shortest (length xs)) (row_out out xs) rest)
      ∙ ap (λ r. thence r (entries one)) (fields_read_back.counts width (length xs) (row_out out xs ++ rest) wide few)
      ∙ row_back xs rest h

module _ {X : Type 0} (one : List ℕ → Reading X) (out : X → List ℕ) where
  -- what was read as an entry is no longer when it is written again
  abbrev pub Shrinks : Type 0
  Shrinks = (s rest : List ℕ) (x : X) → one s ≡ Ok (x, rest) → length (out x) + length rest ≤ length s

  -- and so are entries one after another
  pub row_shrinks : Shrinks → (n : ℕ) (s rest : List ℕ) (xs : List X) → entries one n s ≡ Ok (xs, rest) → length (row_out out xs) + length rest ≤ length s
  row_shrinks h zero s rest xs e = let q = ok_is e in omega (arith, ap (λ l. length (row_out out l)) q.0, ap length q.1)
  row_shrinks h (suc n) s rest xs e =
      let c = came one (λ x after. named (λ ys. x ∷ ys) (entries one n after)) s xs rest (one s) refl e in
      let d = named_came (λ ys. c.0 ∷ ys) (entries one n) c.1 xs rest (entries one n c.1) refl c.3 in
      let a = h s c.1 c.0 c.2 in
      let b = row_shrinks h n c.1 rest d.0 d.1 in
      omega (arith, ap (λ l. length (row_out out l)) d.2, length-append (out c.0) (row_out out d.0))

  -- so many entries were read as were asked for
  pub entries_long : (n : ℕ) (s rest : List ℕ) (xs : List X) → entries one n s ≡ Ok (xs, rest) → length xs ≡ n
  entries_long zero s rest xs e = ap length (sym (ok_is e).0)
  entries_long (suc n) s rest xs e =
      let c = came one (λ x after. named (λ ys. x ∷ ys) (entries one n after)) s xs rest (one s) refl e in
      let d = named_came (λ ys. c.0 ∷ ys) (entries one n) c.1 xs rest (entries one n c.1) refl c.3 in
      let l = entries_long n c.1 rest d.0 d.1 in
      omega (arith, ap length d.2)

  -- a count that was read, and what follows it
  pub counted_came : (width : ℕ) (s rest : List ℕ) (xs : List X) → thence (count_in width s) (entries one) ≡ Ok (xs, rest) → (mid : List ℕ) × (count (length xs) ≡ Ok tt) × (length (shortest (length xs)) + length mid ≤ length s) × (entries one (length xs) mid ≡ Ok (xs, rest))
  counted_came width s rest xs e =
      let c = came (count_in width) (entries one) s xs rest (count_in width s) refl e in
      let t = tested count (var_uint (2 ^ width - 1)) s c.0 c.1 (var_uint (2 ^ width - 1) s) refl c.2 in
      let k = entries_long c.0 c.1 rest xs c.3 in
      let l = never_longer.numbers (2 ^ width - 1) c.0 s c.1 t.0 in
      (c.1, subst (λ n. count n ≡ Ok tt) (sym k) t.1, subst (λ n. length (shortest n) + length c.1 ≤ length s) (sym k) l, subst (λ n. entries one n c.1 ≡ Ok (xs, rest)) (sym k) c.3)
