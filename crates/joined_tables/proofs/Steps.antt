-- Entries that are read off the bytes and brought to a table, one after another.
use Rattle.std.proofs.Common.{◌≡◌, ℕ, ◌+◌, ◌≤◌, Bool, true, false, leb, List, [], ◌∷◌, length, is_ok, Ok, Err, Result, sym, refl, ap, ◌∙◌, arith}
use Rattle.std.proofs.lemmas.Bool.{true≢false, leb-false, lt-leb}
use Rattle.encoding.specs.declared.fault.WireFault.{WireFault}
use Rattle.encoding.specs.Entries.{entries}
use Rattle.encoding.specs.Reading.{Reading, named}
use Rattle.encoding.proofs.Counted.{entries_long}
use Rattle.joined_tables.specs.Joined.{Sound, enter, gathered}
use Rattle.joined_tables.specs.Whole.{wholly}
use Rattle.joined_tables.proofs.Arriving.{gather_grows, gather_few}
use Rattle.joined_tables.proofs.Wholes.{renamed, wholly_named}

module _ {E : Type 0} (key : E → ℕ) (above : E → E → Bool) (fine : E → Bool) where
  pub gathered_grows : (d : Sound key fine) (r : Result (List E) WireFault) → length d.0 ≤ length (gathered key above fine d r).0
  gathered_grows d (Ok es) = gather_grows key above fine d es
  gathered_grows d (Err f) = omega arith

  first : (d : Sound key fine) (e : E) (r : Result (List E) WireFault) → is_ok (renamed (λ es. e ∷ es) r) ≡ true → gathered key above fine d (renamed (λ es. e ∷ es) r) ≡ gathered key above fine (enter key above fine d e) r
  first d e (Ok es) h = refl
  first d e (Err f) h = absurd (true≢false (sym h))

  -- an entry is read, and the others are due after it
  module _ (e : E) (due after : Reading (List E)) (readable : is_ok (wholly due) ≡ true) (step : due ≡ named (λ es. e ∷ es) after) where
    more : wholly due ≡ renamed (λ es. e ∷ es) (wholly after)
    more = ap wholly step ∙ wholly_named (λ es. e ∷ es) after

    pub gathered_more : (d : Sound key fine) → gathered key above fine d (wholly due) ≡ gathered key above fine (enter key above fine d e) (wholly after)
    gathered_more d = ap (gathered key above fine d) more ∙ first d e (wholly after) (ap is_ok (sym more) ∙ readable)

    -- where it finds no place, the table that all of them make has none
    pub no_room : (cap : ℕ) (d all : Sound key fine) → gathered key above fine d (wholly due) ≡ all → leb (length (enter key above fine d e).0) cap ≡ false → leb (length all.0) cap ≡ false
    no_room cap d all is over =
        let next = enter key above fine d e in
        ap (λ (t : Sound key fine). leb (length t.0) cap) (sym is ∙ gathered_more d) ∙ lt-leb _ cap (omega (arith, leb-false (length next.0) cap over, gathered_grows next (wholly after)))

  -- none is due
  pub gathered_all : (due : Reading (List E)) (rest : List ℕ) (d : Sound key fine) → due ≡ Ok ([], rest) → gathered key above fine d (wholly due) ≡ d
  gathered_all due rest d h = ap (λ r. gathered key above fine d (wholly r)) h ∙ none_left rest
    where
      none_left : (s : List ℕ) → gathered key above fine d (wholly (Ok ([], s))) ≡ d
      none_left [] = refl
      none_left (b ∷ bs) = refl

  -- as many as there are places for come in
  pub gathered_few : (one : List ℕ → Reading E) (n : ℕ) (s : List ℕ) (d : Sound key fine) → length (gathered key above fine d (wholly (entries one n s))).0 ≤ length d.0 + n
  gathered_few one n s d = by_read (entries one n s) refl
    where
      by_read : (r : Reading (List E)) → entries one n s ≡ r → length (gathered key above fine d (wholly r)).0 ≤ length d.0 + n
      by_read (Ok (es, [])) h = omega (arith, gather_few key above fine d es, entries_long one (λ _. []) n s [] es h)
      by_read (Ok (es, b ∷ bs)) h = omega arith
      by_read (Err f) h = omega arith
