-- A walk over the entries of an update: what is still to be taken comes to what all of them come to.
use Rattle.std.proofs.Common.{◌≡◌, ℕ, List, ◌∷◌, true, Ok, sym, refl, ap, ◌∙◌, subst}
use Rattle.state_vector.specs.Tables.{ascends}
use Rattle.message.specs.Presence.{Entry}
use Rattle.awareness.specs.declared.change.Change.{Change}
use Rattle.awareness.specs.Calls.{judged}
use Rattle.awareness.specs.Changes.{change_by, changes, noted}
use Rattle.awareness.specs.Record.{Record, client_of, held_of}
use Rattle.awareness.specs.Taking.{received, taken}
use Rattle.awareness.proofs.Judging.{Passes, passes_first, ascends_received}

module _ {S : Type 0} (after : S → ℕ → Change → S) (own now : ℕ) where
  -- of all entries, taken from the records of before and told to who saw, some are still to be taken
  pub record Left (before : List Record) (all : List Entry) (saw : S) (own_here : ℕ) (rows : List Record) (es : List Entry) (seen : S) : Type 0 where
    pub same : own_here ≡ own
    pub up : ascends client_of rows ≡ true
    pub rest : taken own now before all ≡ taken own now rows es
    pub told : noted after saw (changes own now before all) ≡ noted after seen (changes own now rows es)
    pub fine : judged own (taken own now rows es) ≡ Ok tt

  pub all_left : (before : List Record) (all es : List Entry) (saw : S) → es ≡ all → ascends client_of before ≡ true → judged own (taken own now before all) ≡ Ok tt → Left before all saw own before es saw
  all_left before all es saw is up fine = record { same = refl; up = up; rest = ap (taken own now before) (sym is); told = ap (λ es. noted after saw (changes own now before es)) (sym is); fine = subst (λ es. judged own (taken own now before es) ≡ Ok tt) (sym is) fine }

  -- the first of them can be taken
  pub first_passes : (before : List Record) (all : List Entry) (saw : S) (own_here : ℕ) (rows : List Record) (es : List Entry) (e : Entry) (others : List Entry) (seen : S) → Left before all saw own_here rows es seen → es ≡ e ∷ others → Passes own_here now rows e others
  first_passes before all saw own_here rows es e others seen l is = subst (λ n. Passes n now rows e others) (sym l.same) (passes_first own now rows e others l.up (subst (λ es. judged own (taken own now rows es) ≡ Ok tt) is l.fine))

  -- and the others are left then
  pub others_left : (before : List Record) (all : List Entry) (saw : S) (own_here : ℕ) (rows : List Record) (es : List Entry) (e : Entry) (others : List Entry) (seen : S) (own_then : ℕ) (then : List Record) (x : Change) (seen_then : S)
      → Left before all saw own_here rows es seen → es ≡ e ∷ others → own_then ≡ own_here → then ≡ received own_here now rows e → x ≡ change_by own_here (held_of e.client rows) e → seen_then ≡ after seen e.client x
      → Left before all saw own_then then others seen_then
  others_left before all saw own_here rows es e others seen own_then then x seen_then l is o t c s =
      let now_is : then ≡ received own now rows e = t ∙ ap (λ n. received n now rows e) l.same in
      let did : x ≡ change_by own (held_of e.client rows) e = c ∙ ap (λ n. change_by n (held_of e.client rows) e) l.same in
      record {
        same = o ∙ l.same;
        up = subst (λ r. ascends client_of r ≡ true) (sym now_is) (ascends_received own now rows e l.up);
        rest = l.rest ∙ ap (taken own now rows) is ∙ ap (λ r. taken own now r others) (sym now_is);
        told = l.told ∙ ap (λ es. noted after seen (changes own now rows es)) is ∙ ap (λ y. noted after (after seen e.client y) (changes own now (received own now rows e) others)) (sym did) ∙ ap (λ u. noted after u (changes own now (received own now rows e) others)) (sym s) ∙ ap (λ r. noted after seen_then (changes own now r others)) (sym now_is);
        fine = subst (λ r. judged own (taken own now r others) ≡ Ok tt) (sym now_is) (subst (λ es. judged own (taken own now rows es) ≡ Ok tt) is l.fine);
      }
