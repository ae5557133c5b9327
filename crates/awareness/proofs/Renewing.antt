-- The record that comes in with an entry is the entry's own, unless the one held is raised.
use Rattle.std.proofs.Common.{◌≡◌, ℕ, List, true, Some, None, Option, sym, refl, ap, ◌∙◌, ⊎_elim}
use Rattle.std.proofs.lemmas.Bool.{cases_Bool, cond-true, cond-false}
use Rattle.state_vector.specs.Tables.{ascends}
use Rattle.message.specs.Presence.{Entry}
use Rattle.awareness.specs.declared.change.Change.{Change}
use Rattle.awareness.specs.declared.change.Change.TheVariants.{Kept, Hidden, Added, Repeated, Changed, Raised, Removed}
use Rattle.awareness.specs.Record.{Record, client_of, held_of, outranks}
use Rattle.awareness.specs.Changes.{change_by, comes_by, come_in, taken_over}
use Rattle.awareness.specs.Taking.{defies, lifted, newcomer, plain, received, stored}
use Rattle.awareness.proofs.Coming.{received_is}
use mathlib.Core.Bool.{cond}

some_by : (x : Change) (n : Record) → (x ≡ Kept → ⊥) → comes_by x n ≡ Some n
some_by Kept n k = absurd (k refl)
some_by Hidden n k = refl
some_by Added n k = refl
some_by Repeated n k = refl
some_by Changed n k = refl
some_by Raised n k = refl
some_by Removed n k = refl

module _ (own now : ℕ) (e : Entry) where
  newcomer_is : (o : Option Record) → (change_by own o e ≡ Raised → ⊥) → newcomer own now o e ≡ plain now e
  newcomer_is None h = refl
  newcomer_is (Some r) h =
      ⊎_elim
      (λ d. absurd (h (cond-true (defies own r e) Raised (cond (outranks e.clock e.state r.clock r.state) (taken_over r.state e.state) Kept) d)))
      (λ d. cond-false (defies own r e) (lifted now r e) (plain now e) d)
      (cases_Bool (defies own r e))

  module _ (rows : List Record) (up : ascends client_of rows ≡ true) (x : Change) (is : x ≡ change_by own (held_of e.client rows) e) where
    -- an entry that does nothing leaves the records as they were
    pub kept_rows : x ≡ Kept → rows ≡ received own now rows e
    kept_rows kept = sym (received_is own now rows e up ∙ ap (λ y. come_in rows (comes_by y (newcomer own now (held_of e.client rows) e))) (sym is ∙ kept))

    -- any other that raises nothing is stored as it came
    pub renewed_rows : (x ≡ Kept → ⊥) → (x ≡ Raised → ⊥) → received own now rows e ≡ stored rows (plain now e)
    renewed_rows kept raised =
        received_is own now rows e up
        ∙ ap (λ y. come_in rows (comes_by y (newcomer own now (held_of e.client rows) e))) (sym is)
        ∙ ap (come_in rows) (some_by x (newcomer own now (held_of e.client rows) e) kept)
        ∙ ap (stored rows) (newcomer_is (held_of e.client rows) (λ r. raised (is ∙ r)))
