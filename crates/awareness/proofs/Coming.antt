-- What an entry does to the records, by the record that comes in with it.
use Rattle.std.proofs.Common.{◌≡◌, ℕ, ◌+◌, ◌≤◌, Bool, true, false, cond, eqb, leb, ltb, List, length, ◌&&◌, is_ok, is_some, is_none, Some, None, Ok, Err, Option, sym, refl, ap, ◌∙◌, subst, ⊎_elim, arith}
use Rattle.std.proofs.lemmas.Bool.{cases_Bool, cond-true, cond-false, and_parts, or_left, leb-true, lt-ltb}
use Rattle.state_vector.specs.Tables.{always, ascends, entered, raised, updated, full, answer, outcome}
use Rattle.state_vector.specs.declared.keyed.Outcome.{Outcome}
use Rattle.state_vector.specs.declared.keyed.Outcome.TheVariants.{Inserted}
use Rattle.state_vector.specs.declared.keyed.TableFull.{TableFull}
use Rattle.state_vector.proofs.Keys.{held_key}
use Rattle.message.specs.Presence.{Entry}
use Rattle.awareness.specs.declared.change.Change.TheVariants.{Kept, Hidden, Added, Repeated, Changed, Raised}
use Rattle.awareness.specs.Changes.{taken_over, same, comes_by, comes, come_in}
use Rattle.awareness.specs.Record.{Record, Clients, client_of, above, held_of, outranks}
use Rattle.awareness.specs.Taking.{plain, defies, lifted, newcomer, received, stored}
use Rattle.awareness.proofs.Entered.{entered_alike, entered_kept, has_place}

module _ (own now : ℕ) (rows : List Record) (e : Entry) (up : ascends client_of rows ≡ true) where
  -- where the newcomer has the entry's client and stands above what is held, it takes its place
  goes_in : (r : Record) → r.client ≡ e.client → raised above (held_of e.client rows) r ≡ r → entered client_of above rows r ≡ stored rows r
  goes_in r c stays = entered_alike client_of above always rows r up (subst (λ n. raised above (held_of n rows) r ≡ raised always (held_of n rows) r) (sym c) (stays ∙ sym (always_stays (held_of e.client rows)))) where
    always_stays : (o : Option Record) → raised always o r ≡ r
    always_stays None = refl
    always_stays (Some h) = refl

  -- a record that was taken over is replaced by the entry
  taken_comes : (s t : Option (List ℕ)) (r : Record) → comes_by (taken_over s t) r ≡ Some r
  taken_comes s None r = refl
  taken_comes s (Some bs) r = by (same s bs) where
    by : (b : Bool) → comes_by (cond b Repeated Changed) r ≡ Some r
    by true = refl
    by false = refl

  -- where nothing is held
  comes_new : held_of e.client rows ≡ None → received own now rows e ≡ come_in rows (comes own now None e)
  comes_new is = ap (λ o. entered client_of above rows (newcomer own now o e)) is ∙ goes_in (plain now e) refl (ap (λ o. raised above o (plain now e)) is) ∙ by (is_some e.state) where
    by : (b : Bool) → stored rows (plain now e) ≡ come_in rows (comes_by (cond b Added Hidden) (plain now e))
    by true = refl
    by false = refl

  -- where a record is held, by the two questions that are put to it
  module _ (r : Record) (is : held_of e.client rows ≡ Some r) where
    newcomer_is : (n : Record) → newcomer own now (Some r) e ≡ n → received own now rows e ≡ entered client_of above rows n
    newcomer_is n q = ap (λ o. entered client_of above rows (newcomer own now o e)) is ∙ ap (entered client_of above rows) q

    comes_raised : defies own r e ≡ true → received own now rows e ≡ come_in rows (comes own now (Some r) e)
    comes_raised d =
        let l = (and_parts (is_none e.state) (leb r.clock e.clock) (and_parts (is_some r.state) (is_none e.state && leb r.clock e.clock) (and_parts (eqb r.client own) (is_some r.state && (is_none e.state && leb r.clock e.clock)) d).1).1).1 in
        let higher : above (lifted now r e) r ≡ true = or_left (ltb r.clock (e.clock + 1)) _ (lt-ltb r.clock (e.clock + 1) (omega (arith, leb-true r.clock e.clock l))) in
        newcomer_is (lifted now r e) (cond-true (defies own r e) (lifted now r e) (plain now e) d)
        ∙ goes_in (lifted now r e) (held_key client_of e.client rows r is) (ap (λ o. raised above o (lifted now r e)) is ∙ cond-true (above (lifted now r e) r) (lifted now r e) r higher)
        ∙ sym (ap (λ b. come_in rows (comes_by (cond b Raised (cond (outranks e.clock e.state r.clock r.state) (taken_over r.state e.state) Kept)) (cond b (lifted now r e) (plain now e)))) d)

    comes_else : defies own r e ≡ false → received own now rows e ≡ come_in rows (comes own now (Some r) e)
    comes_else d =
        let start = newcomer_is (plain now e) (cond-false (defies own r e) (lifted now r e) (plain now e) d) in
        let end = sym (ap (λ b. come_in rows (comes_by (cond b Raised (cond (outranks e.clock e.state r.clock r.state) (taken_over r.state e.state) Kept)) (cond b (lifted now r e) (plain now e)))) d) in
        ⊎_elim
        (λ (t : outranks e.clock e.state r.clock r.state ≡ true).
        start ∙ goes_in (plain now e) refl (ap (λ o. raised above o (plain now e)) is ∙ cond-true (above (plain now e) r) (plain now e) r t)
        ∙ sym (ap (λ b. come_in rows (comes_by (cond b (taken_over r.state e.state) Kept) (plain now e))) t ∙ ap (come_in rows) (taken_comes r.state e.state (plain now e))) ∙ end)
        (λ (f : outranks e.clock e.state r.clock r.state ≡ false).
        start ∙ entered_kept client_of above rows (plain now e) r up is (cond-false (above (plain now e) r) (plain now e) r f)
        ∙ sym (ap (λ b. come_in rows (comes_by (cond b (taken_over r.state e.state) Kept) (plain now e))) f) ∙ end)
        (cases_Bool (outranks e.clock e.state r.clock r.state))

  comes_held : (o : Option Record) → held_of e.client rows ≡ o → received own now rows e ≡ come_in rows (comes own now o e)
  comes_held None is = comes_new is
  comes_held (Some r) is = ⊎_elim (comes_raised r is) (comes_else r is) (cases_Bool (defies own r e))

  pub received_is : received own now rows e ≡ come_in rows (comes own now (held_of e.client rows) e)
  received_is = comes_held (held_of e.client rows) refl

-- a record that finds a place is put there
pub put_passes : (rows : List Record) (r : Record) → length (stored rows r) ≤ 64 → (is_ok (outcome client_of always 64 rows r) ≡ true) × (updated client_of 64 rows r ≡ stored rows r)
put_passes rows r l = let f = has_place client_of always 64 rows r l in (passes (held_of r.client rows) f, cond-false (full client_of 64 rows r) rows (stored rows r) f) where
  passes : (o : Option Record) → cond (is_some o) false (leb 64 (length rows)) ≡ false → is_ok (answer always (leb 64 (length rows)) o r) ≡ true
  passes None f = ap (λ b. is_ok {T = Outcome} {E = TableFull} (cond b (Err (record {})) (Ok Inserted))) f
  passes (Some h) f = refl

-- the record that came in with an entry was put in its place; own and rows are those of a
pub record CameIn (a : Clients) (now : ℕ) (e : Entry) (rows : List Record) (r : Record) : Type 0 where
  pub passes : is_ok (outcome client_of always 64 rows r) ≡ true
  pub put : updated client_of 64 rows r ≡ stored rows r
  pub is : stored rows r ≡ received a.own now a.rows e

pub came_in : (a : Clients) (own now : ℕ) (rows : List Record) (e : Entry) (r : Record) (o : Option Record) → record { own = own; rows = rows } ≡ a → ascends client_of rows ≡ true → o ≡ comes a.own now (held_of e.client a.rows) e → o ≡ Some r → length (received a.own now a.rows e) ≤ 64 → CameIn a now e rows r
came_in a own now rows e r o same up comes_so is l =
    let came : received own now rows e ≡ stored rows r = received_is own now rows e up ∙ ap (come_in rows) (subst (λ b. comes b.own now (held_of e.client b.rows) e ≡ o) (sym same) (sym comes_so) ∙ is) in
    let fits : length (stored rows r) ≤ 64 = subst (λ l. length l ≤ 64) came (subst (λ b. length (received b.own now b.rows e) ≤ 64) (sym same) l) in
    let p = put_passes rows r fits in
    record { passes = p.0; put = p.1; is = sym came ∙ ap (λ b. received b.own now b.rows e) same }

none_is : (o : Option Record) → ((r : Record) → o ≡ Some r → ⊥) → o ≡ None
none_is None h = refl
none_is (Some r) h = absurd (h r refl)

-- where none came in, the records are as they were
pub came_none : (a : Clients) (own now : ℕ) (rows : List Record) (e : Entry) (o : Option Record) → record { own = own; rows = rows } ≡ a → ascends client_of rows ≡ true → o ≡ comes a.own now (held_of e.client a.rows) e → ((r : Record) → o ≡ Some r → ⊥) → a.rows ≡ received a.own now a.rows e
came_none a own now rows e o same up comes_so none =
    sym (received_is a.own now a.rows e (subst (λ b. ascends client_of b.rows ≡ true) same up) ∙ ap (come_in a.rows) (sym comes_so ∙ none_is o none))
