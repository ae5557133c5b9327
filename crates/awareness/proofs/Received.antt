-- What is held of each client after one entry came, and what stays so after a row of them.
use Rattle.std.proofs.Common.{◌≡◌, ℕ, ◌+◌, true, List, [], ◌∷◌, ◌++◌, Some, None, Option, sym, refl, ap, ◌∙◌, subst, ⊎_elim, arith}
use Rattle.std.proofs.lemmas.Bool.{cases_Bool, cases_eq, or_left, cond-true, cond-false, cond_both, lt-ltb}
use Rattle.state_vector.specs.Tables.{ascends, always, better, raised}
use Rattle.state_vector.proofs.Entering.{ascends_entered, held_own, held_other}
use Rattle.state_vector.proofs.Keys.{held_key}
use Rattle.message.specs.Presence.{Entry}
use Rattle.awareness.specs.Record.{Record, client_of, above, held_of}
use Rattle.awareness.specs.Taking.{plain, defies, lifted, met, newcomer, received, taken, stored}
use Rattle.awareness.specs.Newest.{Update, taken_in_turn, WinnersAreStored}
use Rattle.awareness.proofs.Verdicts.{raises}

-- the record of an entry's client after it came, by what was held
abbrev pub left : ℕ → ℕ → Option Record → Entry → Record
left own now None e = plain now e
left own now (Some r) e = met own now r e

-- what is held, if anything is, is of client c
abbrev pub Of : ℕ → Option Record → Type 0
Of c None = Unit {0}
Of c (Some r) = r.client ≡ c

pub held_is_of : (c : ℕ) (rows : List Record) → Of c (held_of c rows)
held_is_of c rows = by_held (held_of c rows) refl where
  by_held : (o : Option Record) → held_of c rows ≡ o → Of c o
  by_held None is = tt
  by_held (Some r) is = held_key client_of c rows r is

-- what defied a null stands above what was held
lifted_above : (own now : ℕ) (r : Record) (e : Entry) → defies own r e ≡ true → above (lifted now r e) r ≡ true
lifted_above own now r e d = or_left _ _ (lt-ltb r.clock (e.clock + 1) (let low = ((raises own r e).0 d).3 in omega arith))

raised_left : (own now : ℕ) (o : Option Record) (e : Entry) → raised above o (newcomer own now o e) ≡ left own now o e
raised_left own now None e = refl
raised_left own now (Some r) e =
    ⊎_elim
    (λ d. ap (λ n. better above n r) (cond-true (defies own r e) (lifted now r e) (plain now e) d)
    ∙ cond-true (above (lifted now r e) r) (lifted now r e) r (lifted_above own now r e d)
    ∙ sym (cond-true (defies own r e) (lifted now r e) (better above (plain now e) r) d))
    (λ d. ap (λ n. better above n r) (cond-false (defies own r e) (lifted now r e) (plain now e) d)
    ∙ sym (cond-false (defies own r e) (lifted now r e) (better above (plain now e) r) d))
    (cases_Bool (defies own r e))

module _ (own now : ℕ) where
  -- what an entry brings is of its client
  newcomer_client : (rows : List Record) (e : Entry) → client_of (newcomer own now (held_of e.client rows) e) ≡ e.client
  newcomer_client rows e = by_held (held_of e.client rows) (held_is_of e.client rows) where
    by_held : (o : Option Record) → Of e.client o → client_of (newcomer own now o e) ≡ e.client
    by_held None is = refl
    by_held (Some r) is = cond_both (defies own r e) (lifted now r e) (plain now e) (λ x. client_of x ≡ e.client) (λ _. is) (λ _. refl)

  -- the record of the entry's client
  pub held_left : (rows : List Record) (e : Entry) (c : ℕ) → ascends client_of rows ≡ true → e.client ≡ c → held_of c (received own now rows e) ≡ Some (left own now (held_of c rows) e)
  held_left rows e c up is =
      let n : Record = newcomer own now (held_of e.client rows) e in
      let of_entry : held_of e.client (received own now rows e) ≡ Some (left own now (held_of e.client rows) e) =
      subst (λ k. held_of k (received own now rows e) ≡ Some (raised above (held_of k rows) n)) (newcomer_client rows e) (held_own client_of above rows n up)
      ∙ ap Some (raised_left own now (held_of e.client rows) e) in
      subst (λ k. held_of k (received own now rows e) ≡ Some (left own now (held_of k rows) e)) is of_entry

  -- and that of each other
  pub held_else : (rows : List Record) (e : Entry) (c : ℕ) → (e.client ≡ c → ⊥) → held_of c (received own now rows e) ≡ held_of c rows
  held_else rows e c ne = held_other client_of above c rows (newcomer own now (held_of e.client rows) e) (λ q. ne (sym (newcomer_client rows e) ∙ q))

  pub ascends_received : (rows : List Record) (e : Entry) → ascends client_of rows ≡ true → ascends client_of (received own now rows e) ≡ true
  ascends_received rows e up = ascends_entered client_of above rows (newcomer own now (held_of e.client rows) e) up

  pub ascends_taken : (rows : List Record) (es : List Entry) → ascends client_of rows ≡ true → ascends client_of (taken own now rows es) ≡ true
  ascends_taken rows [] up = up
  ascends_taken rows (e ∷ es) up = ascends_taken (received own now rows e) es (ascends_received rows e up)

  -- two rows, one after the other
  pub taken_append : (rows : List Record) (es fs : List Entry) → taken own now rows (es ++ fs) ≡ taken own now (taken own now rows es) fs
  taken_append rows [] fs = refl
  taken_append rows (e ∷ es) fs = taken_append (received own now rows e) es fs

  -- what each entry of a client leaves true of its record stays so
  module _ (c : ℕ) (P : Option Record → Type 0) (step : (o : Option Record) (e : Entry) → e.client ≡ c → Of c o → P o → P (Some (left own now o e))) where
    pub stays_received : (rows : List Record) (e : Entry) → ascends client_of rows ≡ true → P (held_of c rows) → P (held_of c (received own now rows e))
    stays_received rows e up p =
        ⊎_elim
        (λ (is : e.client ≡ c). subst P (sym (held_left rows e c up is)) (step (held_of c rows) e is (held_is_of c rows) p))
        (λ (ne : e.client ≡ c → ⊥). subst P (sym (held_else rows e c ne)) p)
        (cases_eq e.client c)

    pub stays_taken : (rows : List Record) (es : List Entry) → ascends client_of rows ≡ true → P (held_of c rows) → P (held_of c (taken own now rows es))
    stays_taken rows [] up p = p
    stays_taken rows (e ∷ es) up p = stays_taken (received own now rows e) es (ascends_received rows e up) (stays_received rows e up p)

-- after updates, each at its own time
module _ (own : ℕ) where
  pub ascends_in_turn : (rows : List Record) (us : List Update) → ascends client_of rows ≡ true → ascends client_of (taken_in_turn own rows us) ≡ true
  ascends_in_turn rows [] up = up
  ascends_in_turn rows (u ∷ us) up = ascends_in_turn (taken own u.time rows u.entries) us (ascends_taken own u.time rows u.entries up)

  pub stays_in_turn : (c : ℕ) (P : Option Record → Type 0) (step : (now : ℕ) (o : Option Record) (e : Entry) → e.client ≡ c → Of c o → P o → P (Some (left own now o e)))
      (rows : List Record) (us : List Update) → ascends client_of rows ≡ true → P (held_of c rows) → P (held_of c (taken_in_turn own rows us))
  stays_in_turn c P step rows [] up p = p
  stays_in_turn c P step rows (u ∷ us) up p =
      stays_in_turn c P step (taken own u.time rows u.entries) us (ascends_taken own u.time rows u.entries up) (stays_taken own u.time c P (step u.time) rows u.entries up p)

-- what is held after a record came that always takes its place
pub held_stored : (rows : List Record) (r : Record) → ascends client_of rows ≡ true → held_of r.client (stored rows r) ≡ Some r
held_stored rows r up = held_own client_of always rows r up ∙ ap Some (first (held_of r.client rows)) where
  first : (o : Option Record) → raised always o r ≡ r
  first None = refl
  first (Some x) = refl

pub held_besides : (rows : List Record) (r : Record) (c : ℕ) → (r.client ≡ c → ⊥) → held_of c (stored rows r) ≡ held_of c rows
held_besides rows r c ne = held_other client_of always c rows r ne

pub winners_are_stored : WinnersAreStored
winners_are_stored own now rows e r up is = held_left own now rows e e.client up refl ∙ ap (λ o. Some (left own now o e)) is
