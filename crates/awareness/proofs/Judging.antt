-- What an update comes to, before any of its entries is taken.
use Rattle.std.proofs.Common.{◌≡◌, ℕ, ◌+◌, ◌^◌, ◌≤◌, Bool, true, false, cond, not, ◌&&◌, ◌||◌, eqb, leb, ltb, List, [], ◌∷◌, length, is_some, is_none, Some, None, Ok, Err, Option, Result, sym, refl, ap, ◌∙◌, subst, ⊎_elim, arith}
use Rattle.std.specs.Result.{result_and}
use Rattle.std.proofs.lemmas.Bool.{cases_Bool, cases_eq, cond-true, cond-false, cond_both, and_parts, or_left, or_right, leb-true, leb-false, le-leb, lt-ltb, ltb-true, ltb-false, ne_eqb, eqb-true, or_parts, true≢false}
use Rattle.state_vector.specs.Tables.{ascends, better, raised}
use Rattle.state_vector.proofs.Entering.{ascends_entered, held_own, held_other, length_kept}
use Rattle.state_vector.proofs.Keys.{held_key}
use Rattle.message.specs.Presence.{Entry}
use Rattle.awareness.specs.declared.fault.PresenceFault.{PresenceFault}
use Rattle.awareness.specs.declared.fault.PresenceFault.TheVariants.{TooManyClients, ClockAtEnd}
use Rattle.awareness.specs.Calls.{judged, past_end}
use Rattle.awareness.specs.Record.{Record, client_of, above, held_of}
use Rattle.awareness.specs.Taking.{plain, defies, rises, lifted, newcomer, received, taken}

module _ (own now : ℕ) where
  -- the record that comes in has the entry's client
  pub same_client : (o : Option Record) (e : Entry) → ((r : Record) → o ≡ Some r → r.client ≡ e.client) → (newcomer own now o e).client ≡ e.client
  same_client None e h = refl
  same_client (Some r) e h = cond_both (defies own r e) (lifted now r e) (plain now e) (λ n. n.client ≡ e.client) (λ _. h r refl) (λ _. refl)

  module _ (rows : List Record) (e : Entry) where
    pub comes_as : (newcomer own now (held_of e.client rows) e).client ≡ e.client
    comes_as = same_client (held_of e.client rows) e (λ r is. held_key client_of e.client rows r is)

    -- what is held afterwards of the entry's client, and of any other
    pub held_then : ascends client_of rows ≡ true → held_of e.client (received own now rows e) ≡ Some (raised above (held_of e.client rows) (newcomer own now (held_of e.client rows) e))
    held_then up = subst (λ c. held_of c (received own now rows e) ≡ Some (raised above (held_of c rows) (newcomer own now (held_of e.client rows) e))) comes_as (held_own client_of above rows (newcomer own now (held_of e.client rows) e) up)

    pub held_else : (c : ℕ) → (e.client ≡ c → ⊥) → held_of c (received own now rows e) ≡ held_of c rows
    held_else c ne = held_other client_of above c rows (newcomer own now (held_of e.client rows) e) (λ q. ne (sym comes_as ∙ q))

    pub ascends_received : ascends client_of rows ≡ true → ascends client_of (received own now rows e) ≡ true
    ascends_received up = ascends_entered client_of above rows (newcomer own now (held_of e.client rows) e) up

    pub length_received : length rows ≤ length (received own now rows e)
    length_received = length_kept client_of above rows (newcomer own now (held_of e.client rows) e)

  pub ascends_taken : (rows : List Record) (es : List Entry) → ascends client_of rows ≡ true → ascends client_of (taken own now rows es) ≡ true
  ascends_taken rows [] up = up
  ascends_taken rows (e ∷ es) up = ascends_taken (received own now rows e) es (ascends_received rows e up)

  -- no record goes away
  pub length_taken : (rows : List Record) (es : List Entry) → length rows ≤ length (taken own now rows es)
  length_taken rows [] = omega arith
  length_taken rows (e ∷ es) = let h = length_taken (received own now rows e) es in omega (arith, length_received rows e)

-- the clock that is held, or 0
abbrev pub clock_at : Option Record → ℕ
clock_at None = 0
clock_at (Some r) = r.clock

past_by : (o : Option Record) → past_end o ≡ leb (2 ^ 32) (clock_at o)
past_by None = refl
past_by (Some r) = refl

pub past_further : (o p : Option Record) → clock_at o ≤ clock_at p → past_end o ≡ true → past_end p ≡ true
past_further o p l h = past_by p ∙ le-leb (2 ^ 32) (clock_at p) (omega (arith, leb-true (2 ^ 32) (clock_at o) (sym (past_by o) ∙ h)))

module _ (own now : ℕ) where
  -- what stays has a clock that is no lower
  better_higher : (r x : Record) → r.clock ≤ (better above x r).clock
  better_higher r x =
      ⊎_elim
      (λ (t : above x r ≡ true). ap_higher t)
      (λ (f : above x r ≡ false). subst (λ y. r.clock ≤ y.clock) (sym (cond-false (above x r) x r f)) (omega arith))
      (cases_Bool (above x r))
    where
      stands : (b : Bool) → ltb r.clock x.clock ≡ b → above x r ≡ true → r.clock ≤ x.clock
      stands true l t = omega (arith, ltb-true r.clock x.clock l)
      stands false l t = let q = (and_parts (eqb x.clock r.clock) (is_none x.state && is_some r.state) (sym (ap (λ b. b || (eqb x.clock r.clock && (is_none x.state && is_some r.state))) l) ∙ t)).0 in omega (arith, eqb-true x.clock r.clock q)

      ap_higher : above x r ≡ true → r.clock ≤ (better above x r).clock
      ap_higher t = subst (λ y. r.clock ≤ y.clock) (sym (cond-true (above x r) x r t)) (stands (ltb r.clock x.clock) refl t)

  -- and one that is no lower than the newcomer's
  better_covers : (r x : Record) → x.clock ≤ (better above x r).clock
  better_covers r x =
      ⊎_elim
      (λ (t : above x r ≡ true). subst (λ y. x.clock ≤ y.clock) (sym (cond-true (above x r) x r t)) (omega arith))
      (λ (f : above x r ≡ false). subst (λ y. x.clock ≤ y.clock) (sym (cond-false (above x r) x r f)) (omega (arith, ltb-false r.clock x.clock (or_parts (ltb r.clock x.clock) (eqb x.clock r.clock && (is_none x.state && is_some r.state)) f).0)))
      (cases_Bool (above x r))

  raised_higher : (o : Option Record) (x : Record) → clock_at o ≤ (raised above o x).clock
  raised_higher None x = omega arith
  raised_higher (Some r) x = better_higher r x

  -- no clock goes back
  pub clock_received : (rows : List Record) (e : Entry) (c : ℕ) → ascends client_of rows ≡ true → clock_at (held_of c rows) ≤ clock_at (held_of c (received own now rows e))
  clock_received rows e c up =
      ⊎_elim
      (λ (is : e.client ≡ c). subst (λ c. clock_at (held_of c rows) ≤ clock_at (held_of c (received own now rows e))) is
      (subst (λ o. clock_at (held_of e.client rows) ≤ clock_at o) (sym (held_then own now rows e up)) (raised_higher (held_of e.client rows) (newcomer own now (held_of e.client rows) e))))
      (λ (ne : e.client ≡ c → ⊥). subst (λ o. clock_at (held_of c rows) ≤ clock_at o) (sym (held_else own now rows e c ne)) (omega arith))
      (cases_eq e.client c)

  pub clock_taken : (rows : List Record) (es : List Entry) (c : ℕ) → ascends client_of rows ≡ true → clock_at (held_of c rows) ≤ clock_at (held_of c (taken own now rows es))
  clock_taken rows [] c up = omega arith
  clock_taken rows (e ∷ es) c up = let h = clock_taken (received own now rows e) es c (ascends_received own now rows e up) in let k = clock_received rows e c up in omega arith

  -- an own clock that is past its end stays there
  pub past_taken : (rows : List Record) (es : List Entry) → ascends client_of rows ≡ true → past_end (held_of own rows) ≡ true → past_end (held_of own (taken own now rows es)) ≡ true
  past_taken rows es up h = past_further (held_of own rows) (held_of own (taken own now rows es)) (clock_taken rows es own up) h

  -- where the own clock is not past its end afterwards, it could rise
  rises_by : (o : Option Record) (e : Entry) → past_end (Some (raised above o (newcomer own now o e))) ≡ false → rises own o e ≡ true
  rises_by None e h = refl
  rises_by (Some r) e h =
      ⊎_elim
      (λ (d : defies own r e ≡ true).
      let n : newcomer own now (Some r) e ≡ lifted now r e = cond-true (defies own r e) (lifted now r e) (plain now e) d in
      let l : past_end (Some (better above (lifted now r e) r)) ≡ false = subst (λ x. past_end (Some (better above x r)) ≡ false) n h in
      let k = better_covers r (lifted now r e) in
      or_right (not (defies own r e)) (ltb (e.clock + 1) (2 ^ 32)) (lt-ltb (e.clock + 1) (2 ^ 32) (omega (arith, leb-false (2 ^ 32) (better above (lifted now r e) r).clock l))))
      (λ (d : defies own r e ≡ false). or_left (not (defies own r e)) (ltb (e.clock + 1) (2 ^ 32)) (ap not d))
      (cases_Bool (defies own r e))

  not_own : (o : Option Record) (e : Entry) → ((r : Record) → o ≡ Some r → r.client ≡ own → ⊥) → rises own o e ≡ true
  not_own None e h = refl
  not_own (Some r) e h = ap (λ b. not (b && (is_some r.state && (is_none e.state && leb r.clock e.clock))) || ltb (e.clock + 1) (2 ^ 32)) (ne_eqb r.client own (h r refl))

  pub rises_first : (rows : List Record) (e : Entry) → ascends client_of rows ≡ true → past_end (held_of own (received own now rows e)) ≡ false → rises own (held_of e.client rows) e ≡ true
  rises_first rows e up h =
      ⊎_elim
      (λ (is : e.client ≡ own). rises_by (held_of e.client rows) e (sym (ap past_end (held_then own now rows e up)) ∙ subst (λ c. past_end (held_of c (received own now rows e)) ≡ false) (sym is) h))
      (λ (ne : e.client ≡ own → ⊥). not_own (held_of e.client rows) e (λ r is q. ne (sym (held_key client_of e.client rows r is) ∙ q)))
      (cases_eq e.client own)

-- what the judgement of a row says of its first entry and of the others
pub record Passes (own now : ℕ) (rows : List Record) (e : Entry) (es : List Entry) : Type 0 where
  pub room : length (received own now rows e) ≤ 64
  pub rises : rises own (held_of e.client rows) e ≡ true
  pub up : ascends client_of (received own now rows e) ≡ true

abbrev verdict : Bool → Bool → Result (Unit {0}) PresenceFault
verdict many past = result_and {T = Unit {0}} (cond many (Err TooManyClients) (Ok tt)) (cond past (Err ClockAtEnd) (Ok tt))

verdict_parts : (many past : Bool) → verdict many past ≡ Ok tt → (many ≡ false) × (past ≡ false)
verdict_parts true past h = cc
verdict_parts false true h = cc
verdict_parts false false h = (refl, refl)

judged_parts : (n : ℕ) (o : Option Record) → verdict (ltb 64 n) (past_end o) ≡ Ok tt → (n ≤ 64) × (past_end o ≡ false)
judged_parts n o h = let p = verdict_parts (ltb 64 n) (past_end o) h in (omega (arith, ltb-false 64 n p.0), p.1)

pub passes_first : (own now : ℕ) (rows : List Record) (e : Entry) (es : List Entry) → ascends client_of rows ≡ true → judged own (taken own now rows (e ∷ es)) ≡ Ok tt → Passes own now rows e es
passes_first own now rows e es up h =
    let p = judged_parts (length (taken own now rows (e ∷ es))) (held_of own (taken own now rows (e ∷ es))) h in
    let then = received own now rows e in
    let l = length_taken own now then es in
    let fine : (b : Bool) → past_end (held_of own then) ≡ b → past_end (held_of own then) ≡ false = λ b. by_past b in
    record { room = omega (arith, p.0); rises = rises_first own now rows e up (fine (past_end (held_of own then)) refl); up = ascends_received own now rows e up }
  where
    by_past : (b : Bool) → past_end (held_of own (received own now rows e)) ≡ b → past_end (held_of own (received own now rows e)) ≡ false
    by_past false q = q
    by_past true q = absurd (true≢false (sym (past_taken own now (received own now rows e) es (ascends_received own now rows e up) q) ∙ (judged_parts (length (taken own now rows (e ∷ es))) (held_of own (taken own now rows (e ∷ es))) h).1))
