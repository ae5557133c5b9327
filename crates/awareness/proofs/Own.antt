-- What entries do to the own record: a text stays, and the clock leads.
use Rattle.std.proofs.Common.{◌≡◌, ℕ, ◌+◌, ◌<◌, ◌≤◌, true, false, ◌≢◌, List, [], ◌∷◌, Contains, Some, None, Option, sym, ap, ◌∙◌, subst, ⊎_elim, arith}
use Rattle.std.proofs.lemmas.Bool.{both_ways, cases_lt, cond_both}
use Rattle.std.proofs.lemmas.List.Elements.{Contains-append_cases}
use Rattle.state_vector.specs.Tables.{ascends, better}
use Rattle.message.specs.Presence.{Entry}
use Rattle.awareness.specs.Record.{Record, client_of, above, held_of}
use Rattle.awareness.specs.Taking.{plain, defies, lifted, met, received, taken, next_clock}
use Rattle.awareness.specs.Newest.{Update, taken_in_turn, entries_of, Live, OwnTextsStay, Reaches, OwnClocksLead}
use Rattle.awareness.proofs.Lists.{head_or_tail}
use Rattle.awareness.proofs.Verdicts.{raises, beats, beats_clock, kept_clock}
use Rattle.awareness.proofs.Received.{left, Of, held_is_of, held_left, ascends_received, ascends_taken, taken_append, stays_received, stays_taken, stays_in_turn}

module _ (own now : ℕ) where
  -- a live own record defies each null whose clock is not below its own
  null_defied : (r : Record) (e : Entry) → r.client ≡ own → r.state ≢ None → e.state ≡ None → defies own r e ≡ false → e.clock < r.clock
  null_defied r e is live null not =
      ⊎_elim
      (λ (l : e.clock < r.clock). l)
      (λ (low : r.clock ≤ e.clock). absurd (both_ways (defies own r e) not ((raises own r e).1 (is, live, null, low))))
      (cases_lt e.clock r.clock)

  live_met : (r : Record) (e : Entry) → r.client ≡ own → r.state ≢ None → (met own now r e).state ≢ None
  live_met r e is live =
      cond_both (defies own r e) (lifted now r e) (better above (plain now e) r) (λ x. x.state ≢ None)
      (λ _. live)
      (λ f. cond_both (above (plain now e) r) (plain now e) r (λ x. x.state ≢ None)
      (λ u null. let l = null_defied r e is live null f in let m = beats_clock e r ((beats e r).0 u) in omega arith)
      (λ _. live))

  -- one entry leaves a live own text live
  pub live_left : (o : Option Record) (e : Entry) → e.client ≡ own → Of own o → Live o → Live (Some (left own now o e))
  live_left None e is of live = absurd live
  live_left (Some r) e is of live = live_met r e of live

  -- the clock of a record does not sink
  pub reaches_left : (c n : ℕ) (o : Option Record) (e : Entry) → e.client ≡ c → Of c o → Reaches n o → Reaches n (Some (left own now o e))
  reaches_left c n None e is of high = absurd high
  reaches_left c n (Some r) e is of high =
      cond_both (defies own r e) (lifted now r e) (better above (plain now e) r) (λ x. n ≤ x.clock)
      (λ d. let l = ((raises own r e).0 d).3 in omega arith)
      (λ _. cond_both (above (plain now e) r) (plain now e) r (λ x. n ≤ x.clock)
      (λ u. let l = beats_clock e r ((beats e r).0 u) in omega arith)
      (λ _. high))

  -- it is at least that of the entry that came
  pub reaches_entry : (o : Option Record) (e : Entry) → Reaches e.clock (Some (left own now o e))
  reaches_entry None e = omega arith
  reaches_entry (Some r) e =
      cond_both (defies own r e) (lifted now r e) (better above (plain now e) r) (λ x. e.clock ≤ x.clock)
      (λ _. omega arith)
      (λ _. cond_both (above (plain now e) r) (plain now e) r (λ x. e.clock ≤ x.clock)
      (λ _. omega arith)
      (λ f. kept_clock e r f))

  -- and above that of a null that a live own record met
  pub passes_null : (o : Option Record) (e : Entry) → Of own o → Live o → e.state ≡ None → Reaches (e.clock + 1) (Some (left own now o e))
  passes_null None e of live null = absurd live
  passes_null (Some r) e of live null =
      cond_both (defies own r e) (lifted now r e) (better above (plain now e) r) (λ x. e.clock + 1 ≤ x.clock)
      (λ _. omega arith)
      (λ f. let l = null_defied r e of live null f in
      cond_both (above (plain now e) r) (plain now e) r (λ x. e.clock + 1 ≤ x.clock)
      (λ u. let m = beats_clock e r ((beats e r).0 u) in omega arith)
      (λ _. omega arith))

  -- in the table: a live own text stays, a clock does not sink and is at least that of the entry, and a null that met a text is passed
  pub live_received : (rows : List Record) (e : Entry) → ascends client_of rows ≡ true → Live (held_of own rows) → Live (held_of own (received own now rows e))
  live_received rows e up live = stays_received own now own Live live_left rows e up live

  pub reaches_received : (c n : ℕ) (rows : List Record) (e : Entry) → ascends client_of rows ≡ true → Reaches n (held_of c rows) → Reaches n (held_of c (received own now rows e))
  reaches_received c n rows e up high = stays_received own now c (Reaches n) (reaches_left c n) rows e up high

  pub entry_received : (c : ℕ) (rows : List Record) (e : Entry) → ascends client_of rows ≡ true → e.client ≡ c → Reaches e.clock (held_of c (received own now rows e))
  entry_received c rows e up is = subst (Reaches e.clock) (sym (held_left own now rows e c up is)) (reaches_entry (held_of c rows) e)

  pub null_received : (rows : List Record) (e : Entry) → ascends client_of rows ≡ true → e.client ≡ own → e.state ≡ None → Live (held_of own rows) → Reaches (e.clock + 1) (held_of own (received own now rows e))
  null_received rows e up is null live = subst (Reaches (e.clock + 1)) (sym (held_left own now rows e own up is)) (passes_null (held_of own rows) e (held_is_of own rows) live null)

-- a record at the clock after the one that was held passes what that reached
pub reaches_next : (n : ℕ) (o : Option Record) (r : Record) → r.clock ≡ next_clock o → Reaches n o → Reaches (n + 1) (Some r)
reaches_next n None r is high = absurd high
reaches_next n (Some h) r is high = omega arith

pub own_texts_stay : OwnTextsStay
own_texts_stay own now rows es up live = stays_taken own now own Live (live_left own now) rows es up live

-- of any client, its clock never sinks
pub reaches_taken : (own now c n : ℕ) (rows : List Record) (es : List Entry) → ascends client_of rows ≡ true → Reaches n (held_of c rows) → Reaches n (held_of c (taken own now rows es))
reaches_taken own now c n rows es up high = stays_taken own now c (Reaches n) (reaches_left own now c n) rows es up high

-- and is at least each that came for it
pub reaches_each : (own now c : ℕ) (rows : List Record) (es : List Entry) (e : Entry) → ascends client_of rows ≡ true → Contains es e → e.client ≡ c → Reaches e.clock (held_of c (taken own now rows es))
reaches_each own now c rows [] e up has is = absurd (omega arith)
reaches_each own now c rows (f ∷ es) e up has is =
    let up' = ascends_received own now rows f up in
    ⊎_elim
    (λ (q : f ≡ e).
    let came : Reaches f.clock (held_of c (received own now rows f)) = entry_received own now c rows f up (ap (λ x. x.client) q ∙ is) in
    subst (λ x. Reaches x.clock (held_of c (taken own now rows (f ∷ es)))) q (reaches_taken own now c f.clock (received own now rows f) es up' came))
    (λ (later : Contains es e). reaches_each own now c (received own now rows f) es e up' later is)
    (head_or_tail f es e has)

-- the same after updates, each at its own time
pub live_in_turn : (own : ℕ) (rows : List Record) (us : List Update) → ascends client_of rows ≡ true → Live (held_of own rows) → Live (held_of own (taken_in_turn own rows us))
live_in_turn own rows us up live = stays_in_turn own own Live (λ now. live_left own now) rows us up live

pub reaches_in_turn : (own c n : ℕ) (rows : List Record) (us : List Update) → ascends client_of rows ≡ true → Reaches n (held_of c rows) → Reaches n (held_of c (taken_in_turn own rows us))
reaches_in_turn own c n rows us up high = stays_in_turn own c (Reaches n) (λ now. reaches_left own now c n) rows us up high

pub each_in_turn : (own c : ℕ) (rows : List Record) (us : List Update) (e : Entry) → ascends client_of rows ≡ true → Contains (entries_of us) e → e.client ≡ c → Reaches e.clock (held_of c (taken_in_turn own rows us))
each_in_turn own c rows [] e up has is = absurd (omega arith)
each_in_turn own c rows (u ∷ us) e up has is =
    let then : List Record = taken own u.time rows u.entries in
    let up' = ascends_taken own u.time rows u.entries up in
    ⊎_elim
    (λ here. reaches_in_turn own c e.clock then us up' (reaches_each own u.time c rows u.entries e up here is))
    (λ later. each_in_turn own c then us e up' later is)
    (Contains-append_cases u.entries (entries_of us) e has)

pub own_clocks_lead : OwnClocksLead
own_clocks_lead = record {
  never_sinks = λ own now rows es n up high. reaches_taken own now own n rows es up high;
  none_is_higher = λ own now rows es e up has is. reaches_each own now own rows es e up has is;
  nulls_are_lower = λ own now rows before e after up is null live.
      let then : List Record = taken own now rows before in
      let up' = ascends_taken own now rows before up in
      subst (λ xs. Reaches (e.clock + 1) (held_of own xs)) (sym (taken_append own now rows before (e ∷ after))) (reaches_taken own now own (e.clock + 1) (received own now then e) after (ascends_received own now then e up') (null_received own now then e up' is null live));
}
