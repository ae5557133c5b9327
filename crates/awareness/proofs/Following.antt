-- The own record, followed through an update before any entry is taken.
use Rattle.std.proofs.Common.{◌≡◌, ℕ, ◌+◌, ◌^◌, Bool, true, false, cond, not, ◌&&◌, ◌||◌, eqb, leb, ltb, List, [], ◌∷◌, is_none, is_some, Some, None, Ok, Err, Option, Result, sym, refl, ap, ◌∙◌, subst, ⊎_elim, arith}
use Rattle.std.proofs.lemmas.Bool.{cases_Bool, cond_both, lt-leb, cond-true, cond-false, and_parts, and_from, or_left, lt-ltb, le-leb, eqb-true, leb-true, eq-eqb, true≢false}
use Rattle.std.proofs.lemmas.List.Elements.{All-head, All-tail}
use Rattle.std.specs.List.{All}
use Rattle.state_vector.specs.Tables.{ascends, better, raised}
use Rattle.state_vector.proofs.Keys.{held_key}
use Rattle.message.specs.Presence.{Entry}
use Rattle.awareness.specs.declared.fault.PresenceFault.{PresenceFault}
use Rattle.awareness.specs.declared.fault.PresenceFault.TheVariants.{ClockAtEnd}
use Rattle.awareness.specs.declared.standing.Standing.{Standing}
use Rattle.awareness.specs.Calls.{past_end, rise_for}
use Rattle.awareness.specs.Following.{stands, stands_as, followed}
use Rattle.awareness.specs.Record.{Record, client_of, above, held_of, Writable}
use Rattle.awareness.specs.Taking.{plain, defies, lifted, newcomer, received, taken}
use Rattle.awareness.proofs.Judging.{held_then, held_else, ascends_received, past_taken}

-- past its end, by the standing
abbrev pub past_at : Option Standing → Bool
past_at None = false
past_at (Some s) = leb (2 ^ 32) s.clock

past_by : (o : Option Record) → past_end o ≡ past_at (stands o)
past_by None = refl
past_by (Some r) = refl

module _ (own now : ℕ) where
  none_not : (s : Option (List ℕ)) → is_none s ≡ not (is_some s)
  none_not None = refl
  none_not (Some bs) = refl

  -- what an own record makes of an entry, by its standing
  module _ (r : Record) (e : Entry) (mine : r.client ≡ own) where
    defies_is : defies own r e ≡ (is_some r.state && (not (is_some e.state) && leb r.clock e.clock))
    defies_is = ap (λ b. b && (is_some r.state && (is_none e.state && leb r.clock e.clock))) (eq-eqb r.client own mine) ∙ ap (λ b. is_some r.state && (b && leb r.clock e.clock)) (none_not e.state)

    not_level : (a : Bool) → (eqb e.clock r.clock && (is_none e.state && is_some r.state)) ≡ a → defies own r e ≡ false → a ≡ false
    not_level false i d = refl
    not_level true i d =
        let p = and_parts (eqb e.clock r.clock) (is_none e.state && is_some r.state) i in
        let q = and_parts (is_none e.state) (is_some r.state) p.1 in
        let l : leb r.clock e.clock ≡ true = le-leb r.clock e.clock (omega (arith, eqb-true e.clock r.clock p.0)) in
        absurd (true≢false (sym (and_from (eqb r.client own) (is_some r.state && (is_none e.state && leb r.clock e.clock)) (eq-eqb r.client own mine) (and_from (is_some r.state) (is_none e.state && leb r.clock e.clock) q.1 (and_from (is_none e.state) (leb r.clock e.clock) q.0 l))) ∙ d))

    or_second : (a b : Bool) → b ≡ false → (a || b) ≡ a
    or_second true b h = refl
    or_second false b h = h

    above_is : defies own r e ≡ false → above (plain now e) r ≡ ltb r.clock e.clock
    above_is d = or_second (ltb r.clock e.clock) (eqb e.clock r.clock && (is_none e.state && is_some r.state)) (not_level _ refl d)

    goes_above : defies own r e ≡ true → stands (Some (better above (lifted now r e) r)) ≡ Some (record { clock = e.clock + 1; live = true })
    goes_above d =
        let p = and_parts (is_some r.state) (not (is_some e.state) && leb r.clock e.clock) (sym defies_is ∙ d) in
        let q = and_parts (not (is_some e.state)) (leb r.clock e.clock) p.1 in
        let higher : above (lifted now r e) r ≡ true = or_left (ltb r.clock (e.clock + 1)) _ (lt-ltb r.clock (e.clock + 1) (omega (arith, leb-true r.clock e.clock q.1))) in
        ap (λ x. stands (Some x)) (cond-true (above (lifted now r e) r) (lifted now r e) r higher) ∙ ap (λ b. Some (record { clock = e.clock + 1; live = b })) p.0

    pick : (b : Bool) → stands (Some (cond b (plain now e) r)) ≡ Some (cond b (stands_as e) (record { clock = r.clock; live = is_some r.state }))
    pick true = refl
    pick false = refl

    stays_or_goes : defies own r e ≡ false → stands (Some (better above (plain now e) r)) ≡ Some (cond (ltb r.clock e.clock) (stands_as e) (record { clock = r.clock; live = is_some r.state }))
    stays_or_goes d = ap (λ b. stands (Some (cond b (plain now e) r))) (above_is d) ∙ pick (ltb r.clock e.clock)

    met_so : stands (Some (raised above (Some r) (newcomer own now (Some r) e))) ≡ Some (followed (stands (Some r)) e)
    met_so =
        ⊎_elim
        (λ (d : defies own r e ≡ true).
        ap (λ n. stands (Some (better above n r))) (cond-true (defies own r e) (lifted now r e) (plain now e) d) ∙ goes_above d
        ∙ sym (ap Some (cond-true (is_some r.state && (not (is_some e.state) && leb r.clock e.clock)) (record { clock = e.clock + 1; live = true }) (cond (ltb r.clock e.clock) (stands_as e) (record { clock = r.clock; live = is_some r.state })) (sym defies_is ∙ d))))
        (λ (d : defies own r e ≡ false).
        ap (λ n. stands (Some (better above n r))) (cond-false (defies own r e) (lifted now r e) (plain now e) d) ∙ stays_or_goes d
        ∙ sym (ap Some (cond-false (is_some r.state && (not (is_some e.state) && leb r.clock e.clock)) (record { clock = e.clock + 1; live = true }) (cond (ltb r.clock e.clock) (stands_as e) (record { clock = r.clock; live = is_some r.state })) (sym defies_is ∙ d))))
        (cases_Bool (defies own r e))

  meets_so : (o : Option Record) (e : Entry) → ((r : Record) → o ≡ Some r → r.client ≡ own) → stands (Some (raised above o (newcomer own now o e))) ≡ Some (followed (stands o) e)
  meets_so None e h = refl
  meets_so (Some r) e h = met_so r e (h r refl)

  -- what is held of the own client after an own entry
  own_then : (here : List Record) (e : Entry) → e.client ≡ own → ascends client_of here ≡ true → stands (held_of own (received own now here e)) ≡ Some (followed (stands (held_of own here)) e)
  own_then here e mine up =
      subst (λ c. stands (held_of c (received own now here e)) ≡ Some (followed (stands (held_of c here)) e)) mine
      (ap stands (held_then own now here e up) ∙ meets_so (held_of e.client here) e (λ r is. held_key client_of e.client here r is ∙ mine))

  -- the table so far has the own record with this standing, and the others are still to be taken
  pub record Stood (before : List Record) (all : List Entry) (standing : Option Standing) (here : List Record) (es : List Entry) : Type 0 where
    pub up : ascends client_of here ≡ true
    pub rest : taken own now before all ≡ taken own now here es
    pub is : stands (held_of own here) ≡ standing
    pub low : past_at standing ≡ false

  abbrev pub Follows : List Record → List Entry → Option Standing → List Entry → Type 0
  Follows before all standing es = (here : List Record) × Stood before all standing here es

  pub follows_start : (before : List Record) (all es : List Entry) (standing : Option Standing) → es ≡ all → ascends client_of before ≡ true → stands (held_of own before) ≡ standing → past_end (held_of own before) ≡ false → Follows before all standing es
  follows_start before all es standing same up is low = (before, record { up = up; rest = ap (taken own now before) (sym same); is = is; low = sym (past_by (held_of own before) ∙ ap past_at is) ∙ low })

  module _ (before : List Record) (all : List Entry) (standing : Option Standing) (here : List Record) (es : List Entry) (e : Entry) (others : List Entry) (s : Stood before all standing here es) (first : es ≡ e ∷ others) where
    now_stands : e.client ≡ own → stands (held_of own (received own now here e)) ≡ Some (followed standing e)
    now_stands mine = own_then here e mine s.up ∙ ap (λ o. Some (followed o e)) s.is

    pub follows_own : (r : Result Standing PresenceFault) (t : Standing) → e.client ≡ own → r ≡ cond (leb (2 ^ 32) (followed standing e).clock) (Err ClockAtEnd) (Ok (followed standing e)) → r ≡ Ok t → Follows before all (Some t) others
    follows_own r t mine a is =
        let q = can_rise (leb (2 ^ 32) (followed standing e).clock) refl (sym a ∙ is) in (
          received own now here e,
          record {
            up = ascends_received own now here e s.up;
            rest = s.rest ∙ ap (taken own now here) first;
            is = now_stands mine ∙ ap Some q.0;
            low = ap (λ x. leb (2 ^ 32) x.clock) (sym q.0) ∙ q.1;
          },
        )
      where
        can_rise : (b : Bool) → leb (2 ^ 32) (followed standing e).clock ≡ b → ◌≡◌ {A = Result Standing PresenceFault} (cond b (Err ClockAtEnd) (Ok (followed standing e))) (Ok t) → (followed standing e ≡ t) × (leb (2 ^ 32) (followed standing e).clock ≡ false)
        can_rise true j q = absurd (never q) where
          never : ◌≡◌ {A = Result Standing PresenceFault} (Err ClockAtEnd) (Ok t) → ⊥
          never z = cc
        can_rise false j q = (cc, j)

    pub follows_end : (r : Result Standing PresenceFault) (f : PresenceFault) → e.client ≡ own → r ≡ cond (leb (2 ^ 32) (followed standing e).clock) (Err ClockAtEnd) (Ok (followed standing e)) → r ≡ Err f → Err f ≡ rise_for (held_of own (taken own now before all))
    follows_end r f mine a is =
        let q = cannot (leb (2 ^ 32) (followed standing e).clock) refl (sym a ∙ is) in
        let past : past_end (held_of own (received own now here e)) ≡ true = past_by (held_of own (received own now here e)) ∙ ap past_at (now_stands mine) ∙ q.1 in
        let then = past_taken own now (received own now here e) others (ascends_received own now here e s.up) past in
        ap Err (sym q.0) ∙ sym (cond-true {A = Result (Unit {0}) PresenceFault} (past_end (held_of own (taken own now before all))) (Err ClockAtEnd) (Ok tt) (ap (λ rows. past_end (held_of own rows)) (s.rest ∙ ap (taken own now here) first) ∙ then))
      where
        cannot : (b : Bool) → leb (2 ^ 32) (followed standing e).clock ≡ b → ◌≡◌ {A = Result Standing PresenceFault} (cond b (Err ClockAtEnd) (Ok (followed standing e))) (Err f) → (ClockAtEnd ≡ f) × (leb (2 ^ 32) (followed standing e).clock ≡ true)
        cannot true j q = (cc, j)
        cannot false j q = absurd (never q) where
          never : ◌≡◌ {A = Result Standing PresenceFault} (Ok (followed standing e)) (Err f) → ⊥
          never z = cc

    pub follows_other : (e.client ≡ own → ⊥) → Follows before all standing others
    follows_other ne = (
      received own now here e,
      record {
        up = ascends_received own now here e s.up;
        rest = s.rest ∙ ap (taken own now here) first;
        is = ap stands (held_else own now here e own ne) ∙ s.is;
        low = s.low;
      },
    )

  pub follows_done : (before : List Record) (all : List Entry) (standing : Option Standing) (es : List Entry) → Follows before all standing es → es ≡ [] → Ok tt ≡ rise_for (held_of own (taken own now before all))
  follows_done before all standing es s none =
      let low : past_end (held_of own s.0) ≡ false = past_by (held_of own s.0) ∙ ap past_at s.1.is ∙ s.1.low in
      sym (cond-false {A = Result (Unit {0}) PresenceFault} (past_end (held_of own (taken own now before all))) (Err ClockAtEnd) (Ok tt) (ap (λ rows. past_end (held_of own rows)) (s.1.rest ∙ ap (taken own now s.0) none) ∙ low))

-- a record that can be written has a clock within its bounds
pub low_of_writable : (c : ℕ) (rows : List Record) → All Writable rows → past_end (held_of c rows) ≡ false
low_of_writable c [] h = refl
low_of_writable c (r ∷ rows) h = cond_both (eqb r.client c) (Some r) (held_of c rows) (λ o. past_end o ≡ false) (λ _. lt-leb (2 ^ 32) r.clock (All-head Writable r rows h).1) (λ _. low_of_writable c rows (All-tail Writable r rows h))
