-- How many clients an update brings, before any entry is taken.
use Rattle.std.proofs.Common.{◌≡◌, ℕ, ◌+◌, ◌≤◌, ◌<◌, Bool, true, false, cond, ◌||◌, eqb, leb, ltb, List, [], ◌∷◌, length, is_some, Some, None, Ok, Err, Option, Result, sym, refl, ap, ◌∙◌, subst, arith}
use Rattle.std.proofs.lemmas.Bool.{cond-true, cond-false, lt-ltb, le-ltb, leb-true, or_left, eqb-true}
use Rattle.state_vector.specs.declared.keyed.Outcome.{Outcome}
use Rattle.state_vector.specs.declared.keyed.Outcome.TheVariants.{Inserted, Replaced}
use Rattle.state_vector.specs.declared.keyed.TableFull.{TableFull}
use Rattle.state_vector.specs.Tables.{always, answer, ascends, entered, full, held, outcome, updated}
use Rattle.state_vector.proofs.Entering.{ascends_entered, length_entered}
use Rattle.message.specs.Presence.{Entry}
use Rattle.awareness.specs.declared.fault.PresenceFault.{PresenceFault}
use Rattle.awareness.specs.declared.fault.PresenceFault.TheVariants.{TooManyClients}
use Rattle.awareness.specs.Calls.{room_for}
use Rattle.awareness.specs.Record.{Record, client_of, above, held_of}
use Rattle.awareness.specs.Taking.{newcomer, received, taken}
use Rattle.awareness.proofs.Entered.{length_then, who_then}
use Rattle.awareness.proofs.Judging.{comes_as, ascends_received, length_taken}

abbrev id : ℕ → ℕ
id c = c

-- what the length of the table says of it
pub room_passes : (rows : List Record) → length rows ≤ 64 → Ok tt ≡ room_for rows
room_passes rows l = sym (cond-false {A = Result (Unit {0}) PresenceFault} (ltb 64 (length rows)) (Err TooManyClients) (Ok tt) (le-ltb 64 (length rows) l))

pub room_fails : (rows : List Record) → 64 < length rows → Err TooManyClients ≡ room_for rows
room_fails rows l = sym (cond-true {A = Result (Unit {0}) PresenceFault} (ltb 64 (length rows)) (Err TooManyClients) (Ok tt) (lt-ltb 64 (length rows) l))

module _ (own now : ℕ) where
  -- each entry takes one place at most
  pub length_most : (rows : List Record) (es : List Entry) → length (taken own now rows es) ≤ length rows + length es
  length_most rows [] = omega arith
  length_most rows (e ∷ es) = let h = length_most (received own now rows e) es in omega (arith, length_entered client_of above rows (newcomer own now (held_of e.client rows) e))

  -- an entry takes a place where its client is not held
  long_after : (rows : List Record) (e : Entry) → ascends client_of rows ≡ true → length (received own now rows e) ≡ cond (is_some (held_of e.client rows)) (length rows) (length rows + 1)
  long_after rows e up = length_then client_of above rows (newcomer own now (held_of e.client rows) e) up ∙ ap (λ c. cond (is_some (held_of c rows)) (length rows) (length rows + 1)) (comes_as own now rows e)

  -- so one that is held has room, and of no other where all places are taken
  pub known_passes : (rows : List Record) (e : Entry) → ascends client_of rows ≡ true → is_some (held_of e.client rows) ≡ true → length rows ≤ 64 → Ok tt ≡ room_for (received own now rows e)
  known_passes rows e up k l = room_passes (received own now rows e) (omega (arith, l, long_after rows e up ∙ cond-true (is_some (held_of e.client rows)) (length rows) (length rows + 1) k))

  pub new_fails : (rows : List Record) (e : Entry) → ascends client_of rows ≡ true → is_some (held_of e.client rows) ≡ false → 64 ≤ length rows → Err TooManyClients ≡ room_for (received own now rows e)
  new_fails rows e up k l = room_fails (received own now rows e) (omega (arith, l, long_after rows e up ∙ cond-false (is_some (held_of e.client rows)) (length rows) (length rows + 1) k))

  -- the table so far has the clients of before and the new ones, so many as both
  pub record CountsNew (before : List Record) (all : List Entry) (here : List Record) (new : List ℕ) (es : List Entry) : Type 0 where
    pub up : ascends client_of here ≡ true
    pub new_up : ascends id new ≡ true
    pub rest : taken own now before all ≡ taken own now here es
    pub many : length here ≡ length before + length new
    pub who : (c : ℕ) → is_some (held_of c here) ≡ (is_some (held_of c before) || is_some (held id c new))

  abbrev pub NewOnes : List Record → List Entry → List ℕ → List Entry → Type 0
  NewOnes before all new es = (here : List Record) × CountsNew before all here new es

  or_none : (b : Bool) → b ≡ (b || false)
  or_none true = refl
  or_none false = refl

  pub new_ones_start : (before : List Record) (all es : List Entry) (new : List ℕ) → es ≡ all → new ≡ [] → ascends client_of before ≡ true → NewOnes before all new es
  new_ones_start before all es new is none up = (
    before,
    record {
      up = up;
      new_up = ap (ascends id) none;
      rest = ap (taken own now before) (sym is);
      many = omega (arith, ap length none);
      who = λ c. or_none (is_some (held_of c before)) ∙ sym (ap (λ l. is_some (held_of c before) || is_some (held id c l)) none);
    },
  )

  -- an entry of a client that was held before, or that is new
  module _ (before : List Record) (all : List Entry) (here : List Record) (new : List ℕ) (es : List Entry) (e : Entry) (others : List Entry) (s : CountsNew before all here new es) (is : es ≡ e ∷ others) where
    then : List Record
    then = received own now here e

    rest_then : taken own now before all ≡ taken own now (received own now here e) others
    rest_then = s.rest ∙ ap (taken own now here) is

    long_then : length (received own now here e) ≡ cond (is_some (held_of e.client here)) (length here) (length here + 1)
    long_then = long_after here e s.up

    who_is_then : (c : ℕ) → is_some (held_of c (received own now here e)) ≡ (is_some (held_of c here) || eqb e.client c)
    who_is_then c = who_then client_of above here (newcomer own now (held_of e.client here) e) c s.up ∙ ap (λ n. is_some (held_of c here) || eqb n c) (comes_as own now here e)

    or_swap : (a b x : Bool) → ((a || b) || x) ≡ (a || (b || x))
    or_swap true b x = refl
    or_swap false b x = refl

    same_or : (a b x : Bool) → (x ≡ true → a ≡ true) → ((a || b) || x) ≡ (a || b)
    same_or true b x h = refl
    same_or false b true h = absurd (no (h refl)) where
      no : ◌≡◌ {A = Bool} false true → ⊥
      no z = cc
    same_or false b false h = sym (or_none b)

    pub new_ones_known : is_some (held_of e.client before) ≡ true → NewOnes before all new others
    new_ones_known k = (
      received own now here e,
      record {
        up = ascends_received own now here e s.up;
        new_up = s.new_up;
        rest = rest_then;
        many = long_then ∙ cond-true (is_some (held_of e.client here)) (length here) (length here + 1) (s.who e.client ∙ or_left (is_some (held_of e.client before)) (is_some (held id e.client new)) k) ∙ s.many;
        who = λ c. who_is_then c ∙ ap (λ b. b || eqb e.client c) (s.who c) ∙ same_or (is_some (held_of c before)) (is_some (held id c new)) (eqb e.client c) (λ q. subst (λ n. is_some (held_of n before) ≡ true) (eqb-true e.client c q) k);
      },
    )

    new_then : List ℕ
    new_then = entered id always new e.client

    pub new_ones_entered : is_some (held_of e.client before) ≡ false → NewOnes before all (entered id always new e.client) others
    new_ones_entered k =
        let w : is_some (held_of e.client here) ≡ is_some (held id e.client new) = s.who e.client ∙ ap (λ b. b || is_some (held id e.client new)) k in (
          received own now here e,
          record {
            up = ascends_received own now here e s.up;
            new_up = ascends_entered id always new e.client s.new_up;
            rest = rest_then;
            many = long_then ∙ by (is_some (held_of e.client here)) (is_some (held id e.client new)) w ∙ ap (λ n. length before + n) (sym (length_then id always new e.client s.new_up));
            who = λ c. who_is_then c ∙ ap (λ b. b || eqb e.client c) (s.who c) ∙ or_swap (is_some (held_of c before)) (is_some (held id c new)) (eqb e.client c) ∙ ap (λ b. is_some (held_of c before) || b) (sym (who_then id always new e.client c s.new_up));
          },
        )
      where
        by : (a b : Bool) → a ≡ b → cond a (length here) (length here + 1) ≡ length before + cond b (length new) (length new + 1)
        by true true q = s.many
        by false false q = omega (arith, s.many)
        by true false q = cc
        by false true q = cc

    -- the new client found a place
    pub new_ones_put : (r : Result Outcome TableFull) (o : Outcome) (put : List ℕ) → is_some (held_of e.client before) ≡ false → r ≡ outcome id always 64 new e.client → put ≡ updated id 64 new e.client → r ≡ Ok o → NewOnes before all put others
    new_ones_put r o put k a u is_ok_so = subst (λ l. NewOnes before all l others) (sym (u ∙ cond-false (full id 64 new e.client) new (entered id always new e.client) (not_full (held id e.client new) (leb 64 (length new)) (sym a ∙ is_ok_so)))) (new_ones_entered k) where
      not_full : (h : Option ℕ) (b : Bool) → answer always b h e.client ≡ Ok o → cond (is_some h) false b ≡ false
      not_full None true q = absurd (never q) where
        never : ◌≡◌ {A = Result Outcome TableFull} (Err (record {})) (Ok o) → ⊥
        never z = cc
      not_full None false q = refl
      not_full (Some x) b q = refl

    -- or there was none for it
    pub new_ones_none : (r : Result Outcome TableFull) (f : TableFull) → is_some (held_of e.client before) ≡ false → r ≡ outcome id always 64 new e.client → r ≡ Err f → Err TooManyClients ≡ room_for (taken own now before all)
    new_ones_none r f k a is_err_so =
        let q = is_full (held id e.client new) refl (leb 64 (length new)) refl (sym a ∙ is_err_so) in
        let w : is_some (held_of e.client here) ≡ false = s.who e.client ∙ ap (λ b. b || is_some (held id e.client new)) k ∙ q.0 in
        let l = long_then ∙ cond-false (is_some (held_of e.client here)) (length here) (length here + 1) w in
        let g = length_taken own now (received own now here e) others in
        ap (λ r. r) (room_fails (taken own now before all) (omega (arith, l, g, s.many, leb-true 64 (length new) q.1, ap length rest_then)))
      where
        is_full : (h : Option ℕ) → held id e.client new ≡ h → (b : Bool) → leb 64 (length new) ≡ b → answer always b h e.client ≡ Err f → (is_some (held id e.client new) ≡ false) × (leb 64 (length new) ≡ true)
        is_full None i true j q = (ap is_some i, j)
        is_full None i false j q = absurd (never q) where
          never : ◌≡◌ {A = Result Outcome TableFull} (Ok Inserted) (Err f) → ⊥
          never z = cc
        is_full (Some x) i b j q = absurd (never q) where
          never : ◌≡◌ {A = Result Outcome TableFull} (Ok Replaced) (Err f) → ⊥
          never z = cc

  -- at the end
  pub new_ones_fit : (before : List Record) (all : List Entry) (new : List ℕ) (es : List Entry) → NewOnes before all new es → es ≡ [] → length before + length new ≤ 64 → Ok tt ≡ room_for (taken own now before all)
  new_ones_fit before all new es s is l = room_passes (taken own now before all) (omega (arith, ap length (s.1.rest ∙ ap (taken own now s.0) is), s.1.many))

  pub new_ones_fail : (before : List Record) (all : List Entry) (new : List ℕ) (es : List Entry) → NewOnes before all new es → es ≡ [] → 64 < length before + length new → Err TooManyClients ≡ room_for (taken own now before all)
  new_ones_fail before all new es s is l = room_fails (taken own now before all) (omega (arith, ap length (s.1.rest ∙ ap (taken own now s.0) is), s.1.many))
