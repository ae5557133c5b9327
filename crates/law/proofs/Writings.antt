-- The entries that are written are those of what is held.
use Rattle.std.proofs.Common.{◌≡◌, ℕ, ◌<◌, ◌≤◌, Bool, true, false, ltb, leb, List, [], ◌∷◌, map, filter, length, Contains, Some, None, Ok, Err, Option, Decides, sym, refl, ap, ◌∙◌, subst, ⊎_elim, arith}
use Rattle.std.proofs.lemmas.Bool.{le-leb, lt-leb, and_parts, and_from, cases_eq, cases_Bool, cond-true, cond-false}
use Rattle.encoding.specs.declared.write.WriteFault.{WriteFault}
use Rattle.encoding.specs.Writing.{Row}
use Rattle.state_vector.specs.Tables.{all_above, ascends}
use Rattle.state_vector.proofs.Keys.{skip, stop}
use Rattle.message.specs.Presence.{Entry}
use Rattle.awareness.specs.Record.{Record, client_of, entry_of, held_of}
use Rattle.awareness.proofs.Lists.{head_or_tail, in_head, in_tail}
use Rattle.document.specs.Kind.{Kind}
use Rattle.calls.specs.declared.fault.Fault.TheVariants.{Buffer}
use Rattle.calls.specs.Handling.{fits}
use Rattle.law.specs.Events.{Event, Account}
use Rattle.law.specs.Shown.{Shows, Holds}
use Rattle.law.specs.Answers.{FitsIn, Entries}
use Rattle.law.proofs.Onward.{Sound}
use Rattle.law.proofs.Pins.{one_standing}
use Rattle.law.proofs.Rooms.{above_in, above_clients, clients_of, held_in}

-- ---- what is written fits the room

module _ (k : Kind) (room : ℕ) where
  bytes_fit : (bs : List ℕ) → FitsIn room (Ok bs) (fits k room (Ok bs))
  bytes_fit bs = record {
    fits = λ cs is l. let same : bs ≡ cs = cc in cond-true (leb (length bs) room) (Ok bs) (Err Buffer) (le-leb (length bs) room (subst (λ x. length x ≤ room) (sym same) l)) ∙ ap Ok same;
    short = λ cs is l. let same : bs ≡ cs = cc in cond-false (leb (length bs) room) (Ok bs) (Err Buffer) (lt-leb (length bs) room (subst (λ x. room < length x) (sym same) l));
    long = λ f is. cc;
  }

  no_bytes_fit : (g : WriteFault) → FitsIn room (Err g) (fits k room (Err g))
  no_bytes_fit g = record { fits = λ cs is l. cc; short = λ cs is l. cc; long = λ f is. refl }

  pub fits_in : (row : Row) → FitsIn room row (fits k room row)
  fits_in (Ok bs) = bytes_fit bs
  fits_in (Err g) = no_bytes_fit g

-- ---- entries of a sort

abbrev client_in : Entry → ℕ
client_in e = e.client

module _ (pick : Entry → Bool) where
  abbrev pub picked : List Record → List Entry
  picked rows = map entry_of (filter (λ r. pick (entry_of r)) rows)

  here : (x : Record) (rows : List Record) → pick (entry_of x) ≡ true → picked (x ∷ rows) ≡ entry_of x ∷ picked rows
  here x rows t = ap (map entry_of) (cond-true (pick (entry_of x)) (x ∷ filter (λ r. pick (entry_of r)) rows) (filter (λ r. pick (entry_of r)) rows) t)

  passed : (x : Record) (rows : List Record) → pick (entry_of x) ≡ false → picked (x ∷ rows) ≡ picked rows
  passed x rows f = ap (map entry_of) (cond-false (pick (entry_of x)) (x ∷ filter (λ r. pick (entry_of r)) rows) (filter (λ r. pick (entry_of r)) rows) f)

  above_picked : (n : ℕ) (rows : List Record) → all_above client_of n rows ≡ true → all_above client_in n (picked rows) ≡ true
  above_picked n [] h = refl
  above_picked n (x ∷ rows) h =
      let p = and_parts (ltb n x.client) (all_above client_of n rows) h in
      ⊎_elim
      (λ (t : pick (entry_of x) ≡ true). subst (λ l. all_above client_in n l ≡ true) (sym (here x rows t)) (and_from _ _ p.0 (above_picked n rows p.1)))
      (λ (f : pick (entry_of x) ≡ false). subst (λ l. all_above client_in n l ≡ true) (sym (passed x rows f)) (above_picked n rows p.1))
      (cases_Bool (pick (entry_of x)))

  ascends_picked : (rows : List Record) → ascends client_of rows ≡ true → ascends client_in (picked rows) ≡ true
  ascends_picked [] h = refl
  ascends_picked (x ∷ rows) h =
      let p = and_parts (all_above client_of x.client rows) (ascends client_of rows) h in
      ⊎_elim
      (λ (t : pick (entry_of x) ≡ true). subst (λ l. ascends client_in l ≡ true) (sym (here x rows t)) (and_from _ _ (above_picked x.client rows p.0) (ascends_picked rows p.1)))
      (λ (f : pick (entry_of x) ≡ false). subst (λ l. ascends client_in l ≡ true) (sym (passed x rows f)) (ascends_picked rows p.1))
      (cases_Bool (pick (entry_of x)))

  -- what is written is held, and is of the sort
  record Written (rows : List Record) (e : Entry) : Type 0 where
    pub row : Record
    pub held : held_of e.client rows ≡ Some row
    pub is : e ≡ entry_of row
    pub sort : pick e ≡ true

  later : (x : Record) (rows : List Record) (e : Entry) → all_above client_of x.client rows ≡ true → Written rows e → Written (x ∷ rows) e
  later x rows e up w =
      let l : x.client < e.client = above_in x.client e.client (clients_of rows) (above_clients x.client rows up) (held_in e.client rows w.row w.held) in
      record { row = w.row; held = skip client_of e.client x rows (λ q. omega arith) ∙ w.held; is = w.is; sort = w.sort }

  is_written : (rows : List Record) (e : Entry) → ascends client_of rows ≡ true → Contains (picked rows) e → Written rows e
  is_written [] e up has = absurd (omega arith)
  is_written (x ∷ rows) e up has =
      let p = and_parts (all_above client_of x.client rows) (ascends client_of rows) up in
      ⊎_elim
      (λ (t : pick (entry_of x) ≡ true).
      ⊎_elim
      (λ (q : entry_of x ≡ e). record { row = x; held = stop client_of e.client x rows (ap (λ (y : Entry). y.client) q); is = sym q; sort = subst (λ y. pick y ≡ true) q t })
      (λ (more : Contains (picked rows) e). later x rows e p.0 (is_written rows e p.1 more))
      (head_or_tail (entry_of x) (picked rows) e (subst (λ l. Contains l e) (here x rows t) has)))
      (λ (f : pick (entry_of x) ≡ false). later x rows e p.0 (is_written rows e p.1 (subst (λ l. Contains l e) (passed x rows f) has)))
      (cases_Bool (pick (entry_of x)))

  -- and what is held and of the sort is written
  written_is : (rows : List Record) (c : ℕ) (r : Record) → held_of c rows ≡ Some r → pick (entry_of r) ≡ true → Contains (picked rows) (entry_of r)
  written_is [] c r is t = let z : ◌≡◌ {A = ℕ} 0 1 = cc in absurd (omega arith)
  written_is (x ∷ rows) c r is t =
      ⊎_elim
      (λ (q : x.client ≡ c).
      let same : x ≡ r = let w = sym (stop client_of c x rows q) ∙ is in cc in
      let pick_x : pick (entry_of x) ≡ true = ap (λ y. pick (entry_of y)) same ∙ t in
      subst (λ l. Contains l (entry_of r)) (sym (here x rows pick_x)) (subst (λ y. Contains (entry_of x ∷ picked rows) (entry_of y)) same (in_head (entry_of x) (picked rows))))
      (λ (ne : x.client ≡ c → ⊥).
      let more : Contains (picked rows) (entry_of r) = written_is rows c r (sym (skip client_of c x rows ne) ∙ is) t in
      ⊎_elim
      (λ (u : pick (entry_of x) ≡ true). subst (λ l. Contains l (entry_of r)) (sym (here x rows u)) (in_tail (entry_of x) (picked rows) (entry_of r) more))
      (λ (f : pick (entry_of x) ≡ false). subst (λ l. Contains l (entry_of r)) (sym (passed x rows f)) more)
      (cases_Bool (pick (entry_of x))))
      (cases_eq x.client c)

module _ (own : ℕ) (ds : List Event) (rows : List Record) (s : Sound own ds rows) where
  entry_parts : (x r : Record) → x.client ≡ r.client → x.clock ≡ r.clock → x.state ≡ r.state → entry_of x ≡ entry_of r
  entry_parts x r a b d =
      ap (λ i. record { client = i; clock = x.clock; state = x.state }) a ∙ ap (λ n. record { client = r.client; clock = n; state = x.state }) b ∙ ap (λ u. record { client = r.client; clock = r.clock; state = u }) d

  same_entry : (c : ℕ) (o : Option Record) (r : Record) → Shows own ds c o → Shows own ds c (Some r) → (x : Record) × (o ≡ Some x) × (entry_of x ≡ entry_of r)
  same_entry c None r h k = let q = one_standing own ds c None (Some r) h k in cc
  same_entry c (Some x) r h k =
      let q = one_standing own ds c (Some x) (Some r) h k in
      let same : ◌≡◌ {A = Account} (record { clock = x.clock; state = x.state }) (record { clock = r.clock; state = r.state }) = cc in
      let clocks : x.clock ≡ r.clock = ap (λ (a : Account). a.clock) same in
      let states : x.state ≡ r.state = ap (λ (a : Account). a.state) same in
      (x, refl, entry_parts x r (h.client ∙ sym k.client) clocks states)

  pub entries_are : (pick : Entry → Bool) (Sort : Entry → Type 0) → ((e : Entry) → Decides (pick e) (Sort e)) → Entries own ds Sort (picked pick rows)
  entries_are pick Sort means = record {
    ascending = ascends_picked pick rows s.up;
    exactly = λ e. (
      λ has. let w = is_written pick rows e s.up has in (w.row, subst (Holds own ds e.client) w.held (s.holds e.client), w.is, (means e).0 w.sort),
      λ held. let w = same_entry e.client (held_of e.client rows) held.0 (s.holds e.client).shows held.1.shows in
          let is : entry_of w.0 ≡ e = w.2 ∙ sym held.2 in
          subst (λ y. Contains (picked pick rows) y) is (written_is pick rows e.client w.0 w.1 (subst (λ y. pick y ≡ true) (sym is) ((means e).1 held.3))),
    );
  }
