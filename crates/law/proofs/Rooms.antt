-- How many clients are held and how high their clocks are, by what happened; and so what the verdict on records is.
use Rattle.std.proofs.Common.{◌≡◌, ℕ, ◌^◌, ◌<◌, ◌≤◌, Bool, true, false, cond, ltb, List, [], ◌∷◌, map, length, Contains, Some, None, Ok, Err, Option, Result, sym, refl, ap, ◌∙◌, subst, inl, inr, ⊎_elim, arith}
use Rattle.std.specs.Result.{result_and}
use Rattle.std.proofs.lemmas.Bool.{ltb-true, leb-true, lt-ltb, le-ltb, le-leb, and_parts, and_from, cases_eq, cases_lt, cases_Bool}
use Rattle.state_vector.specs.Tables.{all_above, ascends}
use Rattle.state_vector.proofs.Keys.{skip, stop}
use Rattle.message.specs.Presence.{Entry}
use Rattle.awareness.specs.declared.fault.PresenceFault.{PresenceFault}
use Rattle.awareness.specs.declared.fault.PresenceFault.TheVariants.{TooManyClients, ClockAtEnd}
use Rattle.awareness.specs.Calls.{judged, past_end}
use Rattle.awareness.specs.Newest.{entry_of_client, Newest, HoldsNewest}
use Rattle.awareness.specs.Record.{Record, client_of, held_of}
use Rattle.awareness.proofs.Lists.{head_or_tail, in_head, in_tail}
use Rattle.law.specs.Events.{Event, arrived, Account, AtLeast, account}
use Rattle.law.specs.Shown.{standing, Shows}
use Rattle.law.specs.Answers.{Something, Present, Crowded, Reached, Judged}
use Rattle.law.proofs.Arrivals.{came_in}
use Rattle.law.proofs.Onward.{Sound}

-- a number that is its own key
abbrev pub self : ℕ → ℕ
self c = c

-- ---- lists of numbers that ascend

pub above_in : (n c : ℕ) (ds : List ℕ) → all_above self n ds ≡ true → Contains ds c → n < c
above_in n c [] h has = absurd (omega arith)
above_in n c (d ∷ ds) h has =
    let p = and_parts (ltb n d) (all_above self n ds) h in
    ⊎_elim (λ (q : d ≡ c). let l = ltb-true n d p.0 in omega arith) (λ m. above_in n c ds p.1 m) (head_or_tail d ds c has)

-- what is in one list is in the other, which is then no shorter
no_longer : (ds cs : List ℕ) → ascends self cs ≡ true → ascends self ds ≡ true → ((c : ℕ) → Contains cs c → Contains ds c) → length cs ≤ length ds
no_longer ds [] u v inside = omega arith
no_longer [] (c ∷ cs) u v inside = let z : Contains [] c = inside c (in_head c cs) in absurd (omega arith)
no_longer (d ∷ ds) (c ∷ cs) u v inside =
    let p = and_parts (all_above self c cs) (ascends self cs) u in
    let q = and_parts (all_above self d ds) (ascends self ds) v in
    ⊎_elim
    (λ (e : d ≡ c).
    let r = no_longer ds cs p.1 q.1 (λ x has. ⊎_elim (λ (z : d ≡ x). let l = above_in c x cs p.0 has in absurd (omega arith)) (λ m. m) (head_or_tail d ds x (inside x (in_tail c cs x has)))) in omega arith)
    (λ (m : Contains ds c).
    let l = above_in d c ds q.0 m in
    let r = no_longer ds (c ∷ cs) u q.1
    (λ x has. ⊎_elim (λ (z : d ≡ x). ⊎_elim (λ (y : c ≡ x). absurd (omega arith)) (λ more. let k = above_in c x cs p.0 more in absurd (omega arith)) (head_or_tail c cs x has)) (λ m. m) (head_or_tail d ds x (inside x has))) in omega arith)
    (head_or_tail d ds c (inside c (in_head c cs)))

-- ---- the clients of records

abbrev pub clients_of : List Record → List ℕ
clients_of rows = map client_of rows

pub above_clients : (n : ℕ) (rows : List Record) → all_above client_of n rows ≡ true → all_above self n (clients_of rows) ≡ true
above_clients n [] h = refl
above_clients n (r ∷ rows) h = let p = and_parts (ltb n r.client) (all_above client_of n rows) h in and_from _ _ p.0 (above_clients n rows p.1)

ascends_clients : (rows : List Record) → ascends client_of rows ≡ true → ascends self (clients_of rows) ≡ true
ascends_clients [] h = refl
ascends_clients (r ∷ rows) h = let p = and_parts (all_above client_of r.client rows) (ascends client_of rows) h in and_from _ _ (above_clients r.client rows p.0) (ascends_clients rows p.1)

length_clients : (rows : List Record) → length (clients_of rows) ≡ length rows
length_clients [] = refl
length_clients (r ∷ rows) = let h = length_clients rows in omega arith

pub held_in : (c : ℕ) (rows : List Record) (r : Record) → held_of c rows ≡ Some r → Contains (clients_of rows) c
held_in c [] r h = let z : ◌≡◌ {A = ℕ} 0 1 = cc in absurd (omega arith)
held_in c (x ∷ rows) r h =
    ⊎_elim
    (λ (q : x.client ≡ c). subst (λ y. Contains (x.client ∷ clients_of rows) y) q (in_head x.client (clients_of rows)))
    (λ (ne : x.client ≡ c → ⊥). in_tail x.client (clients_of rows) c (held_in c rows r (sym (skip client_of c x rows ne) ∙ h)))
    (cases_eq x.client c)

pub in_held : (c : ℕ) (rows : List Record) → Contains (clients_of rows) c → (r : Record) × (held_of c rows ≡ Some r)
in_held c [] has = absurd (omega arith)
in_held c (x ∷ rows) has =
    ⊎_elim
    (λ (q : x.client ≡ c). (x, stop client_of c x rows q))
    (λ (ne : x.client ≡ c → ⊥).
    let later = in_held c rows (⊎_elim (λ q. absurd (ne q)) (λ m. m) (head_or_tail x.client (clients_of rows) c has)) in
    (later.0, skip client_of c x rows ne ∙ later.1))
    (cases_eq x.client c)

-- ---- what is held where so much happened

module _ (own : ℕ) (ds : List Event) (rows : List Record) (s : Sound own ds rows) where
  shows : (c : ℕ) → Shows own ds c (held_of c rows)
  shows c = (s.holds c).shows

  something_held : (o : Option Record) (a : Option Account) → standing o ≡ a → Something a → (r : Record) × (o ≡ Some r)
  something_held None a is h = absurd (subst Something (sym is) h)
  something_held (Some r) a is h = (r, refl)

  newest_held : (c : ℕ) (o : Option Record) → HoldsNewest c (arrived own ds) o → (e : Entry) → Contains (arrived own ds) e → e.client ≡ c → (r : Record) × (o ≡ Some r)
  newest_held c None none e has is = absurd (none e has is)
  newest_held c (Some r) h e has is = (r, refl)

  present_held : (c : ℕ) → Present own ds c → (r : Record) × (held_of c rows ≡ Some r)
  present_held c (inl (far, e, has, is)) = newest_held c (held_of c rows) ((shows c).another far) e has is
  present_held c (inr (mine, some)) = something_held (held_of c rows) (account own ds) ((shows c).itself mine) some

  held_present : (c : ℕ) (r : Record) → held_of c rows ≡ Some r → Present own ds c
  held_present c r is =
      ⊎_elim
      (λ (mine : c ≡ own). inr (mine, subst Something (ap standing (sym is) ∙ (shows c).itself mine) tt))
      (λ (far : c ≡ own → ⊥).
      let n : Newest c (arrived own ds) r = subst (HoldsNewest c (arrived own ds)) is ((shows c).another far) in
      inl (far, entry_of_client c r.clock r.state, came_in c r.clock r.state (arrived own ds) n.came_so, refl))
      (cases_eq c own)

  crowded_long : Crowded own ds → 64 < length rows
  crowded_long h =
      let l = no_longer (clients_of rows) h.clients h.different (ascends_clients rows s.up) (λ c has. let f = present_held c (h.present c has) in held_in c rows f.0 f.1) in
      let many = h.many in
      omega (arith, length_clients rows)

  long_crowded : 64 < length rows → Crowded own ds
  long_crowded l = record {
    clients = clients_of rows;
    different = ascends_clients rows s.up;
    many = omega (arith, length_clients rows);
    present = λ c has. let f = in_held c rows has in held_present c f.0 f.1;
  }

  at_least_past : (o : Option Record) (a : Option Account) → standing o ≡ a → AtLeast (2 ^ 32) a → past_end o ≡ true
  at_least_past None a is h = absurd (subst (AtLeast (2 ^ 32)) (sym is) h)
  at_least_past (Some r) a is h = let l : 2 ^ 32 ≤ r.clock = subst (AtLeast (2 ^ 32)) (sym is) h in le-leb (2 ^ 32) r.clock l

  newest_past : (c : ℕ) (o : Option Record) → HoldsNewest c (arrived own ds) o → (e : Entry) → Contains (arrived own ds) e → e.client ≡ c → 2 ^ 32 ≤ e.clock → past_end o ≡ true
  newest_past c None none e has is l = absurd (none e has is)
  newest_past c (Some r) h e has is l = let t = h.highest e has is in le-leb (2 ^ 32) r.clock (omega arith)

  reached_past : (c : ℕ) → Reached own ds c (2 ^ 32) → past_end (held_of c rows) ≡ true
  reached_past c (inl (far, e, has, is, l)) = newest_past c (held_of c rows) ((shows c).another far) e has is l
  reached_past c (inr (mine, l)) = at_least_past (held_of c rows) (account own ds) ((shows c).itself mine) l

  past_at_least : (o : Option Record) (a : Option Account) → standing o ≡ a → past_end o ≡ true → AtLeast (2 ^ 32) a
  past_at_least None a is h = let z : ◌≡◌ {A = ℕ} 0 1 = cc in absurd (omega arith)
  past_at_least (Some r) a is h = subst (AtLeast (2 ^ 32)) is (leb-true (2 ^ 32) r.clock h)

  past_newest : (c : ℕ) (o : Option Record) → HoldsNewest c (arrived own ds) o → past_end o ≡ true → (e : Entry) × Contains (arrived own ds) e × (e.client ≡ c) × (2 ^ 32 ≤ e.clock)
  past_newest c None none h = let z : ◌≡◌ {A = ℕ} 0 1 = cc in absurd (omega arith)
  past_newest c (Some r) n h = (entry_of_client c r.clock r.state, came_in c r.clock r.state (arrived own ds) n.came_so, refl, leb-true (2 ^ 32) r.clock h)

  past_reached : (c : ℕ) → past_end (held_of c rows) ≡ true → Reached own ds c (2 ^ 32)
  past_reached c h =
      ⊎_elim
      (λ (mine : c ≡ own). inr (mine, past_at_least (held_of c rows) (account own ds) ((shows c).itself mine) h))
      (λ (far : c ≡ own → ⊥). let p = past_newest c (held_of c rows) ((shows c).another far) h in inl (far, p.0, p.1, p.2, p.3))
      (cases_eq c own)

  -- the answer by a verdict
  module _ {A : Type 0} (fails : PresenceFault → A) (passes : A) where
    abbrev pub by : Result (Unit {0}) PresenceFault → A
    by (Ok u) = passes
    by (Err f) = fails f

    abbrev both_of : Bool → Bool → A
    both_of many past = by (result_and {T = Unit {0}} (cond many (Err TooManyClients) (Ok tt)) (cond past (Err ClockAtEnd) (Ok tt)))

    module _ (c : ℕ) where
      many_is : Crowded own ds → ltb 64 (length rows) ≡ true
      many_is h = lt-ltb 64 (length rows) (crowded_long h)

      few_is : (Crowded own ds → ⊥) → ltb 64 (length rows) ≡ false
      few_is none = ⊎_elim (λ (l : 64 < length rows). absurd (none (long_crowded l))) (λ (l : length rows ≤ 64). le-ltb 64 (length rows) l) (cases_lt 64 (length rows))

      low_is : (Reached own ds c (2 ^ 32) → ⊥) → past_end (held_of c rows) ≡ false
      low_is none = ⊎_elim (λ h. absurd (none (past_reached c h))) (λ f. f) (cases_Bool (past_end (held_of c rows)))

      pub judged_is : Judged own ds c fails passes (by (judged c rows))
      judged_is = record {
        too_many = λ h. ap (λ b. both_of b (past_end (held_of c rows))) (many_is h);
        at_end = λ few h. ap (λ b. both_of b (past_end (held_of c rows))) (few_is few) ∙ ap (λ b. both_of false b) (reached_past c h);
        fine = λ few low. ap (λ b. both_of b (past_end (held_of c rows))) (few_is few) ∙ ap (λ b. both_of false b) (low_is low);
      }
