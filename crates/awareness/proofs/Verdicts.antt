-- What the tests of an entry against a record mean, and which change they tell of.
use Rattle.std.proofs.Common.{◌≡◌, ℕ, ◌<◌, ◌≤◌, Bool, true, false, ◌&&◌, cond, eqb, ltb, leb, ◌≢◌, ◌⊎◌, List, is_none, is_some, Some, None, Option, Decides, sym, refl, ap, inl, inr, ⊎_elim, arith}
use Rattle.std.proofs.lemmas.Bool.{both_ways, false≢true, cases_lt, cond_both, leb-true, le-leb}
use Rattle.std.proofs.lemmas.Bool.Decides.{Decides-and, Decides-eqb, Decides-like, Decides-ltb, Decides-or}
use Rattle.std.proofs.lemmas.Slice.Eq.{bytes_eq-Decides}
use Rattle.message.specs.Presence.{Entry}
use Rattle.awareness.specs.declared.change.Change.{Change}
use Rattle.awareness.specs.declared.change.Change.TheVariants.{Kept, Hidden, Added, Repeated, Changed, Raised}
use Rattle.awareness.specs.Changes.{same, taken_over, change_by, is_added, is_updated, is_changed, is_removed}
use Rattle.awareness.specs.Record.{Record, outranks}
use Rattle.awareness.specs.Taking.{defies}
use Rattle.awareness.specs.Newest.{Raises, Beats, Adds, Updates, Alters, Removes}

shows : (s : Option (List ℕ)) → Decides (is_some s) (s ≢ None)
shows None = (λ q. cc, λ not. absurd (not refl))
shows (Some t) = (λ _ q. cc, λ _. refl)

nulls : (s : Option (List ℕ)) → Decides (is_none s) (s ≡ None)
nulls None = (λ _. refl, λ _. refl)
nulls (Some t) = (λ q. cc, λ q. cc)

-- the own record defies an entry where that raises it
pub raises : (own : ℕ) (r : Record) (e : Entry) → Decides (defies own r e) (Raises own r e)
raises own r e =
    Decides-like (defies own r e) (λ p. (p.0, p.1.0, p.1.1.0, p.1.1.1)) (λ p. (p.0, (p.1, (p.2, p.3))))
    (Decides-and (eqb r.client own) (is_some r.state && (is_none e.state && leb r.clock e.clock)) (Decides-eqb r.client own)
    (Decides-and (is_some r.state) (is_none e.state && leb r.clock e.clock) (shows r.state)
    (Decides-and (is_none e.state) (leb r.clock e.clock) (nulls e.state) (leb-true r.clock e.clock, le-leb r.clock e.clock))))

-- an entry outranks a record where it beats it
pub beats : (e : Entry) (r : Record) → Decides (outranks e.clock e.state r.clock r.state) (Beats e r)
beats e r =
    Decides-or (ltb r.clock e.clock) (eqb e.clock r.clock && (is_none e.state && is_some r.state)) (Decides-ltb r.clock e.clock)
    (Decides-like (eqb e.clock r.clock && (is_none e.state && is_some r.state)) (λ p. (p.0, p.1.0, p.1.1)) (λ p. (p.0, (p.1, p.2)))
    (Decides-and (eqb e.clock r.clock) (is_none e.state && is_some r.state) (Decides-eqb e.clock r.clock)
    (Decides-and (is_none e.state) (is_some r.state) (nulls e.state) (shows r.state))))

-- what beats has no lower clock, and what does not has no higher one
pub beats_clock : (e : Entry) (r : Record) → Beats e r → r.clock ≤ e.clock
beats_clock e r b = ⊎_elim (λ l. omega arith) (λ p. let s = p.0 in omega arith) b

pub kept_clock : (e : Entry) (r : Record) → outranks e.clock e.state r.clock r.state ≡ false → e.clock ≤ r.clock
kept_clock e r f = ⊎_elim (λ (l : r.clock < e.clock). absurd (both_ways (outranks e.clock e.state r.clock r.state) f ((beats e r).1 (inl l)))) (λ (l : e.clock ≤ r.clock). l) (cases_lt r.clock e.clock)

-- a list that has no change where all is kept: either the record was raised, or it was beaten
picked_by : (P Q : Type 0) (d a : Bool) → Decides d P → Decides a Q → (picks : Change → Bool) (over : Change) → picks Kept ≡ false
    → Decides (picks (cond d Raised (cond a over Kept))) ((P × (picks Raised ≡ true)) ⊎ ((P → ⊥) × Q × (picks over ≡ true)))
picked_by P Q true a p q picks over kept = (λ t. inl (p.0 refl, t), ⊎_elim (λ x. x.1) (λ x. absurd (x.0 (p.0 refl))))
picked_by P Q false true p q picks over kept = (λ t. inr ((λ h. false≢true (p.1 h)), q.0 refl, t), ⊎_elim (λ x. absurd (false≢true (p.1 x.0))) (λ x. x.2))
picked_by P Q false false p q picks over kept = (λ t. absurd (both_ways (picks Kept) kept t), ⊎_elim (λ x. absurd (false≢true (p.1 x.0))) (λ x. absurd (false≢true (q.1 x.1))))

picked : (own : ℕ) (r : Record) (e : Entry) (picks : Change → Bool) → picks Kept ≡ false
    → Decides (picks (change_by own (Some r) e)) ((Raises own r e × (picks Raised ≡ true)) ⊎ ((Raises own r e → ⊥) × Beats e r × (picks (taken_over r.state e.state) ≡ true)))
picked own r e picks kept = picked_by (Raises own r e) (Beats e r) (defies own r e) (outranks e.clock e.state r.clock r.state) (raises own r e) (beats e r) picks (taken_over r.state e.state) kept

-- what a state is, taken over one that is held
alike : (held : Option (List ℕ)) (t : List ℕ) → Decides (same held t) (Some t ≡ held)
alike None t = (λ q. cc, λ q. cc)
alike (Some u) t = let d = bytes_eq-Decides u t in (λ q. ap Some (sym (d.0 q)), λ q. d.1 (let s : u ≡ t = cc in s))

over_added : (held state : Option (List ℕ)) → is_added (taken_over held state) ≡ false
over_added held None = refl
over_added held (Some t) = cond_both (same held t) Repeated Changed (λ x. is_added x ≡ false) (λ _. refl) (λ _. refl)

over_updated : (held state : Option (List ℕ)) → Decides (is_updated (taken_over held state)) (state ≢ None)
over_updated held None = (λ q. cc, λ not. absurd (not refl))
over_updated held (Some t) = cond_both (same held t) Repeated Changed (λ x. Decides (is_updated x) (Some t ≢ None)) (λ _. (λ _ q. cc, λ _. refl)) (λ _. (λ _ q. cc, λ _. refl))

over_changed : (held state : Option (List ℕ)) → Decides (is_changed (taken_over held state)) ((state ≢ None) × (state ≢ held))
over_changed held None = (λ q. cc, λ p. absurd (p.0 refl))
over_changed held (Some t) =
    let d = alike held t in
    cond_both (same held t) Repeated Changed (λ x. Decides (is_changed x) ((Some t ≢ None) × (Some t ≢ held)))
    (λ s. (λ q. cc, λ p. absurd (p.1 (d.0 s))))
    (λ f. (λ _. ((λ q. cc), (λ q. both_ways (same held t) f (d.1 q))), λ _. refl))

over_removed : (held state : Option (List ℕ)) → Decides (is_removed (taken_over held state)) (state ≡ None)
over_removed held None = (λ _. refl, λ _. refl)
over_removed held (Some t) = cond_both (same held t) Repeated Changed (λ x. Decides (is_removed x) (Some t ≡ None)) (λ _. (λ q. cc, λ q. cc)) (λ _. (λ q. cc, λ q. cc))

-- which list a change is in
pub adds : (own : ℕ) (o : Option Record) (e : Entry) → Decides (is_added (change_by own o e)) (Adds o e)
adds own None e = added_if e.state where
  added_if : (s : Option (List ℕ)) → Decides (is_added (cond (is_some s) Added Hidden)) (s ≢ None)
  added_if None = (λ q. cc, λ not. absurd (not refl))
  added_if (Some t) = (λ _ q. cc, λ _. refl)
adds own (Some r) e = Decides-like (is_added (change_by own (Some r) e)) (⊎_elim (λ p. false≢true p.1) (λ p. both_ways (is_added (taken_over r.state e.state)) (over_added r.state e.state) p.2)) (λ z. absurd z) (picked own r e is_added refl)

pub updates : (own : ℕ) (o : Option Record) (e : Entry) → Decides (is_updated (change_by own o e)) (Updates own o e)
updates own None e = cond_both (is_some e.state) Added Hidden (λ x. Decides (is_updated x) ⊥) (λ _. (λ q. cc, λ z. absurd z)) (λ _. (λ q. cc, λ z. absurd z))
updates own (Some r) e =
    let d = over_updated r.state e.state in
    Decides-like (is_updated (change_by own (Some r) e))
    (⊎_elim (λ p. inl p.0) (λ p. inr (p.1, d.0 p.2)))
    (⊎_elim (λ p. inl (p, refl)) (λ p. inr ((λ z. p.1 z.2), p.0, d.1 p.1)))
    (picked own r e is_updated refl)

pub alters : (own : ℕ) (o : Option Record) (e : Entry) → Decides (is_changed (change_by own o e)) (Alters o e)
alters own None e = cond_both (is_some e.state) Added Hidden (λ x. Decides (is_changed x) ⊥) (λ _. (λ q. cc, λ z. absurd z)) (λ _. (λ q. cc, λ z. absurd z))
alters own (Some r) e =
    let d = over_changed r.state e.state in
    Decides-like (is_changed (change_by own (Some r) e))
    (⊎_elim (λ p. absurd (false≢true p.1)) (λ p. let q = d.0 p.2 in (p.1, q.0, q.1)))
    (λ p. inr ((λ z. p.1 z.2), p.0, d.1 (p.1, p.2)))
    (picked own r e is_changed refl)

pub removes : (own : ℕ) (o : Option Record) (e : Entry) → Decides (is_removed (change_by own o e)) (Removes own o e)
removes own None e = cond_both (is_some e.state) Added Hidden (λ x. Decides (is_removed x) ⊥) (λ _. (λ q. cc, λ z. absurd z)) (λ _. (λ q. cc, λ z. absurd z))
removes own (Some r) e =
    let d = over_removed r.state e.state in
    Decides-like (is_removed (change_by own (Some r) e))
    (⊎_elim (λ p. absurd (false≢true p.1)) (λ p. (p.0, p.1, d.0 p.2)))
    (λ p. inr (p.0, p.1, d.1 p.2))
    (picked own r e is_removed refl)
