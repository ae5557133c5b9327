-- Records that are what happened makes of them, one event later.
use Rattle.std.proofs.Common.{◌≡◌, ℕ, true, ◌≢◌, ◌⊎◌, eqb, List, [], ◌∷◌, ◌++◌, map, Some, None, Option, sym, refl, ap, ◌∙◌, subst, inl, inr, ⊎_elim, append-nil, append_assoc, arith}
use Rattle.std.proofs.lemmas.Bool.{cases_eq, cond-true, cond-false, eq-eqb, ne_eqb}
use Rattle.state_vector.specs.Tables.{always, ascends}
use Rattle.state_vector.proofs.Entering.{ascends_entered}
use Rattle.message.specs.Presence.{Entry}
use Rattle.awareness.specs.Newest.{entry_of_client, HoldsNewest, Timed}
use Rattle.awareness.specs.Record.{Record, client_of, held_of}
use Rattle.awareness.specs.Taking.{received, taken, next_clock, set_to, removed, stored}
use Rattle.awareness.proofs.Newest.{newest_received, newest_removed, newest_besides}
use Rattle.awareness.proofs.Received.{left, held_is_of, held_left, held_else, ascends_received, held_stored, held_besides}
use Rattle.awareness.proofs.Times.{touched_or_kept}
use Rattle.law.specs.Events.{Event, came, stated, nulled, joined, arrives, arrived, hears, puts, account_next, account}
use Rattle.law.specs.Shown.{Of, standing, Shows, Touches, reading_of, Last, TimeOf, Holds}
use Rattle.law.proofs.Histories.{cut_last, arrived_next, account_one}
use Rattle.law.proofs.Arrivals.{next_highest}
use Rattle.law.proofs.Pins.{touches_too, one_standing}
use Rattle.law.proofs.Accounts.{heard, put_there}

-- the records after an event
abbrev pub after : ℕ → List Record → Event → List Record
after own rows (came now e) = received own now rows e
after own rows (stated now s) = stored rows (set_to own now s (held_of own rows))
after own rows (nulled now c) = stored rows (removed c now (held_of c rows))
after own rows (joined part) = rows

abbrev pub after_all : ℕ → List Record → List Event → List Record
after_all own rows [] = rows
after_all own rows (d ∷ ds) = after_all own (after own rows d) ds

-- the records are those that what happened leaves
pub record Sound (own : ℕ) (ds : List Event) (rows : List Record) : Type 0 where
  pub up : ascends client_of rows ≡ true
  pub holds : (c : ℕ) → Holds own ds c (held_of c rows)

-- ---- the time of the last change

last_now : (own : ℕ) (ds : List Event) (c : ℕ) (d : Event) → Touches own ds c d → Last own (ds ++ d ∷ []) c (reading_of d)
last_now own ds c d t = record { before = ds; event = d; after = []; there = refl; touched = t; read = refl; since = λ some x rest is _. nothing_left some x rest is } where
  nothing_left : (some : List Event) (x : Event) (rest : List Event) → [] ≡ some ++ x ∷ rest → ⊥
  nothing_left [] x rest is = cc
  nothing_left (y ∷ some) x rest is = cc

last_still : (own : ℕ) (ds : List Event) (c n : ℕ) (d : Event) → Last own ds c n → (Touches own ds c d → ⊥) → Last own (ds ++ d ∷ []) c n
last_still own ds c n d l untouched = record {
  before = l.before;
  event = l.event;
  after = l.after ++ d ∷ [];
  there = ap (λ xs. xs ++ d ∷ []) l.there ∙ append_assoc l.before (l.event ∷ l.after) (d ∷ []);
  touched = l.touched;
  read = l.read;
  since = λ some x rest is t. later some x rest t (cut_last l.after d some x rest is);
}
  where
    later : (some : List Event) (x : Event) (rest : List Event) → Touches own (l.before ++ l.event ∷ some) c x
        → ((rest ≡ []) × (x ≡ d) × (some ≡ l.after)) ⊎ ((more : List Event) × (rest ≡ more ++ d ∷ []) × (l.after ≡ some ++ x ∷ more)) → ⊥
    later some x rest t (inl (none, is, front)) = untouched (subst (λ y. Touches own ds c y) is (subst (λ xs. Touches own xs c x) (ap (λ xs. l.before ++ l.event ∷ xs) front ∙ sym l.there) t))
    later some x rest t (inr (more, last, front)) = l.since some x more front t

time_still : (own : ℕ) (ds : List Event) (c : ℕ) (d : Event) (o : Option Record) → TimeOf own ds c o → (Touches own ds c d → ⊥) → TimeOf own (ds ++ d ∷ []) c o
time_still own ds c d None t untouched = tt
time_still own ds c d (Some r) t untouched = last_still own ds c r.time d t untouched

time_now : (own : ℕ) (ds : List Event) (c now : ℕ) (d : Event) (o : Option Record) → reading_of d ≡ now → Timed now o → Touches own ds c d → TimeOf own (ds ++ d ∷ []) c o
time_now own ds c now d None read t touched = tt
time_now own ds c now d (Some r) read t touched = subst (Last own (ds ++ d ∷ []) c) (read ∙ sym t) (last_now own ds c d touched)

-- ---- one event

module _ (own : ℕ) (ds : List Event) (rows : List Record) (s : Sound own ds rows) where
  -- the clock and the state of what is held of each
  shows_with : (d : Event) (c : ℕ) (o : Option Record) → Of c o
      → (c ≢ own → HoldsNewest c (arrived own ds ++ arrives own (arrived own ds) d) o) → (c ≡ own → standing o ≡ account_next own (account own ds) d) → Shows own (ds ++ d ∷ []) c o
  shows_with d c o of other mine = record {
    client = of;
    another = λ far. subst (λ l. HoldsNewest c l o) (sym (arrived_next own ds d)) (other far);
    itself = λ is. mine is ∙ sym (account_one own ds d);
  }

  shows_at : (c : ℕ) → Shows own ds c (held_of c rows)
  shows_at c = (s.holds c).shows

  -- an event that leaves the own account as it was, and adds nothing to what arrived
  adds_nothing : (c : ℕ) (o : Option Record) → HoldsNewest c (arrived own ds) o → HoldsNewest c (arrived own ds ++ []) o
  adds_nothing c o h = subst (λ l. HoldsNewest c l o) (sym (append-nil (arrived own ds))) h

  -- an entry
  entry_others : (now : ℕ) (e : Entry) (c : ℕ) → c ≢ own → HoldsNewest c (arrived own ds ++ e ∷ []) (held_of c (received own now rows e))
  entry_others now e c far = newest_received own c far now rows (arrived own ds) e s.up ((shows_at c).another far)

  entry_own : (now : ℕ) (e : Entry) → standing (held_of own (received own now rows e)) ≡ account_next own (account own ds) (came now e)
  entry_own now e =
      ⊎_elim
      (λ (is : e.client ≡ own).
      ap standing (held_left own now rows e own s.up is)
      ∙ heard own now (held_of own rows) e is (held_is_of own rows)
      ∙ ap (λ a. Some (hears a e)) ((shows_at own).itself refl)
      ∙ sym (cond-true (eqb e.client own) _ (account own ds) (eq-eqb e.client own is)))
      (λ (ne : e.client ≡ own → ⊥).
      ap standing (held_else own now rows e own ne)
      ∙ (shows_at own).itself refl
      ∙ sym (cond-false (eqb e.client own) _ (account own ds) (ne_eqb e.client own ne)))
      (cases_eq e.client own)

  entry_shows : (now : ℕ) (e : Entry) (c : ℕ) → Shows own (ds ++ came now e ∷ []) c (held_of c (received own now rows e))
  entry_shows now e c =
      shows_with (came now e) c (held_of c (received own now rows e)) (held_is_of c (received own now rows e)) (entry_others now e c)
      (λ is. subst (λ i. standing (held_of i (received own now rows e)) ≡ account_next own (account own ds) (came now e)) (sym is) (entry_own now e))

  entry_time : (now : ℕ) (e : Entry) (c : ℕ) → TimeOf own (ds ++ came now e ∷ []) c (held_of c (received own now rows e))
  entry_time now e c =
      let d = came now e in
      let o = held_of c rows in
      let before = (s.holds c).time in
      ⊎_elim
      (λ (is : e.client ≡ c).
      subst (TimeOf own (ds ++ d ∷ []) c) (sym (held_left own now rows e c s.up is))
      (⊎_elim
      (λ t. time_now own ds c now d (Some (left own now o e)) refl t.1 (is, o, shows_at c, t.0))
      (λ k. subst (TimeOf own (ds ++ d ∷ []) c) (sym k.1) (time_still own ds c d o before (λ t. k.0 (touches_too own ds c t.1 o e t.2 (shows_at c) t.3))))
      (touched_or_kept own now o e)))
      (λ (ne : e.client ≡ c → ⊥). subst (TimeOf own (ds ++ d ∷ []) c) (sym (held_else own now rows e c ne)) (time_still own ds c d o before (λ t. ne t.0)))
      (cases_eq e.client c)

  -- a record that always takes its place
  module _ (d : Event) (r : Record) where
    stored_is : (c : ℕ) → r.client ≡ c → held_of c (stored rows r) ≡ Some r
    stored_is c is = subst (λ i. held_of i (stored rows r) ≡ Some r) is (held_stored rows r s.up)

    stored_else : (c : ℕ) → (r.client ≡ c → ⊥) → held_of c (stored rows r) ≡ held_of c rows
    stored_else c ne = held_besides rows r c ne

  stated_shows : (now : ℕ) (u : Option (List ℕ)) (c : ℕ) → Shows own (ds ++ stated now u ∷ []) c (held_of c (stored rows (set_to own now u (held_of own rows))))
  stated_shows now u c =
      let r : Record = set_to own now u (held_of own rows) in
      let then = stored rows r in
      shows_with (stated now u) c (held_of c then) (held_is_of c then)
      (λ far. adds_nothing c (held_of c then) (subst (HoldsNewest c (arrived own ds)) (sym (stored_else (stated now u) r c (λ q. far (sym q)))) ((shows_at c).another far)))
      (λ is. ap standing (stored_is (stated now u) r c (sym is)) ∙ put_there (held_of own rows) r refl ∙ ap (λ a. Some (puts a u)) ((shows_at own).itself refl))

  stated_time : (now : ℕ) (u : Option (List ℕ)) (c : ℕ) → TimeOf own (ds ++ stated now u ∷ []) c (held_of c (stored rows (set_to own now u (held_of own rows))))
  stated_time now u c =
      let r : Record = set_to own now u (held_of own rows) in
      let d = stated now u in
      ⊎_elim
      (λ (is : own ≡ c). subst (TimeOf own (ds ++ d ∷ []) c) (sym (stored_is d r c is)) (time_now own ds c now d (Some r) refl refl (sym is)))
      (λ (ne : own ≡ c → ⊥). subst (TimeOf own (ds ++ d ∷ []) c) (sym (stored_else d r c ne)) (time_still own ds c d (held_of c rows) (s.holds c).time (λ q. ne (sym q))))
      (cases_eq own c)

  -- a client that is made null
  module _ (now i : ℕ) where
    abbrev gone : Record
    gone = removed i now (held_of i rows)

    -- it adds its null to what arrived, where it is another
    gone_entry : i ≢ own → arrives own (arrived own ds) (nulled now i) ≡ entry_of_client i (next_clock (held_of i rows)) None ∷ []
    gone_entry far =
        cond-false (eqb i own) [] _ (ne_eqb i own far)
        ∙ ap (λ n. entry_of_client i n None ∷ []) (sym (next_highest i (arrived own ds) (held_of i rows) ((shows_at i).another far)))

    gone_others : (c : ℕ) → c ≢ own → HoldsNewest c (arrived own ds ++ arrives own (arrived own ds) (nulled now i)) (held_of c (stored rows gone))
    gone_others c far =
        ⊎_elim
        (λ (mine : i ≡ own).
        subst (λ l. HoldsNewest c (arrived own ds ++ l) (held_of c (stored rows gone))) (sym (cond-true (eqb i own) [] _ (eq-eqb i own mine)))
        (adds_nothing c (held_of c (stored rows gone)) (subst (HoldsNewest c (arrived own ds)) (sym (stored_else (nulled now i) gone c (λ q. far (sym q ∙ mine)))) ((shows_at c).another far))))
        (λ (other : i ≡ own → ⊥).
        subst (λ l. HoldsNewest c (arrived own ds ++ l) (held_of c (stored rows gone))) (sym (gone_entry other))
        (⊎_elim
        (λ (is : i ≡ c). subst (λ j. HoldsNewest j (arrived own ds ++ entry_of_client i (next_clock (held_of i rows)) None ∷ []) (held_of j (stored rows gone))) is (newest_removed i now rows (arrived own ds) s.up ((shows_at i).another other)))
        (λ (ne : i ≡ c → ⊥). newest_besides c rows (arrived own ds) gone ne ((shows_at c).another far))
        (cases_eq i c)))
        (cases_eq i own)

    gone_own : standing (held_of own (stored rows gone)) ≡ account_next own (account own ds) (nulled now i)
    gone_own =
        ⊎_elim
        (λ (mine : i ≡ own).
        ap standing (stored_is (nulled now i) gone own mine)
        ∙ put_there (held_of i rows) gone refl
        ∙ ap (λ a. Some (puts a None)) (ap (λ j. standing (held_of j rows)) mine ∙ (shows_at own).itself refl)
        ∙ sym (cond-true (eqb i own) _ (account own ds) (eq-eqb i own mine)))
        (λ (other : i ≡ own → ⊥).
        ap standing (stored_else (nulled now i) gone own other)
        ∙ (shows_at own).itself refl
        ∙ sym (cond-false (eqb i own) _ (account own ds) (ne_eqb i own other)))
        (cases_eq i own)

    gone_shows : (c : ℕ) → Shows own (ds ++ nulled now i ∷ []) c (held_of c (stored rows gone))
    gone_shows c =
        shows_with (nulled now i) c (held_of c (stored rows gone)) (held_is_of c (stored rows gone)) (gone_others c)
        (λ is. subst (λ j. standing (held_of j (stored rows gone)) ≡ account_next own (account own ds) (nulled now i)) (sym is) gone_own)

    -- of one who was held the time stays, of another it is that of the removal
    gone_time_of : (o : Option Record) → Shows own ds i o → TimeOf own ds i o → TimeOf own (ds ++ nulled now i ∷ []) i (Some (removed i now o))
    gone_time_of None h t = time_now own ds i now (nulled now i) (Some (removed i now None)) refl refl (refl, h)
    gone_time_of (Some r) h t = time_still own ds i (nulled now i) (Some r) t (λ q. none_held (one_standing own ds i None (Some r) q.1 h)) where
      none_held : standing None ≡ standing (Some r) → ⊥
      none_held q = cc

    gone_time : (c : ℕ) → TimeOf own (ds ++ nulled now i ∷ []) c (held_of c (stored rows gone))
    gone_time c =
        let d = nulled now i in
        ⊎_elim
        (λ (is : i ≡ c). subst (TimeOf own (ds ++ d ∷ []) c) (sym (stored_is d gone c is)) (subst (λ j. TimeOf own (ds ++ d ∷ []) j (Some gone)) is (gone_time_of (held_of i rows) (shows_at i) (s.holds i).time)))
        (λ (ne : i ≡ c → ⊥). subst (TimeOf own (ds ++ d ∷ []) c) (sym (stored_else d gone c ne)) (time_still own ds c d (held_of c rows) (s.holds c).time (λ q. ne q.0)))
        (cases_eq i c)

  -- a document update leaves them as they are
  joined_shows : (part : List ℕ) (c : ℕ) → Shows own (ds ++ joined part ∷ []) c (held_of c rows)
  joined_shows part c = shows_with (joined part) c (held_of c rows) (held_is_of c rows) (λ far. adds_nothing c (held_of c rows) ((shows_at c).another far)) (λ is. (shows_at c).itself is)

  pub sound_next : (d : Event) → Sound own (ds ++ d ∷ []) (after own rows d)
  sound_next (came now e) = record { up = ascends_received own now rows e s.up; holds = λ c. record { shows = entry_shows now e c; time = entry_time now e c } }
  sound_next (stated now u) = record { up = ascends_entered client_of always rows (set_to own now u (held_of own rows)) s.up; holds = λ c. record { shows = stated_shows now u c; time = stated_time now u c } }
  sound_next (nulled now i) = record { up = ascends_entered client_of always rows (gone now i) s.up; holds = λ c. record { shows = gone_shows now i c; time = gone_time now i c } }
  sound_next (joined part) = record { up = s.up; holds = λ c. record { shows = joined_shows part c; time = time_still own ds c (joined part) (held_of c rows) (s.holds c).time (λ z. z) } }

-- ---- a row of events

pub sound_all : (own : ℕ) (ds es : List Event) (rows : List Record) → Sound own ds rows → Sound own (ds ++ es) (after_all own rows es)
sound_all own ds [] rows s = subst (λ l. Sound own l rows) (sym (append-nil ds)) s
sound_all own ds (d ∷ es) rows s = subst (λ l. Sound own l (after_all own rows (d ∷ es))) (append_assoc ds (d ∷ []) es) (sound_all own (ds ++ d ∷ []) es (after own rows d) (sound_next own ds rows s d))

-- entries that came together
pub taken_is : (own now : ℕ) (rows : List Record) (es : List Entry) → after_all own rows (map (came now) es) ≡ taken own now rows es
taken_is own now rows [] = refl
taken_is own now rows (e ∷ es) = taken_is own now (received own now rows e) es

-- nothing is held at first
pub sound_first : (own : ℕ) → Sound own [] []
sound_first own = record {
  up = refl;
  holds = λ c. record {
    shows = record { client = tt; another = λ far e has is. absurd (omega arith); itself = λ is. refl };
    time = tt;
  };
}
