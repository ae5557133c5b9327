-- Of each client but the own one, the table holds the newest of what came.
use Rattle.std.proofs.Common.{◌≡◌, ℕ, ◌<◌, ◌≤◌, true, false, ◌≢◌, List, [], ◌∷◌, ◌++◌, Contains, Some, None, Option, sym, refl, ap, ◌∙◌, subst, inr, ⊎_elim, append_assoc, append-nil, arith}
use Rattle.std.proofs.lemmas.Bool.{both_ways, cases_eq, cond_both}
use Rattle.std.proofs.lemmas.List.Elements.{Contains-append_left, Contains-push, Contains-push_cases}
use Rattle.state_vector.specs.Tables.{ascends, better}
use Rattle.message.specs.Presence.{Entry}
use Rattle.awareness.specs.Record.{Record, client_of, above, entry_of, held_of}
use Rattle.awareness.specs.Taking.{plain, defies, lifted, received, taken, next_clock, removed, stored}
use Rattle.awareness.specs.Newest.{Beats, entry_of_client, Came, Newest, HoldsNewest, Update, taken_in_turn, entries_of, TablesHoldTheNewest}
use Rattle.awareness.proofs.Received.{left, Of, held_is_of, held_left, held_else, ascends_received, ascends_taken, held_stored, held_besides}
use Rattle.awareness.proofs.Verdicts.{raises, beats, kept_clock}

-- an entry of a client is told by its clock and state
told : (c : ℕ) (e : Entry) → e.client ≡ c → e ≡ entry_of_client c e.clock e.state
told c e is = ap (λ k. entry_of_client k e.clock e.state) is

module _ (c : ℕ) (came : List Entry) (e : Entry) where
  -- what came has come after one more entry
  came_still : (n : ℕ) (s : Option (List ℕ)) → Came c n s came → Came c n s (came ++ e ∷ [])
  came_still n None has = Contains-append_left came (e ∷ []) (entry_of_client c n None) has
  came_still n (Some t) f = record {
    before = f.before;
    after = f.after ++ e ∷ [];
    there = ap (λ l. l ++ e ∷ []) f.there ∙ append_assoc f.before (entry_of_client c n (Some t) ∷ f.after) (e ∷ []);
    first = f.first;
  }

  -- the newest stays so where an entry of its client has no higher clock, and is no null at its own while it is live
  newest_still : (r : Record) → (e.client ≡ c → e.clock ≤ r.clock) → (e ≡ entry_of_client c r.clock None → r.state ≡ None) → Newest c came r → Newest c (came ++ e ∷ []) r
  newest_still r low null h = record {
    highest = λ f has is. ⊎_elim (λ was. h.highest f was is) (λ (q : e ≡ f). rw (← q) (low (ap (λ x. x.client) q ∙ is))) (Contains-push_cases came e f has);
    came_so = came_still r.clock r.state h.came_so;
    null_wins = λ has. ⊎_elim h.null_wins null (Contains-push_cases came e (entry_of_client c r.clock None) has);
  }

-- nothing came at its clock before
came_first : (c n : ℕ) (s : Option (List ℕ)) (came : List Entry) → ((e : Entry) → Contains came e → e.client ≡ c → e.clock ≡ n → ⊥) → Came c n s (came ++ entry_of_client c n s ∷ [])
came_first c n None came fresh = Contains-push came (entry_of_client c n None)
came_first c n (Some t) came fresh = record { before = came; after = []; there = refl; first = fresh }

-- a record with a clock above all that came is the newest with its entry
pub newest_over : (c : ℕ) (came : List Entry) (r : Record) → ((e : Entry) → Contains came e → e.client ≡ c → e.clock < r.clock) → Newest c (came ++ entry_of_client c r.clock r.state ∷ []) r
newest_over c came r over = record {
  highest = λ f has is. ⊎_elim (λ was. let l = over f was is in omega arith) (λ q. let same = ap (λ (x : Entry). x.clock) q in omega arith) (Contains-push_cases came (entry_of_client c r.clock r.state) f has);
  came_so = came_first c r.clock r.state came (λ f was is at. let l = over f was is in omega arith);
  null_wins = λ has. ⊎_elim (λ was. let l = over (entry_of_client c r.clock None) was refl in absurd (omega arith)) (λ q. ap (λ (x : Entry). x.state) q) (Contains-push_cases came (entry_of_client c r.clock r.state) (entry_of_client c r.clock None) has);
}

-- and so is a null at the clock of the newest
pub newest_null : (c : ℕ) (came : List Entry) (r x : Record) → x.clock ≡ r.clock → x.state ≡ None → Newest c came r → Newest c (came ++ entry_of_client c x.clock x.state ∷ []) x
newest_null c came r x at null h = record {
  highest = λ f has is. ⊎_elim (λ was. let l = h.highest f was is in omega arith) (λ q. let same = ap (λ (y : Entry). y.clock) q in omega arith) (Contains-push_cases came (entry_of_client c x.clock x.state) f has);
  came_so = subst (λ s. Came c x.clock s (came ++ entry_of_client c x.clock s ∷ [])) (sym null) (Contains-push came (entry_of_client c x.clock None));
  null_wins = λ _. null;
}

module _ (c : ℕ) (came : List Entry) (now : ℕ) (r : Record) (e : Entry) (is : e.client ≡ c) (h : Newest c came r) where
  -- an entry that beats the newest is the newest
  newest_above : Beats e r → Newest c (came ++ e ∷ []) (plain now e)
  newest_above b =
      subst (λ x. Newest c (came ++ x ∷ []) (plain now e)) (sym (told c e is))
      (⊎_elim
      (λ (l : r.clock < e.clock). newest_over c came (plain now e) (λ f was of. let m = h.highest f was of in omega arith))
      (λ p. newest_null c came r (plain now e) p.0 p.1 h)
      b)

  -- and one that does not leaves it so
  newest_below : above (plain now e) r ≡ false → Newest c (came ++ e ∷ []) r
  newest_below f =
      newest_still c came e r (λ _. kept_clock e r f)
      (λ q. null_or r.state (λ live. both_ways (above (plain now e) r) f ((beats e r).1 (inr (ap (λ (x : Entry). x.clock) q, ap (λ (x : Entry). x.state) q, live)))))
      h
    where
      null_or : (s : Option (List ℕ)) → (s ≢ None → ⊥) → s ≡ None
      null_or None none = refl
      null_or (Some t) none = absurd (none (λ q. cc))

-- one entry of the client
pub newest_left : (own now c : ℕ) (came : List Entry) (o : Option Record) (e : Entry) → c ≢ own → e.client ≡ c → Of c o → HoldsNewest c came o → Newest c (came ++ e ∷ []) (left own now o e)
newest_left own now c came None e other is of h = subst (λ x. Newest c (came ++ x ∷ []) (plain now e)) (sym (told c e is)) (newest_over c came (plain now e) (λ f was of_f. absurd (h f was of_f)))
newest_left own now c came (Some r) e other is of h =
    cond_both (defies own r e) (lifted now r e) (better above (plain now e) r) (λ x. Newest c (came ++ e ∷ []) x)
    (λ d. absurd (other (sym of ∙ ((raises own r e).0 d).0)))
    (λ _. cond_both (above (plain now e) r) (plain now e) r (λ x. Newest c (came ++ e ∷ []) x) (λ u. newest_above c came now r e is h ((beats e r).0 u)) (newest_below c came now r e is h))

-- one of another
pub newest_else : (c : ℕ) (came : List Entry) (o : Option Record) (e : Entry) → (e.client ≡ c → ⊥) → HoldsNewest c came o → HoldsNewest c (came ++ e ∷ []) o
newest_else c came None e ne h = λ f has is. ⊎_elim (λ was. h f was is) (λ (q : e ≡ f). ne (ap (λ (x : Entry). x.client) q ∙ is)) (Contains-push_cases came e f has)
newest_else c came (Some r) e ne h = newest_still c came e r (λ is. absurd (ne is)) (λ q. absurd (ne (ap (λ (x : Entry). x.client) q))) h

module _ (own c : ℕ) (other : c ≢ own) where
  -- the table after one entry, at any time
  pub newest_received : (now : ℕ) (rows : List Record) (came : List Entry) (e : Entry) → ascends client_of rows ≡ true → HoldsNewest c came (held_of c rows) → HoldsNewest c (came ++ e ∷ []) (held_of c (received own now rows e))
  newest_received now rows came e up h =
      ⊎_elim
      (λ (is : e.client ≡ c). subst (HoldsNewest c (came ++ e ∷ [])) (sym (held_left own now rows e c up is)) (newest_left own now c came (held_of c rows) e other is (held_is_of c rows) h))
      (λ (ne : e.client ≡ c → ⊥). subst (HoldsNewest c (came ++ e ∷ [])) (sym (held_else own now rows e c ne)) (newest_else c came (held_of c rows) e ne h))
      (cases_eq e.client c)

  -- after a row of them
  pub newest_taken : (now : ℕ) (rows : List Record) (came es : List Entry) → ascends client_of rows ≡ true → HoldsNewest c came (held_of c rows) → HoldsNewest c (came ++ es) (held_of c (taken own now rows es))
  newest_taken now rows came [] up h = subst (λ l. HoldsNewest c l (held_of c rows)) (sym (append-nil came)) h
  newest_taken now rows came (e ∷ es) up h =
      subst (λ l. HoldsNewest c l (held_of c (taken own now rows (e ∷ es)))) (append_assoc came (e ∷ []) es)
      (newest_taken now (received own now rows e) (came ++ e ∷ []) es (ascends_received own now rows e up) (newest_received now rows came e up h))

  -- after updates, each at its own time
  pub newest_in_turn : (rows : List Record) (came : List Entry) (us : List Update) → ascends client_of rows ≡ true → HoldsNewest c came (held_of c rows) → HoldsNewest c (came ++ entries_of us) (held_of c (taken_in_turn own rows us))
  newest_in_turn rows came [] up h = subst (λ l. HoldsNewest c l (held_of c rows)) (sym (append-nil came)) h
  newest_in_turn rows came (u ∷ us) up h =
      subst (λ l. HoldsNewest c l (held_of c (taken_in_turn own rows (u ∷ us)))) (append_assoc came u.entries (entries_of us))
      (newest_in_turn (taken own u.time rows u.entries) (came ++ u.entries) us (ascends_taken own u.time rows u.entries up) (newest_taken u.time rows came u.entries up h))

-- a client that is made null counts as a null above all that came for it
pub newest_removed : (c now : ℕ) (rows : List Record) (came : List Entry) → ascends client_of rows ≡ true → HoldsNewest c came (held_of c rows) → HoldsNewest c (came ++ entry_of_client c (next_clock (held_of c rows)) None ∷ []) (held_of c (stored rows (removed c now (held_of c rows))))
newest_removed c now rows came up h = subst (HoldsNewest c (came ++ entry_of_client c (next_clock (held_of c rows)) None ∷ [])) (sym (held_stored rows (removed c now (held_of c rows)) up)) (by_held (held_of c rows) h) where
  by_held : (o : Option Record) → HoldsNewest c came o → Newest c (came ++ entry_of_client c (next_clock o) None ∷ []) (removed c now o)
  by_held None none = newest_over c came (removed c now None) (λ f was is. absurd (none f was is))
  by_held (Some r) h = newest_over c came (removed c now (Some r)) (λ f was is. let l = h.highest f was is in omega arith)

-- and to the others it is one entry more, that is not theirs
pub newest_besides : (c : ℕ) (rows : List Record) (came : List Entry) (r : Record) → (r.client ≡ c → ⊥) → HoldsNewest c came (held_of c rows) → HoldsNewest c (came ++ entry_of r ∷ []) (held_of c (stored rows r))
newest_besides c rows came r ne h = subst (HoldsNewest c (came ++ entry_of r ∷ [])) (sym (held_besides rows r c ne)) (newest_else c came (held_of c rows) (entry_of r) ne h)

nothing_yet : (c : ℕ) → HoldsNewest c [] None
nothing_yet c e has is = absurd (omega arith)

pub tables_hold_the_newest : TablesHoldTheNewest
tables_hold_the_newest = record {
  at_once = λ own now es c other. newest_taken own c other now [] [] es refl (nothing_yet c);
  in_turn = λ own us c other. newest_in_turn own c other [] [] us refl (nothing_yet c);
}
