-- A record's time is that of the entries which touched it last.
use Rattle.std.proofs.Common.{◌≡◌, ℕ, Bool, true, false, cond, ◌⊎◌, List, [], ◌∷◌, Some, None, Option, Decides, sym, refl, ap, ◌∙◌, subst, inl, inr, ⊎_elim}
use Rattle.std.proofs.lemmas.Bool.{cases_eq, false≢true}
use Rattle.state_vector.specs.Tables.{ascends}
use Rattle.message.specs.Presence.{Entry}
use Rattle.awareness.specs.Record.{Record, client_of, outranks, held_of}
use Rattle.awareness.specs.Taking.{plain, defies, lifted, received, taken}
use Rattle.awareness.specs.Newest.{Raises, Beats, Touches, Did, Timed, TimesTellTheLastChange}
use Rattle.awareness.proofs.Verdicts.{raises, beats}
use Rattle.awareness.proofs.Received.{left, held_left, held_else, ascends_received, ascends_taken, taken_append, stays_taken}

-- of what two tests choose, the time is that of what was touched
chosen : (P Q : Type 0) (d a : Bool) → Decides d P → Decides a Q → (now : ℕ) (l n r : Record) → l.time ≡ now → n.time ≡ now
    → ((P ⊎ Q) × ((cond d l (cond a n r)).time ≡ now)) ⊎ ((P ⊎ Q → ⊥) × (Some (cond d l (cond a n r)) ≡ Some r))
chosen P Q true a p q now l n r lifted_then plain_then = inl (inl (p.0 refl), lifted_then)
chosen P Q false true p q now l n r lifted_then plain_then = inl (inr (q.0 refl), plain_then)
chosen P Q false false p q now l n r lifted_then plain_then = inr (⊎_elim (λ h. false≢true (p.1 h)) (λ h. false≢true (q.1 h)), refl)

module _ (own now : ℕ) where
  -- one entry touches what is held, which then has its time, or leaves it as it is
  pub touched_or_kept : (o : Option Record) (e : Entry) → (Touches own o e × Timed now (Some (left own now o e))) ⊎ ((Touches own o e → ⊥) × (Some (left own now o e) ≡ o))
  touched_or_kept None e = inl (tt, refl)
  touched_or_kept (Some r) e = chosen (Raises own r e) (Beats e r) (defies own r e) (outranks e.clock e.state r.clock r.state) (raises own r e) (beats e r) now (lifted now r e) (plain now e) r refl refl

  -- what has the time of the entries keeps it when one more comes
  pub timed_left : (o : Option Record) (e : Entry) → Timed now o → Timed now (Some (left own now o e))
  timed_left o e t = ⊎_elim (λ p. p.1) (λ p. subst (Timed now) (sym p.1) t) (touched_or_kept o e)

  -- what an entry touched has its time
  pub timed_received : (rows : List Record) (e : Entry) (c : ℕ) → ascends client_of rows ≡ true → e.client ≡ c → Touches own (held_of c rows) e → Timed now (held_of c (received own now rows e))
  timed_received rows e c up is touched =
      subst (Timed now) (sym (held_left own now rows e c up is)) (⊎_elim (λ p. p.1) (λ p. absurd (p.0 touched)) (touched_or_kept (held_of c rows) e))

  -- and what it did not touch is as it was
  pub kept_received : (rows : List Record) (e : Entry) (c : ℕ) → ascends client_of rows ≡ true → (e.client ≡ c → Touches own (held_of c rows) e → ⊥) → held_of c (received own now rows e) ≡ held_of c rows
  kept_received rows e c up untouched =
      ⊎_elim
      (λ (is : e.client ≡ c). held_left own now rows e c up is ∙ ⊎_elim (λ p. absurd (untouched is p.0)) (λ p. p.1) (touched_or_kept (held_of c rows) e))
      (λ (ne : e.client ≡ c → ⊥). held_else own now rows e c ne)
      (cases_eq e.client c)

  -- of a row of entries
  timed_taken : (rows : List Record) (es : List Entry) (c : ℕ) → ascends client_of rows ≡ true → Did (Touches own) own now rows es c → Timed now (held_of c (taken own now rows es))
  timed_taken rows es c up (before, e, after, there, is, ne) =
      let then : List Record = taken own now rows before in
      let up' = ascends_taken own now rows before up in
      let stays = stays_taken own now c (Timed now) (λ o f _ _ t. timed_left o f t) (received own now then e) after (ascends_received own now then e up') (timed_received then e c up' is ne) in
      subst (λ xs. Timed now (held_of c xs)) (sym (ap (taken own now rows) there ∙ taken_append own now rows before (e ∷ after))) stays

  touched_next : (rows : List Record) (e : Entry) (es : List Entry) (c : ℕ) → Did (Touches own) own now (received own now rows e) es c → Did (Touches own) own now rows (e ∷ es) c
  touched_next rows e es c (before, f, after, there, is, ne) = (e ∷ before, f, after, ap (λ l. e ∷ l) there, is, ne)

  kept_taken : (rows : List Record) (es : List Entry) (c : ℕ) → ascends client_of rows ≡ true → (Did (Touches own) own now rows es c → ⊥) → held_of c (taken own now rows es) ≡ held_of c rows
  kept_taken rows [] c up untouched = refl
  kept_taken rows (e ∷ es) c up untouched =
      kept_taken (received own now rows e) es c (ascends_received own now rows e up) (λ t. untouched (touched_next rows e es c t))
      ∙ kept_received rows e c up (λ is ne. untouched ([], e, es, refl, is, ne))

pub times_tell_the_last_change : TimesTellTheLastChange
times_tell_the_last_change = record {
  touched_then = λ own now rows es c up touched. timed_taken own now rows es c up touched;
  else_as_before = λ own now rows es c up untouched. kept_taken own now rows es c up untouched;
}
