-- What is held of the own client is what the account comes to.
use Rattle.std.proofs.Common.{◌≡◌, ℕ, ◌+◌, ◌<◌, ◌≤◌, Bool, true, false, cond, ◌&&◌, ◌||◌, ◌≢◌, eqb, ltb, leb, List, [], ◌∷◌, ◌++◌, is_none, is_some, Some, None, Option, sym, refl, ap, ◌∙◌, subst, arith}
use Rattle.std.proofs.lemmas.Bool.{cond-true, cond_both, eq-eqb, ne_eqb, leb-true, leb-false, ltb-true, ltb-false, le-ltb}
use Rattle.message.specs.Presence.{Entry}
use Rattle.state_vector.specs.Tables.{better}
use Rattle.awareness.specs.Record.{Record, above, outranks}
use Rattle.awareness.specs.Taking.{plain, lifted, next_clock}
use Rattle.awareness.proofs.Received.{left}
use Rattle.law.specs.Events.{Event, came, stated, nulled, joined, Account, meets, hears, puts, Live, AtLeast, account_next, account_after, account}
use Rattle.law.specs.Shown.{Of, standing}
use Rattle.law.proofs.Histories.{account_append}

-- ---- one event

abbrev as_account : Record → Account
as_account r = record { clock = r.clock; state = r.state }

-- a test of two that has no second part is its first
second_fails : (a b : Bool) → (a || (b && false)) ≡ a
second_fails true b = refl
second_fails false true = refl
second_fails false false = refl

passed : (b : Bool) (x y : Record) → as_account (cond b x y) ≡ cond b (as_account x) (as_account y)
passed true x y = refl
passed false x y = refl

-- the own record by its parts, where b is whether it is the own one
module _ (i n time now m : ℕ) where
  -- as it meets an entry that it does not defy
  abbrev kept_or : Option (List ℕ) → Option (List ℕ) → Account
  kept_or s u = as_account (cond (outranks m u n s) (record { client = i; clock = m; time = now; state = u }) (record { client = i; clock = n; time = time; state = s }))

  by_clock : (s u : Option (List ℕ)) → outranks m u n s ≡ ltb n m → kept_or s u ≡ cond (ltb n m) (record { clock = m; state = u }) (record { clock = n; state = s })
  by_clock s u is = ap (λ b. as_account (cond b (record { client = i; clock = m; time = now; state = u }) (record { client = i; clock = n; time = time; state = s }))) is ∙ passed (ltb n m) _ _

  abbrev meeting : Bool → Option (List ℕ) → Option (List ℕ) → Account
  meeting own s u = as_account (cond (own && (is_some s && (is_none u && leb n m))) (record { client = i; clock = m + 1; time = now; state = s }) (cond (outranks m u n s) (record { client = i; clock = m; time = now; state = u }) (record { client = i; clock = n; time = time; state = s })))

  null_met : (t : List ℕ) (b : Bool) → leb n m ≡ b → as_account (cond b (record { client = i; clock = m + 1; time = now; state = Some t }) (cond (outranks m None n (Some t)) (record { client = i; clock = m; time = now; state = None }) (record { client = i; clock = n; time = time; state = Some t }))) ≡ cond b (record { clock = m + 1; state = Some t }) (record { clock = n; state = Some t })
  null_met t true h = refl
  null_met t false h =
      let l : m < n = leb-false n m h in
      let low : ltb n m ≡ false = le-ltb n m (omega arith) in
      let other : eqb m n ≡ false = ne_eqb m n (λ q. omega arith) in
      ap (λ b. as_account (cond (b || (eqb m n && true)) (record { client = i; clock = m; time = now; state = None }) (record { client = i; clock = n; time = time; state = Some t }))) low
      ∙ ap (λ b. as_account (cond (b && true) (record { client = i; clock = m; time = now; state = None }) (record { client = i; clock = n; time = time; state = Some t }))) other

  -- comes to what the account does
  met_own : (s u : Option (List ℕ)) → meeting true s u ≡ meets n s m u
  met_own None None = by_clock None None (second_fails (ltb n m) (eqb m n))
  met_own None (Some v) = by_clock None (Some v) (second_fails (ltb n m) (eqb m n))
  met_own (Some t) None = null_met t (leb n m) refl
  met_own (Some t) (Some v) = by_clock (Some t) (Some v) (second_fails (ltb n m) (eqb m n))

pub heard : (own now : ℕ) (o : Option Record) (e : Entry) → e.client ≡ own → Of own o → standing (Some (left own now o e)) ≡ Some (hears (standing o) e)
heard own now None e is of = refl
heard own now (Some r) e is of =
    ap (λ b. Some (as_account (cond (b && (is_some r.state && (is_none e.state && leb r.clock e.clock))) (lifted now r e) (better above (plain now e) r)))) (eq-eqb r.client own of)
    ∙ ap (λ i. Some (as_account (cond (is_some r.state && (is_none e.state && leb r.clock e.clock)) (lifted now r e) (cond (outranks e.clock e.state r.clock r.state) (record { client = i; clock = e.clock; time = now; state = e.state }) r)))) (is ∙ sym of)
    ∙ ap Some (met_own r.client r.clock r.time now e.clock r.state e.state)

pub put_there : (o : Option Record) (r : Record) → r.clock ≡ next_clock o → standing (Some r) ≡ Some (puts (standing o) r.state)
put_there None r is = ap (λ n. Some (record { clock = n; state = r.state })) is
put_there (Some h) r is = ap (λ n. Some (record { clock = n; state = r.state })) is

-- ---- what the account keeps

meets_grows : (n : ℕ) (s : Option (List ℕ)) (m : ℕ) (u : Option (List ℕ)) → n ≤ (meets n s m u).clock
meets_grows n (Some t) m None = cond_both (leb n m) _ _ (λ (a : Account). n ≤ a.clock) (λ h. let l = leb-true n m h in omega arith) (λ _. omega arith)
meets_grows n (Some t) m (Some u) = cond_both (ltb n m) _ _ (λ (a : Account). n ≤ a.clock) (λ h. let l = ltb-true n m h in omega arith) (λ _. omega arith)
meets_grows n None m u = cond_both (ltb n m) _ _ (λ (a : Account). n ≤ a.clock) (λ h. let l = ltb-true n m h in omega arith) (λ _. omega arith)

meets_hears : (n : ℕ) (s : Option (List ℕ)) (m : ℕ) (u : Option (List ℕ)) → m ≤ (meets n s m u).clock
meets_hears n (Some t) m None = cond_both (leb n m) _ _ (λ (a : Account). m ≤ a.clock) (λ _. omega arith) (λ h. let l = leb-false n m h in omega arith)
meets_hears n (Some t) m (Some u) = cond_both (ltb n m) _ _ (λ (a : Account). m ≤ a.clock) (λ _. omega arith) (λ h. let l = ltb-false n m h in omega arith)
meets_hears n None m u = cond_both (ltb n m) _ _ (λ (a : Account). m ≤ a.clock) (λ _. omega arith) (λ h. let l = ltb-false n m h in omega arith)

meets_null : (n : ℕ) (s : Option (List ℕ)) (m : ℕ) → s ≢ None → m + 1 ≤ (meets n s m None).clock
meets_null n None m l = absurd (l refl)
meets_null n (Some t) m l = cond_both (leb n m) _ _ (λ (a : Account). m + 1 ≤ a.clock) (λ _. omega arith) (λ h. let k = leb-false n m h in omega arith)

meets_live : (n : ℕ) (s : Option (List ℕ)) (m : ℕ) (u : Option (List ℕ)) → s ≢ None → (meets n s m u).state ≢ None
meets_live n None m u l = absurd (l refl)
meets_live n (Some t) m None l = cond_both (leb n m) _ _ (λ (a : Account). a.state ≢ None) (λ _ q. cc) (λ _ q. cc)
meets_live n (Some t) m (Some u) l = cond_both (ltb n m) _ _ (λ (a : Account). a.state ≢ None) (λ _ q. cc) (λ _ q. cc)

-- the clock of the account does not sink
at_least_next : (own n : ℕ) (a : Option Account) (d : Event) → AtLeast n a → AtLeast n (account_next own a d)
at_least_next own n None d h = absurd h
at_least_next own n (Some a) (came now e) h = cond_both (eqb e.client own) _ _ (AtLeast n) (λ _. let g = meets_grows a.clock a.state e.clock e.state in omega arith) (λ _. h)
at_least_next own n (Some a) (stated now s) h = omega arith
at_least_next own n (Some a) (nulled now c) h = cond_both (eqb c own) _ _ (AtLeast n) (λ _. omega arith) (λ _. h)
at_least_next own n (Some a) (joined part) h = h

pub at_least_after : (own n : ℕ) (a : Option Account) (ds : List Event) → AtLeast n a → AtLeast n (account_after own a ds)
at_least_after own n a [] h = h
at_least_after own n a (d ∷ ds) h = at_least_after own n (account_next own a d) ds (at_least_next own n a d h)

module _ (own now : ℕ) (e : Entry) (is : e.client ≡ own) where
  own_next : (a : Option Account) → account_next own a (came now e) ≡ Some (hears a e)
  own_next a = cond-true (eqb e.client own) (Some (hears a e)) a (eq-eqb e.client own is)

  -- a live own text is live after an entry
  live_next : (a : Option Account) → Live a → Live (account_next own a (came now e))
  live_next None l = absurd l
  live_next (Some a) l = subst Live (sym (own_next (Some a))) (meets_live a.clock a.state e.clock e.state l)

  hears_clock : (a : Option Account) → e.clock ≤ (hears a e).clock
  hears_clock None = omega arith
  hears_clock (Some a) = meets_hears a.clock a.state e.clock e.state

  hears_null : (a : Option Account) → Live a → e.state ≡ None → e.clock + 1 ≤ (hears a e).clock
  hears_null None l null = absurd l
  hears_null (Some a) l null = subst (λ u. e.clock + 1 ≤ (meets a.clock a.state e.clock u).clock) (sym null) (meets_null a.clock a.state e.clock l)

  module _ (ds before after : List Event) (there : ds ≡ before ++ came now e ∷ after) where
    ends_in : account own ds ≡ account_after own (Some (hears (account own before) e)) after
    ends_in = ap (account own) there ∙ account_append own None before (came now e ∷ after) ∙ ap (λ a. account_after own a after) (own_next (account own before))

    reaches : (n : ℕ) → n ≤ (hears (account own before) e).clock → AtLeast n (account own ds)
    reaches n l = subst (AtLeast n) (sym ends_in) (at_least_after own n (Some (hears (account own before) e)) after l)

    pub clock_led : AtLeast e.clock (account own ds)
    clock_led = reaches e.clock (hears_clock (account own before))

    pub null_passed : e.state ≡ None → Live (account own before) → AtLeast (e.clock + 1) (account own ds)
    null_passed null live = reaches (e.clock + 1) (hears_null (account own before) live null)

  pub text_stays : (before : List Event) → Live (account own before) → Live (account own (before ++ came now e ∷ []))
  text_stays before live = subst Live (sym (account_append own None before (came now e ∷ []))) (live_next (account own before) live)
