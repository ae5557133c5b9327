-- The highest clock that arrived is that of the newest.
use Rattle.std.proofs.Common.{◌≡◌, ℕ, ◌+◌, ◌≤◌, max, eqb, List, [], ◌∷◌, ◌++◌, Contains, Some, None, Option, sym, refl, ap, ◌∙◌, subst, ⊎_elim, arith}
use Rattle.std.proofs.lemmas.Bool.{cases_eq, cond-true, cond-false, eq-eqb, ne_eqb}
use Rattle.message.specs.Presence.{Entry}
use Rattle.awareness.specs.Newest.{entry_of_client, Came, HoldsNewest}
use Rattle.awareness.specs.Record.{Record}
use Rattle.awareness.specs.Taking.{next_clock}
use Rattle.awareness.proofs.Lists.{head_or_tail, in_head, in_tail}
use Rattle.law.specs.Events.{highest}

-- what stands between two rows is in both together
pub in_middle : {X : Type 0} (before : List X) (x : X) (after : List X) → Contains (before ++ x ∷ after) x
in_middle [] x after = in_head x after
in_middle (y ∷ before) x after = in_tail y (before ++ x ∷ after) x (in_middle before x after)

-- what came is among what came
pub came_in : (c n : ℕ) (s : Option (List ℕ)) (came : List Entry) → Came c n s came → Contains came (entry_of_client c n s)
came_in c n None came has = has
came_in c n (Some t) came f = subst (λ l. Contains l (entry_of_client c n (Some t))) (sym f.there) (in_middle f.before (entry_of_client c n (Some t)) f.after)

-- no clock above n came
highest_below : (c n : ℕ) (came : List Entry) → ((e : Entry) → Contains came e → e.client ≡ c → e.clock ≤ n) → highest c came ≤ n
highest_below c n [] top = omega arith
highest_below c n (e ∷ es) top =
    let later : highest c es ≤ n = highest_below c n es (λ x has is. top x (in_tail e es x has) is) in
    ⊎_elim
    (λ (q : e.client ≡ c). subst (λ m. m ≤ n) (sym (cond-true (eqb e.client c) (max e.clock (highest c es)) (highest c es) (eq-eqb e.client c q))) (let here : e.clock ≤ n = top e (in_head e es) q in omega arith))
    (λ (ne : e.client ≡ c → ⊥). subst (λ m. m ≤ n) (sym (cond-false (eqb e.client c) (max e.clock (highest c es)) (highest c es) (ne_eqb e.client c ne))) later)
    (cases_eq e.client c)

-- a clock that came is not above the highest
pub highest_above : (c : ℕ) (came : List Entry) (x : Entry) → Contains came x → x.client ≡ c → x.clock ≤ highest c came
highest_above c [] x has is = absurd (omega arith)
highest_above c (e ∷ es) x has is =
    ⊎_elim
    (λ (q : e ≡ x).
    let mine : e.client ≡ c = ap (λ y. y.client) q ∙ is in
    let same : e.clock ≡ x.clock = ap (λ (y : Entry). y.clock) q in
    subst (λ m. x.clock ≤ m) (sym (cond-true (eqb e.client c) (max e.clock (highest c es)) (highest c es) (eq-eqb e.client c mine))) (omega arith))
    (λ (later : Contains es x).
    let l : x.clock ≤ highest c es = highest_above c es x later is in
    ⊎_elim
    (λ (q : e.client ≡ c). subst (λ m. x.clock ≤ m) (sym (cond-true (eqb e.client c) (max e.clock (highest c es)) (highest c es) (eq-eqb e.client c q))) (omega arith))
    (λ (ne : e.client ≡ c → ⊥). subst (λ m. x.clock ≤ m) (sym (cond-false (eqb e.client c) (max e.clock (highest c es)) (highest c es) (ne_eqb e.client c ne))) l)
    (cases_eq e.client c))
    (head_or_tail e es x has)

-- the clock after the newest is one above the highest that came
pub next_highest : (c : ℕ) (came : List Entry) (o : Option Record) → HoldsNewest c came o → next_clock o ≡ highest c came + 1
next_highest c came None none =
    let l : highest c came ≤ 0 = highest_below c 0 came (λ e has is. absurd (none e has is)) in omega arith
next_highest c came (Some r) h =
    let l : highest c came ≤ r.clock = highest_below c r.clock came h.highest in
    let m : r.clock ≤ highest c came = highest_above c came (entry_of_client c r.clock r.state) (came_in c r.clock r.state came h.came_so) refl in
    omega arith
