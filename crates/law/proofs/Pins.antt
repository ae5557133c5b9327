-- What happened leaves one clock and one state for each client.
use Rattle.std.proofs.Common.{◌≡◌, ℕ, ◌≤◌, List, [], ◌∷◌, ◌++◌, Contains, Some, None, Option, sym, refl, ap, ◌∙◌, subst, ⊎_elim, arith}
use Rattle.std.proofs.lemmas.Bool.{cases_eq}
use Rattle.message.specs.Presence.{Entry}
use Rattle.awareness.specs.Newest.{entry_of_client, Came, HoldsNewest, Touches}
use Rattle.awareness.specs.Record.{Record}
use Rattle.awareness.proofs.Lists.{in_head, in_tail}
use Rattle.law.specs.Events.{Event, arrived, Account}
use Rattle.law.specs.Shown.{Of, standing, Shows}
use Rattle.law.proofs.Arrivals.{came_in}

-- two texts that are each the first at one clock are one
first_one : (c n : ℕ) (t u : List ℕ) (xs ys vs ws : List Entry) → xs ++ entry_of_client c n (Some t) ∷ vs ≡ ys ++ entry_of_client c n (Some u) ∷ ws
    → ((e : Entry) → Contains xs e → e.client ≡ c → e.clock ≡ n → ⊥) → ((e : Entry) → Contains ys e → e.client ≡ c → e.clock ≡ n → ⊥) → t ≡ u
first_one c n t u [] [] vs ws is p q =
    let same : entry_of_client c n (Some t) ≡ entry_of_client c n (Some u) = cc in
    let state : Some t ≡ Some u = ap (λ (e : Entry). e.state) same in
    cc
first_one c n t u [] (y ∷ ys) vs ws is p q = let same : y ≡ entry_of_client c n (Some t) = cc in absurd (q y (in_head y ys) (ap (λ (e : Entry). e.client) same) (ap (λ (e : Entry). e.clock) same))
first_one c n t u (x ∷ xs) [] vs ws is p q = let same : x ≡ entry_of_client c n (Some u) = cc in absurd (p x (in_head x xs) (ap (λ (e : Entry). e.client) same) (ap (λ (e : Entry). e.clock) same))
first_one c n t u (x ∷ xs) (y ∷ ys) vs ws is p q =
    let more : xs ++ entry_of_client c n (Some t) ∷ vs ≡ ys ++ entry_of_client c n (Some u) ∷ ws = cc in
    first_one c n t u xs ys vs ws more (λ e m. p e (in_tail x xs e m)) (λ e m. q e (in_tail y ys e m))

one_state : (c n : ℕ) (came : List Entry) (s u : Option (List ℕ)) → Came c n s came → Came c n u came → (Contains came (entry_of_client c n None) → s ≡ None) → (Contains came (entry_of_client c n None) → u ≡ None) → s ≡ u
one_state c n came None None h k p q = refl
one_state c n came None (Some u) h k p q = sym (q h)
one_state c n came (Some t) None h k p q = p k
one_state c n came (Some t) (Some u) h k p q = ap Some (first_one c n t u h.before k.before h.after k.after (sym h.there ∙ k.there) h.first k.first)

newest_one : (c : ℕ) (came : List Entry) (o p : Option Record) → HoldsNewest c came o → HoldsNewest c came p → standing o ≡ standing p
newest_one c came None None h k = refl
newest_one c came None (Some r) h k = absurd (h (entry_of_client c r.clock r.state) (came_in c r.clock r.state came k.came_so) refl)
newest_one c came (Some r) None h k = absurd (k (entry_of_client c r.clock r.state) (came_in c r.clock r.state came h.came_so) refl)
newest_one c came (Some r) (Some s) h k =
    let a : r.clock ≤ s.clock = k.highest (entry_of_client c r.clock r.state) (came_in c r.clock r.state came h.came_so) refl in
    let b : s.clock ≤ r.clock = h.highest (entry_of_client c s.clock s.state) (came_in c s.clock s.state came k.came_so) refl in
    let same : s.clock ≡ r.clock = omega arith in
    let states : r.state ≡ s.state
    = one_state c r.clock came r.state s.state h.came_so (subst (λ n. Came c n s.state came) same k.came_so) h.null_wins (λ m. k.null_wins (subst (λ n. Contains came (entry_of_client c n None)) (sym same) m)) in
    ap (λ u. Some (record { clock = r.clock; state = u })) states ∙ ap (λ n. Some (record { clock = n; state = s.state })) (sym same)

module _ (own : ℕ) (ds : List Event) (c : ℕ) where
  -- a history leaves one clock and one state
  pub one_standing : (o p : Option Record) → Shows own ds c o → Shows own ds c p → standing o ≡ standing p
  one_standing o p h k =
      ⊎_elim
      (λ (is : c ≡ own). h.itself is ∙ sym (k.itself is))
      (λ (far : c ≡ own → ⊥). newest_one c (arrived own ds) o p (h.another far) (k.another far))
      (cases_eq c own)

  -- and what does not look at the time is so of the one as it is of the other
  module _ (Does : Option Record → Entry → Type 0) (timeless : (i n t u : ℕ) (state : Option (List ℕ)) (e : Entry) → Does (Some (record { client = i; clock = n; time = t; state = state })) e → Does (Some (record { client = i; clock = n; time = u; state = state })) e) where
    same_does : (o p : Option Record) (e : Entry) → Of c o → Of c p → standing o ≡ standing p → Does o e → Does p e
    same_does None None e a b s t = t
    same_does None (Some r) e a b s t = cc
    same_does (Some r) None e a b s t = cc
    same_does (Some r) (Some q) e a b s t =
        let same : ◌≡◌ {A = Account} (record { clock = r.clock; state = r.state }) (record { clock = q.clock; state = q.state }) = cc in
        let clocks : r.clock ≡ q.clock = ap (λ (x : Account). x.clock) same in
        let states : r.state ≡ q.state = ap (λ (x : Account). x.state) same in
        let clients : r.client ≡ q.client = a ∙ sym b in
        subst (λ i. Does (Some (record { client = i; clock = q.clock; time = q.time; state = q.state })) e) clients
        (subst (λ n. Does (Some (record { client = r.client; clock = n; time = q.time; state = q.state })) e) clocks
        (subst (λ u. Does (Some (record { client = r.client; clock = r.clock; time = q.time; state = u })) e) states (timeless r.client r.clock r.time q.time r.state e t)))

    pub does_too : (o p : Option Record) (e : Entry) → Shows own ds c o → Shows own ds c p → Does o e → Does p e
    does_too o p e h k t = same_does o p e h.client k.client (one_standing o p h k) t

  -- so that an entry touches the one as it does the other
  pub touches_too : (o p : Option Record) (e : Entry) → Shows own ds c o → Shows own ds c p → Touches own o e → Touches own p e
  touches_too o p e h k t = does_too (Touches own) (λ i n t u state e h. h) o p e h k t

  -- nothing is held by one where nothing is by the other
  pub none_too : (p : Option Record) → Shows own ds c None → Shows own ds c p → p ≡ None
  none_too None h k = refl
  none_too (Some r) h k = let s = one_standing None (Some r) h k in cc
