-- Every run keeps the law, and the law leaves nothing open.
use Rattle.std.proofs.Common.{◌≡◌, ℕ, ◌+◌, ◌≤◌, Bool, ◌⊎◌, List, [], ◌∷◌, ◌++◌, Some, None, Option, sym, refl, ap, ◌∙◌, subst, inl, inr, ⊎_elim, arith}
use Rattle.state_vector.proofs.Keys.{same_rows}
use Rattle.message.specs.Message.{Said}
use Rattle.awareness.specs.Record.{Record, client_of, held_of}
use Rattle.awareness.proofs.Received.{held_is_of}
use Rattle.document.specs.Kind.{Kind, Lawful}
use Rattle.calls.specs.Handling.{Hub}
use Rattle.law.specs.Words.{Told, History}
use Rattle.law.specs.Model.{Step, Made, fresh, Runs, none, more}
use Rattle.law.specs.Events.{Event, events, Account, AtLeast, account, document_of}
use Rattle.law.specs.Shown.{standing, Touches, reading_of, Last, TimeOf, Holds}
use Rattle.law.specs.Answers.{Answered, Takes}
use Rattle.law.specs.Exchange.{AtEach}
use Rattle.law.specs.Law.{Law}
use Rattle.law.specs.Promises.{EveryRunKeepsTheLaw, OneCallMoreKeepsTheLaw, TheLawLeavesNothingOpen, WhatHappenedIsHeld, SameVerdictsSameLaw}
use Rattle.law.proofs.Accounts.{clock_led, null_passed, text_stays}
use Rattle.law.proofs.Calls.{CallSo, call_so}
use Rattle.law.proofs.Exchanges.{exchanges}
use Rattle.law.proofs.Histories.{cut_last, events_more}
use Rattle.law.proofs.Messages.{Kept}
use Rattle.law.proofs.Onward.{sound_first}
use Rattle.law.proofs.Pins.{one_standing}

-- what is so at each place of a history and of the call after it is so at each place then
at_each_more : (own : ℕ) (So : List Event → Told → Type 0) (history : History) (t : Told) → AtEach own So history → So (events own history) t → AtEach own So (history ++ t ∷ [])
at_each_more own So history t all last before x after is = by (cut_last history t before x after is) where
  by : ((after ≡ []) × (x ≡ t) × (before ≡ history)) ⊎ ((rest : History) × (after ≡ rest ++ t ∷ []) × (history ≡ before ++ x ∷ rest)) → So (events own before) x
  by (inl (end, same, front)) = subst (λ y. So (events own before) y) (sym same) (subst (λ h. So (events own h) t) (sym front) last)
  by (inr (rest, end, front)) = all before x rest front

nowhere : (own : ℕ) (So : List Event → Told → Type 0) → AtEach own So []
nowhere own So [] t after is = cc
nowhere own So (x ∷ before) t after is = cc

module _ (k : Kind) (limit : ℕ) (lawful : Lawful k limit) (accepts : Said → Bool) (id : ℕ) where
  -- a hub that is what happened makes of it, where all was answered so, keeps the law
  law_from : (history : History) (hub : Hub k) → Kept k limit accepts id (events id history) hub → AtEach id (Answered k limit accepts id) history → AtEach id (Takes id) history → Law k limit accepts id history hub
  law_from history hub kept answered takes =
      let ds : List Event = events id history in
      let mine : standing (held_of id hub.rows) ≡ account id ds = (kept.sound.holds id).shows.itself refl in
      record {
        client = kept.is;
        once = kept.sound.up;
        answered = answered;
        others = λ c far. (kept.sound.holds c).shows.another far;
        own = record {
          is_account = mine;
          text_kept = λ before now e after is own live. text_stays id now e own before live;
          clock_led = λ before now e after is own. subst (AtLeast e.clock) (sym mine) (clock_led id now e own ds before after is);
          null_passed = λ before now e after is own null live. subst (AtLeast (e.clock + 1)) (sym mine) (null_passed id now e own ds before after is null live);
        };
        times = record {
          readings = takes;
          last_change = λ c r is. subst (TimeOf id ds c) is (kept.sound.holds c).time;
        };
        document = record { joined = kept.document; never_past = kept.never };
        exchange = exchanges k limit lawful accepts id history hub.document kept.document answered kept.never;
      }

  -- and the other way round
  kept_from : (history : History) (hub : Hub k) → Law k limit accepts id history hub → Kept k limit accepts id (events id history) hub
  kept_from history hub law = record {
    is = law.client;
    sound = record {
      up = law.once;
      holds = λ c. record {
        shows = record {
          client = held_is_of c hub.rows;
          another = λ far. law.others c far;
          itself = λ mine. subst (λ i. standing (held_of i hub.rows) ≡ account id (events id history)) (sym mine) law.own.is_account;
        };
        time = time_of c (held_of c hub.rows) refl;
      };
    };
    document = law.document.joined;
    never = law.document.never_past;
  }
    where
      time_of : (c : ℕ) (o : Option Record) → held_of c hub.rows ≡ o → TimeOf id (events id history) c o
      time_of c None is = tt
      time_of c (Some r) is = law.times.last_change c r is

  -- one call more
  pub law_next : (history : History) (hub : Hub k) (t : Told) (then : Hub k) → Law k limit accepts id history hub → Made k limit accepts hub t then → Law k limit accepts id (history ++ t ∷ []) then
  law_next history hub t then law made =
      let ds : List Event = events id history in
      let after : Step k = record { answer = t.answer; hub = then; left = made.later ∷ [] } in
      let so : CallSo k limit accepts id ds t.call t.readings after =
      subst (CallSo k limit accepts id ds t.call t.readings) made.is (call_so k limit accepts id ds hub (kept_from history hub law) t.readings made.later t.call (ap (λ (s : Step k). s.left) made.is)) in
      law_from (history ++ t ∷ []) then
      (subst (λ es. Kept k limit accepts id es then) (sym (events_more id history t)) so.kept)
      (at_each_more id (Answered k limit accepts id) history t law.answered so.answered)
      (at_each_more id (Takes id) history t law.times.readings so.takes)

  -- no call yet
  pub law_first : Law k limit accepts id [] (fresh k limit accepts id)
  law_first = law_from [] (fresh k limit accepts id)
      (record { is = refl; sound = sound_first id; document = refl; never = λ before after is. small before after is })
      (nowhere id (Answered k limit accepts id)) (nowhere id (Takes id)) where
        small : (before after : List Event) → [] ≡ before ++ after → k.size (document_of k before) ≤ limit
        small [] after is = let n = lawful.nothing_in_empty in omega arith
        small (d ∷ before) after is = cc

  pub law_of_run : (history : History) (hub : Hub k) → Runs k limit accepts id history hub → Law k limit accepts id history hub
  law_of_run history hub none = law_first
  law_of_run history hub (more t then run made) = law_next _ _ t then (law_of_run _ _ run) made

pub every_run_keeps_the_law : (k : Kind) (limit : ℕ) → Lawful k limit → EveryRunKeepsTheLaw k limit
every_run_keeps_the_law k limit lawful accepts id history hub run = law_of_run k limit lawful accepts id history hub run

pub one_call_more : (k : Kind) (limit : ℕ) → Lawful k limit → OneCallMoreKeepsTheLaw k limit
one_call_more k limit lawful accepts id history hub t then law made = law_next k limit lawful accepts id history hub t then law made

-- ---- the law leaves nothing open

-- two places of one list are one, or one of them comes later
cut_both : {X : Type 0} (xs : List X) (x : X) (ys us : List X) (u : X) (vs : List X) → xs ++ x ∷ ys ≡ us ++ u ∷ vs
    → (x ≡ u) ⊎ (((some : List X) × (rest : List X) × (us ≡ xs ++ x ∷ some) × (ys ≡ some ++ u ∷ rest)) ⊎ ((some : List X) × (rest : List X) × (xs ≡ us ++ u ∷ some) × (vs ≡ some ++ x ∷ rest)))
cut_both [] x ys [] u vs is = inl (cc)
cut_both [] x ys (w ∷ us) u vs is = let head : x ≡ w = cc in let tail : ys ≡ us ++ u ∷ vs = cc in inr (inl (us, vs, ap (λ z. z ∷ us) (sym head), tail))
cut_both (z ∷ xs) x ys [] u vs is = let head : z ≡ u = cc in let tail : xs ++ x ∷ ys ≡ vs = cc in inr (inr (xs, ys, ap (λ w. w ∷ xs) head, sym tail))
cut_both {X} (z ∷ xs) x ys (w ∷ us) u vs is =
    let head : z ≡ w = cc in
    let tail : xs ++ x ∷ ys ≡ us ++ u ∷ vs = cc in
    by head (cut_both xs x ys us u vs tail)
  where
    by : z ≡ w → (x ≡ u) ⊎ (((some : List X) × (rest : List X) × (us ≡ xs ++ x ∷ some) × (ys ≡ some ++ u ∷ rest)) ⊎ ((some : List X) × (rest : List X) × (xs ≡ us ++ u ∷ some) × (vs ≡ some ++ x ∷ rest)))
        → (x ≡ u) ⊎ (((some : List X) × (rest : List X) × (w ∷ us ≡ z ∷ (xs ++ x ∷ some)) × (ys ≡ some ++ u ∷ rest)) ⊎ ((some : List X) × (rest : List X) × (z ∷ xs ≡ w ∷ (us ++ u ∷ some)) × (vs ≡ some ++ x ∷ rest)))
    by head (inl same) = inl same
    by head (inr (inl (some, rest, front, back))) = inr (inl (some, rest, (cc), back))
    by head (inr (inr (some, rest, front, back))) = inr (inr (some, rest, (cc), back))

module _ (own : ℕ) (ds : List Event) (c : ℕ) where
  -- the time of the last change is one
  one_time : (n m : ℕ) → Last own ds c n → Last own ds c m → n ≡ m
  one_time n m l r =
      ⊎_elim
      (λ (same : l.event ≡ r.event). sym l.read ∙ ap reading_of same ∙ r.read)
      (⊎_elim
      (λ p. absurd (l.since p.0 r.event p.1 p.3 (subst (λ b. Touches own b c r.event) p.2 r.touched)))
      (λ p. absurd (r.since p.0 l.event p.1 p.3 (subst (λ b. Touches own b c l.event) p.2 l.touched))))
      (cut_both l.before l.event l.after r.before r.event r.after (sym l.there ∙ r.there))

  -- and so is what is held
  pub one_held : (o p : Option Record) → Holds own ds c o → Holds own ds c p → o ≡ p
  one_held None None h j = refl
  one_held None (Some r) h j = let s = one_standing own ds c None (Some r) h.shows j.shows in cc
  one_held (Some r) None h j = let s = one_standing own ds c (Some r) None h.shows j.shows in cc
  one_held (Some r) (Some q) h j =
      let s = one_standing own ds c (Some r) (Some q) h.shows j.shows in
      let same : ◌≡◌ {A = Account} (record { clock = r.clock; state = r.state }) (record { clock = q.clock; state = q.state }) = cc in
      let clocks : r.clock ≡ q.clock = ap (λ (x : Account). x.clock) same in
      let states : r.state ≡ q.state = ap (λ (x : Account). x.state) same in
      let clients : r.client ≡ q.client = h.shows.client ∙ sym j.shows.client in
      let times : r.time ≡ q.time = one_time r.time q.time h.time j.time in
      put_together r q clients clocks times states
    where
      put_together : (r q : Record) → r.client ≡ q.client → r.clock ≡ q.clock → r.time ≡ q.time → r.state ≡ q.state → Some r ≡ Some q
      put_together r q a b c d =
          ap (λ i. Some (record { client = i; clock = r.clock; time = r.time; state = r.state })) a
          ∙ ap (λ n. Some (record { client = q.client; clock = n; time = r.time; state = r.state })) b
          ∙ ap (λ n. Some (record { client = q.client; clock = q.clock; time = n; state = r.state })) c
          ∙ ap (λ u. Some (record { client = q.client; clock = q.clock; time = q.time; state = u })) d

pub nothing_is_open : (k : Kind) (limit : ℕ) → Lawful k limit → TheLawLeavesNothingOpen k limit
nothing_is_open k limit lawful accepts id history one other p q =
    let a = kept_from k limit lawful accepts id history one p in
    let b = kept_from k limit lawful accepts id history other q in
    let rows : one.rows ≡ other.rows = same_rows client_of one.rows other.rows a.sound.up b.sound.up (λ c. one_held id (events id history) c (held_of c one.rows) (held_of c other.rows) (a.sound.holds c) (b.sound.holds c)) in
    let owns : one.own ≡ other.own = a.is ∙ sym b.is in
    let documents : one.document ≡ other.document = a.document ∙ sym b.document in
    ap (λ i. record { own = i; rows = one.rows; document = one.document }) owns
    ∙ ap (λ r. record { own = other.own; rows = r; document = one.document }) rows
    ∙ ap (λ d. record { own = other.own; rows = other.rows; document = d }) documents

pub what_happened_is_held : (k : Kind) (limit : ℕ) → Lawful k limit → WhatHappenedIsHeld k limit
what_happened_is_held k limit lawful accepts id history hub law c = (kept_from k limit lawful accepts id history hub law).sound.holds c

pub same_verdicts_same_law : (k : Kind) (limit : ℕ) → SameVerdictsSameLaw k limit
same_verdicts_same_law k limit accepts also id history hub same law = subst (λ f. Law k limit f id history hub) (λ i m. sym (same m) i) law
