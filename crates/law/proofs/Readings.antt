-- The readings that are taken: of those that are told and a later one, the later is left.
use Rattle.std.proofs.Common.{◌≡◌, ℕ, suc, ◌+◌, ◌≤◌, Bool, true, false, cond, List, [], ◌∷◌, ◌++◌, length, sym, refl, ap, ◌∙◌, arith}
use Rattle.std.proofs.lemmas.Bool.{false≢true}
use Rattle.message.specs.Message.{Said, step1, step2, update, awareness, denied, granted, query, custom}
use Rattle.law.specs.Events.{said_events, is_presence, first_of, rest_if, events_in, left_after}
use Rattle.law.specs.Answers.{presences}

pub presences_append : (ms ls : List (ℕ × Said)) → presences (ms ++ ls) ≡ presences ms + presences ls
presences_append [] ls = omega arith
presences_append (m ∷ ms) ls = by (presences_append ms ls) (is_presence m.1) where
  by : presences (ms ++ ls) ≡ presences ms + presences ls → (b : Bool) → cond b (suc (presences (ms ++ ls))) (presences (ms ++ ls)) ≡ cond b (suc (presences ms)) (presences ms) + presences ls
  by h true = omega arith
  by h false = omega arith

-- what is no presence update happens at no time
calm_events : (m : Said) (n l : ℕ) → is_presence m ≡ false → said_events n m ≡ said_events l m
calm_events (awareness part) n l calm = absurd (false≢true (sym calm))
calm_events (step1 part) n l calm = refl
calm_events (step2 part) n l calm = refl
calm_events (update part) n l calm = refl
calm_events (denied reason) n l calm = refl
calm_events granted n l calm = refl
calm_events query n l calm = refl
calm_events (custom tag part) n l calm = refl

module _ (l : ℕ) where
  none_left : (ms : List (ℕ × Said)) → left_after [] ms ≡ []
  none_left [] = refl
  none_left (m ∷ ms) = by (none_left ms) (is_presence m.1) where
    by : left_after [] ms ≡ [] → (b : Bool) → left_after (rest_if b []) ms ≡ []
    by later true = later
    by later false = later

  -- where the later one is left, there is a reading for each presence update
  pub one_each : (rs : List ℕ) (ms : List (ℕ × Said)) → left_after (rs ++ l ∷ []) ms ≡ l ∷ [] → length rs ≡ presences ms
  one_each [] [] is = refl
  one_each (r ∷ []) [] is = let z : ◌≡◌ {A = List ℕ} (l ∷ []) [] = cc in cc
  one_each (r ∷ s ∷ rs) [] is = let z : ◌≡◌ {A = List ℕ} (s ∷ (rs ++ l ∷ [])) [] = cc in cc
  one_each rs (m ∷ ms) is = by (λ ns. one_each ns ms) rs (is_presence m.1) is where
    by : ((ns : List ℕ) → left_after (ns ++ l ∷ []) ms ≡ l ∷ [] → length ns ≡ presences ms) → (rs : List ℕ) (b : Bool) → left_after (rest_if b (rs ++ l ∷ [])) ms ≡ l ∷ [] → length rs ≡ cond b (suc (presences ms)) (presences ms)
    by later rs false is = later rs is
    by later [] true is = let z : ◌≡◌ {A = List ℕ} [] (l ∷ []) = sym (none_left ms) ∙ is in cc
    by later (r ∷ rs) true is = ap suc (later rs is)

  -- and the later one makes no difference
  pub same_events : (rs : List ℕ) (ms : List (ℕ × Said)) → presences ms ≤ length rs → events_in (rs ++ l ∷ []) ms ≡ events_in rs ms
  same_events rs [] few = refl
  same_events rs (m ∷ ms) few = by (λ ns. same_events ns ms) rs (is_presence m.1) refl few where
    by : ((ns : List ℕ) → presences ms ≤ length ns → events_in (ns ++ l ∷ []) ms ≡ events_in ns ms) → (rs : List ℕ) (b : Bool) → is_presence m.1 ≡ b → cond b (suc (presences ms)) (presences ms) ≤ length rs
        → said_events (first_of (rs ++ l ∷ [])) m.1 ++ events_in (rest_if b (rs ++ l ∷ [])) ms ≡ said_events (first_of rs) m.1 ++ events_in (rest_if b rs) ms
    by later rs false calm few = ap (λ ds. ds ++ events_in (rs ++ l ∷ []) ms) (calm_events m.1 (first_of (rs ++ l ∷ [])) (first_of rs) calm) ∙ ap (λ ds. said_events (first_of rs) m.1 ++ ds) (later rs few)
    by later [] true is few = absurd (omega arith)
    by later (r ∷ rs) true is few = ap (λ ds. said_events r m.1 ++ ds) (later rs (omega arith))

  -- one reading, or none
  pub one_or_none : (b : Bool) (rs : List ℕ) → rest_if b (rs ++ l ∷ []) ≡ l ∷ [] → length rs ≡ cond b 1 0
  one_or_none false [] is = refl
  one_or_none false (r ∷ []) is = let z : ◌≡◌ {A = List ℕ} (l ∷ []) [] = cc in cc
  one_or_none false (r ∷ s ∷ rs) is = let z : ◌≡◌ {A = List ℕ} (s ∷ (rs ++ l ∷ [])) [] = cc in cc
  one_or_none true [] is = cc
  one_or_none true (r ∷ []) is = refl
  one_or_none true (r ∷ s ∷ []) is = let z : ◌≡◌ {A = List ℕ} (l ∷ []) [] = cc in cc
  one_or_none true (r ∷ s ∷ t ∷ rs) is = let z : ◌≡◌ {A = List ℕ} (t ∷ (rs ++ l ∷ [])) [] = cc in cc

  pub first_is : (rs : List ℕ) → length rs ≡ 1 → first_of (rs ++ l ∷ []) ≡ first_of rs
  first_is [] one = absurd (omega arith)
  first_is (r ∷ rs) one = refl
