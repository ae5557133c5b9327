-- What a row of events comes to, one event later.
use Rattle.std.proofs.Common.{◌≡◌, ℕ, ◌⊎◌, List, [], ◌∷◌, ◌++◌, None, Option, sym, refl, ap, ◌∙◌, inl, inr, append_assoc, append-nil}
use Rattle.message.specs.Presence.{Entry}
use Rattle.law.specs.Words.{Told, History}
use Rattle.law.specs.Events.{Event, events_of, events, arrives, arrived_after, arrived, Account, account_next, account_after, account}

module _ {X : Type 0} where
  -- where a list with one element more is cut, the cut is at that element, or before it
  pub cut_last : (xs : List X) (y : X) (before : List X) (x : X) (after : List X) → xs ++ y ∷ [] ≡ before ++ x ∷ after
      → ((after ≡ []) × (x ≡ y) × (before ≡ xs)) ⊎ ((rest : List X) × (after ≡ rest ++ y ∷ []) × (xs ≡ before ++ x ∷ rest))
  cut_last [] y [] x after is = inl (cc, cc, refl)
  cut_last [] y (b ∷ []) x after is = let z : ◌≡◌ {A = List X} [] (x ∷ after) = cc in cc
  cut_last [] y (b ∷ c ∷ before) x after is = let z : ◌≡◌ {A = List X} [] (c ∷ (before ++ x ∷ after)) = cc in cc
  cut_last (a ∷ xs) y [] x after is =
      let head : a ≡ x = cc in
      let tail : xs ++ y ∷ [] ≡ after = cc in
      inr (xs, sym tail, ap (λ z. z ∷ xs) head)
  cut_last (a ∷ xs) y (b ∷ before) x after is =
      let head : a ≡ b = cc in
      let tail : xs ++ y ∷ [] ≡ before ++ x ∷ after = cc in
      by head (cut_last xs y before x after tail)
    where
      by : a ≡ b → ((after ≡ []) × (x ≡ y) × (before ≡ xs)) ⊎ ((rest : List X) × (after ≡ rest ++ y ∷ []) × (xs ≡ before ++ x ∷ rest))
          → ((after ≡ []) × (x ≡ y) × (b ∷ before ≡ a ∷ xs)) ⊎ ((rest : List X) × (after ≡ rest ++ y ∷ []) × (a ∷ xs ≡ b ∷ (before ++ x ∷ rest)))
      by head (inl (none, is, front)) = inl (none, is, (cc))
      by head (inr (rest, last, front)) = inr (rest, last, (cc))

-- a history with one call more brings what that call brings
pub events_more : (own : ℕ) (history : History) (t : Told) → events own (history ++ t ∷ []) ≡ events own history ++ events_of own t
events_more own [] t = append-nil (events_of own t)
events_more own (x ∷ history) t = ap (λ l. events_of own x ++ l) (events_more own history t) ∙ sym (append_assoc (events_of own x) (events own history) (events_of own t))

pub events_append : (own : ℕ) (h g : History) → events own (h ++ g) ≡ events own h ++ events own g
events_append own [] g = refl
events_append own (x ∷ h) g = ap (λ l. events_of own x ++ l) (events_append own h g) ∙ sym (append_assoc (events_of own x) (events own h) (events own g))

pub arrived_append : (own : ℕ) (before : List Entry) (ds es : List Event) → arrived_after own before (ds ++ es) ≡ arrived_after own (arrived_after own before ds) es
arrived_append own before [] es = refl
arrived_append own before (d ∷ ds) es = arrived_append own (before ++ arrives own before d) ds es

-- what arrived after one event more
pub arrived_next : (own : ℕ) (ds : List Event) (d : Event) → arrived own (ds ++ d ∷ []) ≡ arrived own ds ++ arrives own (arrived own ds) d
arrived_next own ds d = arrived_append own [] ds (d ∷ [])

pub account_append : (own : ℕ) (a : Option Account) (ds es : List Event) → account_after own a (ds ++ es) ≡ account_after own (account_after own a ds) es
account_append own a [] es = refl
account_append own a (d ∷ ds) es = account_append own (account_next own a d) ds es

-- and the account
pub account_one : (own : ℕ) (ds : List Event) (d : Event) → account own (ds ++ d ∷ []) ≡ account_next own (account own ds) d
account_one own ds d = account_append own None ds (d ∷ [])
