-- Where the same arrived and the account is the same, all that is said of it is the same.
use Rattle.std.proofs.Common.{◌≡◌, ℕ, List, [], ◌∷◌, ◌++◌, map, Contains, None, Option, sym, refl, ◌∙◌, subst, inl, inr}
use Rattle.message.specs.Presence.{Entry}
use Rattle.awareness.specs.declared.fault.PresenceFault.{PresenceFault}
use Rattle.awareness.specs.Newest.{HoldsNewest}
use Rattle.awareness.specs.Record.{Record}
use Rattle.law.specs.Events.{Event, came, stated, nulled, arrived_after, arrived, Account, AtLeast, account_next, account_after, account}
use Rattle.law.specs.Shown.{Shows}
use Rattle.law.specs.Answers.{Something, Present, Crowded, Reached, Judged}
use Rattle.law.proofs.Histories.{arrived_append, account_append}

-- the same arrived, and the account is the same
pub record Alike (own : ℕ) (ds es : List Event) : Type 0 where
  pub came : arrived own ds ≡ arrived own es
  pub stood : account own ds ≡ account own es

pub alike_back : (own : ℕ) (ds es : List Event) → Alike own ds es → Alike own es ds
alike_back own ds es a = record { came = sym a.came; stood = sym a.stood }

-- the times of entries do not matter
timeless_arrived : (own n m : ℕ) (before : List Entry) (es : List Entry) → arrived_after own before (map (came n) es) ≡ arrived_after own before (map (came m) es)
timeless_arrived own n m before [] = refl
timeless_arrived own n m before (e ∷ es) = timeless_arrived own n m (before ++ e ∷ []) es

timeless_account : (own n m : ℕ) (a : Option Account) (es : List Entry) → account_after own a (map (came n) es) ≡ account_after own a (map (came m) es)
timeless_account own n m a [] = refl
timeless_account own n m a (e ∷ es) = timeless_account own n m (account_next own a (came n e)) es

module _ (own : ℕ) (ds : List Event) (n m : ℕ) where
  pub more_alike : (es fs : List Event) → ((before : List Entry) → arrived_after own before es ≡ arrived_after own before fs) → ((a : Option Account) → account_after own a es ≡ account_after own a fs) → Alike own (ds ++ es) (ds ++ fs)
  more_alike es fs same_came same_stood = record {
    came = arrived_append own [] ds es ∙ same_came (arrived own ds) ∙ sym (arrived_append own [] ds fs);
    stood = account_append own None ds es ∙ same_stood (account own ds) ∙ sym (account_append own None ds fs);
  }

  pub entries_alike : (es : List Entry) → Alike own (ds ++ map (came n) es) (ds ++ map (came m) es)
  entries_alike es = more_alike (map (came n) es) (map (came m) es) (λ before. timeless_arrived own n m before es) (λ a. timeless_account own n m a es)

  pub stated_alike : (s : Option (List ℕ)) → Alike own (ds ++ stated n s ∷ []) (ds ++ stated m s ∷ [])
  stated_alike s = more_alike (stated n s ∷ []) (stated m s ∷ []) (λ before. refl) (λ a. refl)

  pub nulled_alike : (c : ℕ) → Alike own (ds ++ nulled n c ∷ []) (ds ++ nulled m c ∷ [])
  nulled_alike c = more_alike (nulled n c ∷ []) (nulled m c ∷ []) (λ before. refl) (λ a. refl)

module _ (own : ℕ) (ds es : List Event) (a : Alike own ds es) where
  present_alike : (c : ℕ) → Present own ds c → Present own es c
  present_alike c (inl (far, e, has, is)) = inl (far, e, subst (λ l. Contains l e) a.came has, is)
  present_alike c (inr (mine, some)) = inr (mine, subst Something a.stood some)

  crowded_alike : Crowded own ds → Crowded own es
  crowded_alike h = record { clients = h.clients; different = h.different; many = h.many; present = λ c has. present_alike c (h.present c has) }

  reached_alike : (c n : ℕ) → Reached own ds c n → Reached own es c n
  reached_alike c n (inl (far, e, has, is, l)) = inl (far, e, subst (λ k. Contains k e) a.came has, is, l)
  reached_alike c n (inr (mine, l)) = inr (mine, subst (AtLeast n) a.stood l)

  pub shows_alike : (c : ℕ) (o : Option Record) → Shows own ds c o → Shows own es c o
  shows_alike c o h = record { client = h.client; another = λ far. subst (λ l. HoldsNewest c l o) a.came (h.another far); itself = λ mine. h.itself mine ∙ a.stood }

pub judged_alike : (own : ℕ) (ds es : List Event) → Alike own ds es → {A : Type 0} (c : ℕ) (fails : PresenceFault → A) (passes r : A) → Judged own ds c fails passes r → Judged own es c fails passes r
judged_alike own ds es a c fails passes r j =
    let back = alike_back own ds es a in
    record {
      too_many = λ h. j.too_many (crowded_alike own es ds back h);
      at_end = λ few h. j.at_end (λ x. few (crowded_alike own ds es a x)) (reached_alike own es ds back c _ h);
      fine = λ few low. j.fine (λ x. few (crowded_alike own ds es a x)) (λ x. low (reached_alike own ds es a c _ x));
    }
