-- A walk over entries, one after another.
use Rattle.std.proofs.Common.{◌≡◌, ℕ, suc, List, ◌∷◌, Ok, Err, Result, sym, refl, ap, ◌∙◌, arith}
use Rattle.encoding.specs.declared.fault.WireFault.{WireFault}
use Rattle.encoding.specs.Entries.{entries, past}
use Rattle.encoding.specs.Reading.{Reading, thence, named}

past_named : {X Y : Type 0} (f : X → Y) (r : Reading X) → past (named f r) ≡ past r
past_named f (Ok p) = refl
past_named f (Err e) = refl

module _ {X : Type 0} (one : List ℕ → Reading X) where
  after : (k : ℕ) (r : Reading X) → Result (List ℕ) WireFault
  after k r = past (thence r (λ x rest. named (λ xs. x ∷ xs) (entries one k rest)))

  -- one entry is passed, and the others come after it
  went : (k : ℕ) (r : Reading X) (t : List ℕ) → Ok t ≡ past r → after k r ≡ past (entries one k t)
  unfolding after
  went k (Ok p) t e = past_named _ (entries one k p.1) ∙ ap (λ s. past (entries one k s)) (let i : p.1 ≡ t = cc in i)
  went k (Err f) t e = absurd (let z : ◌≡◌ {A = ℕ} 0 1 = cc in omega arith)

  stopped : (k : ℕ) (r : Reading X) (f : WireFault) → Err f ≡ past r → after k r ≡ Err f
  unfolding after
  stopped k (Ok p) f e = absurd (let z : ◌≡◌ {A = ℕ} 0 1 = cc in omega arith)
  stopped k (Err g) f e = sym e

  pub past_more : (k : ℕ) (s t : List ℕ) → Ok t ≡ past (one s) → past (entries one (suc k) s) ≡ past (entries one k t)
  unfolding after
  past_more k s t e = went k (one s) t e

  pub past_stopped : (k : ℕ) (s : List ℕ) (f : WireFault) → Err f ≡ past (one s) → past (entries one (suc k) s) ≡ Err f
  unfolding after
  past_stopped k s f e = stopped k (one s) f e
