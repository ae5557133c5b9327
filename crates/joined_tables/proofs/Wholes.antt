-- Bytes that were read to their end.
use Rattle.std.proofs.Common.{◌≡◌, ℕ, List, [], ◌∷◌, Ok, Err, Result, sym, refl, ap, ◌∙◌, append-nil}
use Rattle.encoding.specs.declared.fault.WireFault.{WireFault}
use Rattle.encoding.specs.Reading.{Reading, named}
use Rattle.encoding.specs.Spelling.{Exactly}
use Rattle.joined_tables.specs.Whole.{wholly}

-- what is read wholly leaves nothing over
pub whole_is : {X : Type 0} (r : Reading X) (x : X) → wholly r ≡ Ok x → r ≡ Ok (x, [])
whole_is (Ok (y, [])) x h = let same : y ≡ x = cc in ap (λ z. Ok (z, [])) same
whole_is (Ok (y, b ∷ bs)) x h = cc
whole_is (Err f) x h = cc

-- what is spelt from the first byte to the last is read wholly
pub spelt_wholly : {X : Type 0} {r : List ℕ → Reading X} {P : X → List ℕ → Type 0} → Exactly r P → (x : X) (bs : List ℕ) → P x bs → wholly (r bs) ≡ Ok x
spelt_wholly {r = r} h x bs p = ap (λ l. wholly (r l)) (sym (append-nil bs)) ∙ ap wholly (h.spelt_is_taken x bs [] p)

-- what was read, under another name
abbrev pub renamed : {X Y : Type 0} → (X → Y) → Result X WireFault → Result Y WireFault
renamed f (Ok x) = Ok (f x)
renamed f (Err g) = Err g

pub wholly_named : {X Y : Type 0} (f : X → Y) (r : Reading X) → wholly (named f r) ≡ renamed f (wholly r)
wholly_named f (Ok (x, [])) = refl
wholly_named f (Ok (x, b ∷ bs)) = refl
wholly_named f (Err g) = refl
