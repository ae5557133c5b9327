-- Entries that stand one after another.
--   entries   so many entries, each read where the one before it ended
--   counted   a count of a width, then so many entries
--   begun     what a walk that begins at a count has before it
--   past      the bytes after what was read
--   past_of    the same of a reader that answers those bytes alone
--   verdict   whether it could be read
--   Steps     one step of a walk over entries that are due
use Rattle.std.specs.Prelude.{◌≡◌, ℕ, zero, suc, List, [], ◌∷◌, Some, None, Option, Ok, Err, Result}
use Rattle.std.specs.Borrow.{Bor}
use Rattle.encoding.specs.declared.fault.WireFault.{WireFault}
use Rattle.encoding.specs.Fields.{count_in}
use Rattle.encoding.specs.Reading.{Reading, thence, named}

-- so many entries, each read where the one before it ended
abbrev pub entries : {X : Type 0} → (List ℕ → Reading X) → ℕ → List ℕ → Reading (List X)
entries one zero s = Ok ([], s)
entries one (suc n) s = thence (one s) (λ x rest. named (λ xs. x ∷ xs) (entries one n rest))

-- a count of a width, then so many entries
abbrev pub counted : {X : Type 0} → (List ℕ → Reading X) → ℕ → List ℕ → Reading (List X)
counted one width s = thence (count_in width s) (entries one)

-- what a walk that begins at a count has before it, where due says what is due of a walk
abbrev pub begun : {W X : Type 0} → (W → Reading (List X)) → Result W WireFault → Reading (List X)
begun due (Ok w) = due w
begun due (Err f) = Err f

-- the bytes after what was read
abbrev pub past : {X : Type 0} → Reading X → Result (List ℕ) WireFault
past (Ok p) = Ok p.1
past (Err f) = Err f

-- the same of a reader that answers those bytes alone
abbrev pub past_of : Result (Bor (List ℕ)) WireFault → Result (List ℕ) WireFault
past_of (Ok rest) = Ok rest.now
past_of (Err f) = Err f

-- whether it could be read
abbrev pub verdict : {X : Type 0} → Reading X → Result (Unit {0}) WireFault
verdict (Ok p) = Ok tt
verdict (Err f) = Err f

-- one step of a walk over entries that are due: none was left, those bytes follow, and none is due still; or one was read, and the others are due after it; or one cannot be read, and none is due any more
abbrev pub Steps : {E X : Type 0} → (E → X) → (E → Type 0) → Reading (List X) → Option (Result E WireFault) → Reading (List X) → List ℕ → Type 0
Steps says holds due None after rest = (due ≡ Ok ([], rest)) × (after ≡ due)
Steps says holds due (Some (Ok e)) after rest = (due ≡ named (λ xs. says e ∷ xs) after) × holds e
Steps says holds due (Some (Err f)) after rest = (due ≡ Err f) × (after ≡ Ok ([], rest))
