-- What a reader answers, by the bytes that its references point to.
--   Reading   a value and the bytes after it, or a fault
--   read_as    what a reader's answer says, by what its value means
--   read      the same where the value means itself
--   bytes     the bytes of a part of the input
--   thence    reading goes on where a reading ended
--   named     a reading by another name
--   passed    a value that was read, where it passes
use Rattle.std.specs.Prelude.{ℕ, List, Ok, Err, Result}
use Rattle.std.specs.Borrow.{Bor}
use Rattle.encoding.specs.declared.fault.WireFault.{WireFault}

-- a value and the bytes after it, or a fault
abbrev pub Reading : Type 0 → Type 0
Reading X = Result (X × List ℕ) WireFault

-- what a reader's answer says, by what its value means
abbrev pub read_as : {X Y : Type 0} → (X → Y) → Result (X × Bor (List ℕ)) WireFault → Reading Y
read_as means (Ok p) = Ok (means p.0, p.1.now)
read_as means (Err f) = Err f

-- the same where the value means itself
abbrev pub read : {X : Type 0} → Result (X × Bor (List ℕ)) WireFault → Reading X
read = read_as (λ x. x)

-- the bytes of a part of the input
abbrev pub bytes : Bor (List ℕ) → List ℕ
bytes part = part.now

-- reading goes on where a reading ended
abbrev pub thence : {X Y : Type 0} → Reading X → (X → List ℕ → Reading Y) → Reading Y
thence (Ok p) next = next p.0 p.1
thence (Err f) next = Err f

-- a reading by another name
abbrev pub named : {X Y : Type 0} → (X → Y) → Reading X → Reading Y
named f (Ok p) = Ok (f p.0, p.1)
named f (Err e) = Err e

-- a value that was read, and the bytes after it, where it passes
abbrev pub passed : {X : Type 0} → Result (Unit {0}) WireFault → X → List ℕ → Reading X
passed (Ok u) x rest = Ok (x, rest)
passed (Err f) x rest = Err f
