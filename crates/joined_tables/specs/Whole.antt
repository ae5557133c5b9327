-- Bytes that are an update from their first to their last.
--   ended    a value at the end of the bytes
--   wholly   what was read, where nothing is left over
--   told     what a reader of a whole update answers
use Rattle.std.specs.Prelude.{ℕ, List, [], ◌∷◌, Ok, Err, Result}
use Rattle.encoding.specs.declared.fault.WireFault.{WireFault}
use Rattle.encoding.specs.declared.fault.WireFault.TheVariants.{UnexpectedValue}
use Rattle.encoding.specs.Reading.{Reading}

-- bytes left over are a value that the layout does not have
abbrev pub ended : {X : Type 0} → X → List ℕ → Result X WireFault
ended x [] = Ok x
ended x (b ∷ bs) = Err UnexpectedValue

-- what was read, where nothing is left over
abbrev pub wholly : {X : Type 0} → Reading X → Result X WireFault
wholly (Ok p) = ended p.0 p.1
wholly (Err f) = Err f

-- what a reader's answer says, by what its value means
abbrev pub told : {U X : Type 0} → (U → Result X WireFault) → Result U WireFault → Result X WireFault
told means (Ok u) = means u
told means (Err f) = Err f
