-- What a tally counts.
--   raised_if   a count of 32 bits, one higher where the answer is of the kind that it counts and that fits
use Rattle.std.specs.Prelude.{ℕ, ◌+◌, ◌-◌, ◌^◌, min, Bool, true, false}

-- a count of 32 bits that stays where it is at its end, and where the answer is of the other kind
abbrev pub raised_if : Bool → ℕ → ℕ
raised_if true n = min (n + 1) (2 ^ 32 - 1)
raised_if false n = n
