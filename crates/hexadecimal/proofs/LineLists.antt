-- The first line of a text, and its lines.
use Rattle.std.proofs.Common.{◌≡◌, ℕ, ◌<◌, ◌==◌, List, [], ◌∷◌, length, arith}
use Rattle.std.proofs.lemmas.Bool.Decides.{nat_tests}
use Rattle.std.proofs.lemmas.List.{take_rest}
use Rattle.std.proofs.lemmas.List.Sums.{position_or_len_is}
use Rattle.std.specs.List.{before_first, after_first}
use Rattle.hexadecimal.specs.Lines.{lines}

-- a text that is not empty has its first line, and then the lines of what follows it
pub lines_first : (s : List ℕ) → 0 < length s → lines s ≡ before_first (λ b. b == 10) s ∷ lines (after_first (λ b. b == 10) s)
lines_first [] l = absurd (omega arith)
lines_first (b ∷ []) l = grind (arith, nat_tests)
lines_first (b ∷ x ∷ s) l = grind (arith, nat_tests, lines_first (x ∷ s))

-- what a cut at a line feed needs
pub ruleset cutting = (position_or_len_is, take_rest)
