-- Lines of a text. Index:
--   lines   the lines, without their line feeds
use Rattle.std.specs.Prelude.{ℕ, if◌then◌else◌, List, [], ◌∷◌, ◌==◌}
use Rattle.std.specs.List.{onto_first}

-- the lines of a text: a line feed ends each of them, and the last may lack it
abbrev pub lines : List ℕ → List (List ℕ)
lines [] = []
lines (b ∷ s) = if b == 10 then [] ∷ lines s else onto_first b (lines s)
