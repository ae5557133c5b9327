-- What the loop of the reader keeps.
use Rattle.std.proofs.Common.{◌≡◌, ℕ, ◌+◌, ◌*◌, ◌<◌, List, [], ◌∷◌, ◌++◌, map, length, get_or, drop, Some, None, Ok, Err, Option, Result, refl, append_assoc, append-nil, arith}
use Rattle.std.proofs.lemmas.List.{drop_more, drop_all}
use Rattle.hexadecimal.specs.declared.HexFault.{HexFault}
use Rattle.hexadecimal.specs.declared.Sign.TheVariants as sign
use Rattle.hexadecimal.specs.Line.{sign_of, value_in, hex_from, hex_line}
use Rattle.hexadecimal.proofs.Agreed.{accepted, spelt}
use Rattle.hexadecimal.proofs.Signs.{digit_small}

-- the line answers the bytes so far and then what is left of it, with the first digit that waits for its second
abbrev pub Kept : List ℕ → ℕ → Option ℕ → List ℕ → Type 0
Kept line i None bytes = hex_line line ≡ value_in (λ bs. bytes ++ bs) (hex_from (i + 1) (map sign_of (drop i line)))
Kept line i (Some h) bytes = (h < 16) × (hex_line line ≡ value_in (λ bs. bytes ++ bs) (hex_from i (sign.Digit h ∷ map sign_of (drop i line))))

-- no bytes before an answer change nothing
pub none_before : (r : Result (List ℕ) HexFault) → value_in (λ bs. [] ++ bs) r ≡ r
none_before (Ok ys) = refl
none_before (Err e) = refl

-- bytes before one more
twice_before : (xs : List ℕ) (y : ℕ) (r : Result (List ℕ) HexFault) → value_in (λ bs. xs ++ bs) (value_in (λ bs. y ∷ bs) r) ≡ value_in (λ bs. (xs ++ y ∷ []) ++ bs) r
twice_before xs y (Ok zs) = rw append_assoc
twice_before xs y (Err e) = refl

-- a second digit
pub kept_byte : (line : List ℕ) (i h d : ℕ) (bytes : List ℕ) → i < length line → sign_of (get_or line i 0) ≡ sign.Digit d → Kept line i (Some h) bytes → Kept line (i + 1) None (bytes ++ (16 * h + d) ∷ [])
kept_byte line i h d bytes l e k =
    let two : i + 2 ≡ i + 1 + 1 = omega arith in
    rw (drop_more line i 0 l, e, twice_before bytes (16 * h + d) (hex_from (i + 2) (map sign_of (drop (i + 1) line))), two) at k.1

-- what the reader's goals need
pub ruleset reading = (drop_more, drop_all, append-nil, none_before, kept_byte, digit_small, accepted, spelt)
