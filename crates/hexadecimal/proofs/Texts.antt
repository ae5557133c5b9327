-- What is written is read back.
use Rattle.std.proofs.Common.{◌≡◌, ℕ, suc, ◌/◌, ◌%◌, ◌<◌, true, List, [], ◌∷◌, ◌++◌, get_or, Ok, Err, Result, MatchResult, refl, rules, arith}
use Rattle.std.proofs.lemmas.Bool.Decides.{nat_tests}
use Rattle.std.proofs.lemmas.Fmt.{hex_byte}
use Rattle.std.proofs.lemmas.Str.{IsUtf8-from_ascii}
use Rattle.std.proofs.lemmas.Str.Ascii.{IsAscii-cons, IsAscii-nil}
use Rattle.std.proofs.lemmas.Grind.{put_two, take_at_read, flat_map-append}
use Rattle.std.specs.Fmt.{digit_glyph}
use Rattle.std.specs.List.{flat_map}
use Rattle.std.specs.Result.{IsOk}
use Rattle.std.specs.Str.{IsAscii, IsUtf8}
use Rattle.hexadecimal.specs.Line.{DigitOf, Spells, numeral, upper, space, ended, blank, byte}
use Rattle.hexadecimal.specs.Text.{byte_text, spaced, written}

-- the digit that is written has its value
digit_written : (d : ℕ) → d < 16 → DigitOf (digit_glyph true d) d
digit_written d l = grind (arith, nat_tests, numeral, upper)

-- one written byte and what follows it
byte_written : (b : ℕ) {s bs : List ℕ} → b < 256 → Spells s bs → Spells (byte_text b ++ s) (b ∷ bs)
byte_written b l p = byte (digit_written (b / 16) (omega arith)) (digit_written (b % 16) (omega arith)) (omega arith) p

-- the bytes after the first are read back
rest_spells : (bs : List ℕ) → ((i : ℕ) → get_or bs i 0 < 256) → Spells (flat_map (λ b. 32 ∷ byte_text b) bs) bs
rest_spells [] f = ended
rest_spells (b ∷ bs) f = blank (space refl) (byte_written b (f 0) (rest_spells bs (λ i. f (suc i))))

-- a digit that is written is ASCII
pub glyph_ascii : (c d : ℕ) → c ≡ digit_glyph true d → d < 16 → c < 128
glyph_ascii c d is l = rw is (grind (arith, nat_tests))

-- two digits are text, and bytes with a space before each are ASCII
pub digits_text : (a b : ℕ) → a < 128 → b < 128 → IsUtf8 (a ∷ b ∷ [])
digits_text a b l m = IsUtf8-from_ascii (a ∷ b ∷ []) (IsAscii-cons a (b ∷ []) l (IsAscii-cons b [] m IsAscii-nil))

pub ascii_spaced : (bs : List ℕ) → ((i : ℕ) → get_or bs i 0 < 256) → IsAscii (spaced bs)
ascii_spaced [] f = IsAscii-nil
ascii_spaced (b ∷ bs) f =
    let small = f 0 in
    let high = glyph_ascii (digit_glyph true (b / 16)) (b / 16) refl (omega arith) in
    let low = glyph_ascii (digit_glyph true (b % 16)) (b % 16) refl (omega arith) in
    let rest = ascii_spaced bs (λ i. f (suc i)) in
    IsAscii-cons 32 (byte_text b ++ spaced bs) (omega arith) (IsAscii-cons (digit_glyph true (b / 16)) (digit_glyph true (b % 16) ∷ spaced bs) high (IsAscii-cons (digit_glyph true (b % 16)) (spaced bs) low rest))

-- where there is no fault, a value is answered
pub answered : {X E : Type 0} (r : Result X E) (P : X → Type 0) (Q : E → Type 0) → MatchResult r P Q → ((e : E) → Q e → ⊥) → IsOk r
answered (Ok x) P Q m none = search rules
answered (Err e) P Q m none = absurd (none e m)

-- what is written is read back
pub written_spells : (bs : List ℕ) → ((i : ℕ) → get_or bs i 0 < 256) → Spells (written bs) bs
written_spells [] f = ended
written_spells (b ∷ bs) f = byte_written b (f 0) (rest_spells bs (λ i. f (suc i)))

-- what writing one more byte needs
pub ruleset writing = (hex_byte, put_two, take_at_read, flat_map-append)
