-- What a character's sign tells of the character, and the other way.
use Rattle.std.proofs.Common.{◌≡◌, ℕ, ◌<◌, arith}
use Rattle.std.proofs.lemmas.Bool.Decides.{nat_tests}
use Rattle.hexadecimal.specs.declared.Sign.TheVariants as sign
use Rattle.hexadecimal.specs.Line.{sign_of, DigitOf, Blank, numeral, upper, lower, space, tab, carriage}

-- a digit's value is below 16
pub digit_small : (c d : ℕ) → sign_of c ≡ sign.Digit d → d < 16
unfolding sign_of
digit_small c d e = grind (arith, nat_tests)

-- what the sign says of the character
pub digit_of : (c d : ℕ) → sign_of c ≡ sign.Digit d → DigitOf c d
unfolding sign_of
digit_of c d e = grind (arith, nat_tests, numeral, upper, lower)

pub blank_of : (c : ℕ) → sign_of c ≡ sign.Blank → Blank c
unfolding sign_of
blank_of c e = grind (arith, nat_tests, space, tab, carriage)

pub comment_of : (c : ℕ) → sign_of c ≡ sign.Comment → c ≡ 35
unfolding sign_of
comment_of c e = grind (arith, nat_tests)

-- the sign of each character that the format names
pub sign_digit : {c d : ℕ} → DigitOf c d → sign_of c ≡ sign.Digit d
unfolding sign_of
sign_digit (numeral l e) = grind (arith, nat_tests)
sign_digit (upper m l e) = grind (arith, nat_tests)
sign_digit (lower m l e) = grind (arith, nat_tests)

pub sign_blank : {c : ℕ} → Blank c → sign_of c ≡ sign.Blank
unfolding sign_of
sign_blank (space e) = grind (arith, nat_tests)
sign_blank (tab e) = grind (arith, nat_tests)
sign_blank (carriage e) = grind (arith, nat_tests)

pub sign_comment : {c : ℕ} → c ≡ 35 → sign_of c ≡ sign.Comment
unfolding sign_of
sign_comment e = grind (arith, nat_tests)
