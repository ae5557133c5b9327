-- Numbers of one byte, and the largest of a width. Assumes nothing.
use Rattle.std.proofs.Common.{◌≡◌, ℕ, suc, ◌+◌, ◌-◌, ◌*◌, ◌/◌, ◌%◌, ◌^◌, ◌<◌, ◌≤◌, List, ◌∷◌, length, get_or, Ok, sym, refl, ap, ◌∙◌, arith, lt-ltb, le-leb}
use borrow.Author.Tests.{lt-leb}
use Rattle.std.proofs.lemmas.Nat.{pow-add, pow_pos, div-mul-add}
use Rattle.std.proofs.Math.Nat.{suc-mul}
use Rattle.encoding.specs.VarUint.{number_in}
use Rattle.encoding.proofs.Fronts.{tail, headed}

-- a byte below 128 is the number
pub ends : (room top b : ℕ) (s : List ℕ) → 0 < room → b ≤ top → b < 128 → Ok (b, s) ≡ number_in room top (b ∷ s)
ends room top b s r l h =
    let v : b % 128 + 128 * 0 ≡ b = omega arith in
    let n : 0 < suc (length s) = omega arith in
    rw (lt-ltb b 128 h, v, lt-leb room 0 r, lt-leb (suc (length s)) 0 n, le-leb b top l) refl

-- and so is the first byte of a slice
pub one_byte : (room top : ℕ) (s : List ℕ) → 0 < room → 127 ≤ top → 0 < length s → get_or s 0 0 < 128 → number_in room top s ≡ Ok (get_or s 0 0, tail s)
one_byte room top s r t n h = ap (number_in room top) (headed s n) ∙ sym (ends room top (get_or s 0 0) (tail s) r (omega arith) h)

-- the largest number of a width is what all 64 bits are without those past it
pub all_bits : (b : ℕ) → b ≤ 64 → 18446744073709551615 / 2 ^ (64 - b) ≡ 2 ^ b - 1
all_bits b l =
    let p : ℕ = 2 ^ (64 - b) in
    let q : ℕ = 2 ^ b in
    let n : b + (64 - b) ≡ 64 = omega arith in
    let e : 18446744073709551616 ≡ 2 ^ b * 2 ^ (64 - b) = ap (λ k. 2 ^ k) (sym n) ∙ pow-add 2 b (64 - b) in
    let m : suc (q - 1) ≡ q = omega (arith, pow_pos b) in
    let c : q * p ≡ (q - 1) * p + p = ap (λ k. k * p) (sym m) ∙ suc-mul (q - 1) p in
    let d : 18446744073709551615 ≡ (q - 1) * p + (p - 1) = omega (arith, pow_pos (64 - b)) in
    let h : p - 1 < p = omega (arith, pow_pos (64 - b)) in
    ap (λ k. k / p) d ∙ div-mul-add (q - 1) p (p - 1) h
