-- Zeros behind a text that was written over an earlier one.
use Rattle.std.proofs.Common.{◌≡◌, ℕ, ◌+◌, ◌-◌, ◌≤◌, List, ◌++◌, length, take, drop, sym, ap, ◌∙◌, arith}
use Rattle.std.proofs.Math.ListN.{replicate}
use Rattle.std.proofs.lemmas.List.{drop-drop, drop-replicate, length-drop, length-take-le, replicate-append-replicate}

module _ (bs : List ℕ) (n m : ℕ) (fits : n ≤ length bs) (held : m ≤ length bs) (zeros : drop m bs ≡ replicate (length bs - m) 0) where
  -- a row with zeros behind its first m places has them behind its first n too, once those between are 0
  zeros_behind : replicate (m - n) 0 ++ drop (m - n) (drop n bs) ≡ replicate (length bs - n) 0
  zeros_behind =
      let l = length bs in
      ap (λ ys. replicate (m - n) 0 ++ ys) (
      drop-drop (m - n) n bs
      ∙ ap (λ k. drop k bs) (let e : n + (m - n) ≡ m + (n - m) = omega arith in e)
      ∙ sym (drop-drop (n - m) m bs)
      ∙ ap (drop (n - m)) zeros
      ∙ drop-replicate (n - m) (l - m) 0
      )
      ∙ replicate-append-replicate (m - n) (l - m - (n - m)) 0
      ∙ ap (λ k. replicate k 0) (omega arith)

  -- so they are where the first k places of the rest were filled
  pub filled_behind : (back filled : List ℕ) (k : ℕ) → back ≡ drop n bs → k ≡ m - n → filled ≡ replicate (length (take k back)) 0 → filled ++ drop k back ≡ replicate (length bs - n) 0
  filled_behind back filled k rest many is =
      let left : length back ≡ length bs - n = ap (λ ys. length ys) rest ∙ length-drop n bs in
      let some : length (take k back) ≡ k = length-take-le k back (omega arith) in
      ap (λ xs. xs ++ drop k back) (is ∙ ap (λ j. replicate j 0) (some ∙ many))
      ∙ ap (λ j. replicate (m - n) 0 ++ drop j back) many
      ∙ ap (λ ys. replicate (m - n) 0 ++ drop (m - n) ys) rest
      ∙ zeros_behind
