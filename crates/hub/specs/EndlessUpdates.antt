-- A kind of document whose every update is longer than any slice, for a test.
--   zeros             so many bytes
--   endless_updates   the kind: one document, and whatever bytes come are read as it
--   endless_lawful    its laws
use Rattle.std.proofs.Common.{◌≡◌, ℕ, ◌^◌, List, [], length, replicate, Ok, refl, arith}
use Rattle.std.proofs.lemmas.List.{length-replicate}
use Rattle.document.specs.Kind.{Kind, Lawful}

-- so many bytes
pub zeros : ℕ → List ℕ
zeros n = replicate n 0

pub zeros_long : (n : ℕ) → length (zeros n) ≡ n
unfolding zeros
zeros_long n = length-replicate n 0

-- more bytes than a slice has places
pub endless_long : length (zeros (2 ^ 63)) ≡ 2 ^ 63
endless_long = zeros_long (2 ^ 63)

-- the kind
abbrev pub endless_updates : Kind
endless_updates = record {
  Document = Unit {0};
  empty = tt;
  join = λ x y. tt;
  size = λ d. 0;
  vector = λ d. [];
  reading = λ bs. Ok tt;
  update = λ d v. zeros (2 ^ 63);
}

one : (x : Unit {0}) → tt ≡ x
one tt = refl

pub endless_lawful : Lawful endless_updates 0
endless_lawful = record {
  associative = λ x y z. refl;
  commutative = λ x y. refl;
  idempotent = one;
  neutral = one;
  nothing_in_empty = refl;
  brings = λ d e l. record { brought = tt; readable = refl; enough = refl };
  writable = λ d l. record { few = omega arith; ascending = refl; ids = refl; clocks = refl };
}
