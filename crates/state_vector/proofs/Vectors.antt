-- A vector's entries, read one after another into a table.
use Rattle.std.proofs.Common.{◌≡◌, ℕ, ◌^◌, ◌<◌, true, List, [], ◌∷◌, length, Ok, Err, refl, ap, ◌∙◌}
use Rattle.std.proofs.lemmas.Bool.{cond-true, lt-ltb}
use Rattle.encoding.specs.Reading.{Reading, named}
use Rattle.state_vector.specs.declared.vector.VectorEntry.{VectorEntry}
use Rattle.state_vector.specs.Tables.{all_below, always, entered, updated}
use Rattle.state_vector.specs.Vector.{client_of, clock_in, tabled, tabled_after, taken, VectorsHoldTheLast}
use Rattle.state_vector.proofs.Offering.{with_room}
use Rattle.state_vector.proofs.Rows.{updates_keep}
use Rattle.state_vector.proofs.Sizes.{below_brought}

-- the clock of an entry
abbrev pub clock_is : VectorEntry → ℕ
clock_is e = e.clock

-- an entry that was read comes in before the others
pub tabled_first : (xs : List VectorEntry) (e : VectorEntry) (r : Reading (List VectorEntry)) → tabled_after xs (named (λ es. e ∷ es) r) ≡ tabled_after (entered client_of always xs e) r
tabled_first xs e (Ok p) = refl
tabled_first xs e (Err f) = refl

-- with a place left, a vector takes an entry whose client id can be written
module _ (xs : List VectorEntry) (e : VectorEntry) (known : e.client < 2 ^ 53) (room : length xs < 64) where
  pub taken_known : taken xs e ≡ entered client_of always xs e
  taken_known = cond-true _ (updated client_of 64 xs e) xs (lt-ltb e.client (2 ^ 53) known) ∙ with_room client_of always 64 xs e room

-- entries with ids that can be written and clocks of 32 bits are still so when another such comes in
abbrev Writable : List VectorEntry → Type 0
Writable xs = (all_below client_of (2 ^ 53) xs ≡ true) × (all_below clock_is (2 ^ 32) xs ≡ true)

pub writable_put : (xs ys : List VectorEntry) (e : VectorEntry) → e.client < 2 ^ 53 → e.clock < 2 ^ 32 → ys ≡ updated client_of 64 xs e → Writable xs → Writable ys
writable_put xs ys e known low is w = (
  ap (all_below client_of (2 ^ 53)) is ∙ below_brought client_of always client_of (2 ^ 53) 64 xs e known w.0,
  ap (all_below clock_is (2 ^ 32)) is ∙ below_brought client_of always clock_is (2 ^ 32) 64 xs e low w.1,
)

pub hold_the_last : VectorsHoldTheLast
hold_the_last = record {
  last_is_held = λ s rest es is. (
    tabled es,
    ap (tabled_after []) is,
    (updates_keep client_of).ascending es,
    λ c. ap clock_in ((updates_keep client_of).latest_is_held es c),
  );
  fault_is_theirs = λ s f is. ap (tabled_after []) is;
}
