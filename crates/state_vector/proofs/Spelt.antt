-- Vectors as they are spelt, beside vectors as they are read.
use Rattle.std.proofs.Common.{◌≡◌, ℕ, ◌-◌, ◌^◌, List, refl, subst}
use Rattle.encoding.specs.Fields.{client_id_in}
use Rattle.encoding.specs.Reading.{named}
use Rattle.encoding.specs.Spelling.{Exactly, NumberIs, ClientIs}
use Rattle.encoding.specs.VarUint.{var_uint}
use Rattle.encoding.proofs.Exacts.{Then, exact_thence, exact_named, exact_as, exact_number, exact_client_id, exact_counted}
use Rattle.state_vector.specs.declared.vector.VectorEntry.{VectorEntry}
use Rattle.state_vector.specs.Spelling.{VectorEntryIs, VectorIs}
use Rattle.state_vector.specs.Vector.{vector_entry, vector_entries}

abbrev made : ℕ → ℕ → VectorEntry
made id n = record { client = id; clock = n }

pub exact_vector_entry : Exactly vector_entry VectorEntryIs
exact_vector_entry = exact_as (exact_thence client_id_in (λ id s. named (made id) (var_uint (2 ^ 32 - 1) s)) exact_client_id (λ id. exact_named (made id) (var_uint (2 ^ 32 - 1)) (exact_number (2 ^ 32 - 1)))) there back
  where
    there : (e : VectorEntry) (bs : List ℕ) → Then ClientIs (λ id y b. (n : ℕ) × (made id n ≡ y) × NumberIs (2 ^ 32 - 1) n b) e bs → VectorEntryIs e bs
    there e bs (id, a, b, i, h, (n, q, k)) = subst (λ x. VectorEntryIs x bs) q (a, b, i, h, k)

    back : (e : VectorEntry) (bs : List ℕ) → VectorEntryIs e bs → Then ClientIs (λ id y b. (n : ℕ) × (made id n ≡ y) × NumberIs (2 ^ 32 - 1) n b) e bs
    back e bs (a, b, i, h, k) = (e.client, a, b, i, h, (e.clock, refl, k))

pub exact_vector : Exactly vector_entries VectorIs
exact_vector = exact_counted 32 vector_entry VectorEntryIs exact_vector_entry
