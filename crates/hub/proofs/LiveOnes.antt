-- All live records as a presence update.
use Rattle.std.proofs.Common.{◌≡◌, ℕ, ◌≤◌, true, ltb, ◌&&◌, List, [], ◌∷◌, ◌++◌, map, filter, length, sym, refl, ap, ◌∙◌, arith}
use Rattle.std.specs.List.{All}
use Rattle.std.proofs.lemmas.List.{length-map}
use Rattle.std.proofs.lemmas.List.Elements.{All-filter, All-map}
use Rattle.encoding.specs.Writing.{counted_out, row_out, shortest}
use Rattle.state_vector.specs.Tables.{all_above, ascends}
use Rattle.state_vector.proofs.Kept.{ascends_kept, few_kept}
use Rattle.message.specs.Presence.{Entry}
use Rattle.message.specs.Writing.{Readable, presence_entry_out, presence_out}
use Rattle.awareness.specs.Record.{Record, client_of, entry_of, live, Writable}

abbrev client : Entry → ℕ
client e = e.client

above_map : (n : ℕ) (rows : List Record) → all_above client n (map entry_of rows) ≡ all_above client_of n rows
above_map n [] = refl
above_map n (r ∷ rows) = ap (λ b. ltb n r.client && b) (above_map n rows)

ascends_map : (rows : List Record) → ascends client (map entry_of rows) ≡ ascends client_of rows
ascends_map [] = refl
ascends_map (r ∷ rows) = ap (λ b. b && ascends client (map entry_of rows)) (above_map r.client rows) ∙ ap (λ b. all_above client_of r.client rows && b) (ascends_map rows)

-- what is live among records that ascend and can be written can be written
pub live_sound : (rows : List Record) → length rows ≤ 64 → ascends client_of rows ≡ true → All Writable rows → (length (map entry_of (filter live rows)) ≤ 64) × (ascends client (map entry_of (filter live rows)) ≡ true) × All Readable (map entry_of (filter live rows))
live_sound rows l up w =
    let few = few_kept client_of live rows in (
      omega (arith, length-map (filter live rows) entry_of, few, l),
      ascends_map (filter live rows) ∙ ascends_kept client_of live rows up,
      All-map Readable entry_of (filter live rows) (All-filter live Writable rows w),
    )

rows_out : (rows : List Record) → row_out (λ r. presence_entry_out (entry_of r)) rows ≡ row_out presence_entry_out (map entry_of rows)
rows_out [] = refl
rows_out (r ∷ rows) = ap (λ bs. presence_entry_out (entry_of r) ++ bs) (rows_out rows)

-- records are written as what they say
pub records_out : (rows : List Record) → counted_out (λ r. presence_entry_out (entry_of r)) rows ≡ presence_out (map entry_of rows)
records_out rows = ap (λ n. shortest n ++ row_out (λ r. presence_entry_out (entry_of r)) rows) (sym (length-map rows entry_of)) ∙ ap (λ bs. shortest (length (map entry_of rows)) ++ bs) (rows_out rows)
