-- The update of the clients that were asked for.
use Rattle.std.proofs.Common.{◌≡◌, ℕ, Bool, true, false, List, [], ◌∷◌, ◌++◌, length, map, Ok, Err, Result, if◌then◌else◌, sym, refl, ap, ◌∙◌, arith}
use Rattle.std.proofs.lemmas.List.{length-map}
use Rattle.std.specs.Result.{result_and}
use Rattle.encoding.specs.Fields.{count}
use Rattle.encoding.specs.TwoSinks.{Filled}
use Rattle.encoding.specs.Writing.{shortest, row_out, counted_out}
use Rattle.encoding.specs.declared.sink.BufferTooShort.{BufferTooShort}
use Rattle.message.specs.Writing.{presence_entry_out, presence_out}
use Rattle.awareness.specs.declared.fault.AwarenessFault.TheVariants.{Short}
use Rattle.awareness.specs.declared.fault.PresenceFault.{PresenceFault}
use Rattle.awareness.specs.declared.fault.PresenceFault.TheVariants.{ClientNotFound}
use Rattle.awareness.specs.Calls.{all_ids, all_known, known, listing, listing_of, update_of, has, Written}
use Rattle.awareness.specs.Record.{Record, entry_of}

-- records are written as what they say, one after another
row_as : (rs : List Record) → row_out (λ r. presence_entry_out (entry_of r)) rs ≡ row_out presence_entry_out (map entry_of rs)
row_as [] = refl
row_as (r ∷ rs) = ap (λ l. presence_entry_out (entry_of r) ++ l) (row_as rs)

-- and with their count
pub counted_as : (rs : List Record) → counted_out (λ r. presence_entry_out (entry_of r)) rs ≡ presence_out (map entry_of rs)
counted_as rs = ap (λ n. shortest n ++ row_out (λ r. presence_entry_out (entry_of r)) rs) (sym (length-map rs entry_of)) ∙ ap (λ l. shortest (length (map entry_of rs)) ++ l) (row_as rs)

-- where all are passed, the update is that of the records held of them
pub listing_is : (rows : List Record) (cs : List ℕ) → count (length cs) ≡ Ok tt → all_ids cs ≡ Ok tt → ◌≡◌ {A = Result (Unit {0}) PresenceFault} (if all_known rows cs then Ok tt else Err ClientNotFound) (Ok tt) → listing rows cs ≡ Ok (update_of (λ r. has cs r.client) rows)
listing_is rows cs few ids all = ap (λ r. listing_of (result_and r (all_ids cs)) rows cs) few ∙ ap (λ r. listing_of r rows cs) ids ∙ by (all_known rows cs) all where
  by : (b : Bool) → ◌≡◌ {A = Result (Unit {0}) PresenceFault} (if b then Ok tt else Err ClientNotFound) (Ok tt) → known b rows cs ≡ Ok (update_of (λ r. has cs r.client) rows)
  by true e = refl
  by false e = cc

-- what a filler refused does not fit
pub refused_so : (old bs new : List ℕ) (short : BufferTooShort) → Filled old 0 bs (Err short) new → Written old (Ok bs) (Err Short) new
refused_so old bs new short f = (refl, (let l = f.0 in omega arith), f.1)
