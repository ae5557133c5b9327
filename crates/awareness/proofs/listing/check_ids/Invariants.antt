use Rattle.std.proofs.Common.{◌≡◌, drop}
use Rattle.awareness.specs.Calls.{all_ids}
use Rattle.awareness.proofs.listing.check_ids.Given as goal

-- all ids are judged as those from here on
abbrev pub invariant-loop-client : goal.invariant-loop-client
invariant-loop-client l = all_ids l.clients ≡ all_ids (drop l.client-index l.clients)
