use Rattle.std.proofs.Common.{◌≡◌, true, List, length, ◌≤◌, subst, map, filter}
use Rattle.std.specs.List.{All}
use Rattle.state_vector.specs.Tables.{ascends}
use Rattle.message.specs.Writing.{Readable}
use Rattle.awareness.specs.Record.{Record, entry_of, live}
use Rattle.hub.proofs.LiveOnes.{live_sound}
use Rattle.hub.proofs.live.LiveRecordsOutgoing.check.Goals as goal

pub returns-clause-sound : goal.returns-clause-sound
returns-clause-sound c =
    subst (λ (rows : List Record). (length (map entry_of (filter live rows)) ≤ 64) × (ascends (λ e. e.client) (map entry_of (filter live rows)) ≡ true) × All Readable (map entry_of (filter live rows))) c.records-passed.ensures.all
    (live_sound c.records-passed.result.now c.records-passed.ensures.few c.records-passed.ensures.ascends c.records-passed.ensures.writable)
