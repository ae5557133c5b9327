use Rattle.std.proofs.Common.{sym, ap, ◌∙◌, arith}
use Rattle.encoding.specs.Entries.{entries, past_of}
use Rattle.message.specs.Presence.{presence_entry}
use Rattle.message.proofs.Arrivals.{length_listed, read_past}
use Rattle.message.proofs.arrived.ArrivedUpdate.read.Goals as goal

pub returns-clause-few : goal.returns-clause-few
returns-clause-few c =
    let read = (read_past c.in_ok-skip_entries.field-0 (entries presence_entry c.in_ok-count.count c.in_ok-count.bytes.now) (sym (ap past_of c.in_ok-skip_entries.was) ∙ c.skip_entries.ensures)).0 in
    omega (arith, length_listed presence_entry c.in_ok-count.count c.in_ok-count.bytes.now read, c.in_ok-count.ensures.few)
