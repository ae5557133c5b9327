use Rattle.std.proofs.Common.{length, sym, ap, ◌∙◌}
use Rattle.message.specs.Presence.{presence_entry}
use Rattle.message.proofs.Arrivals.{length_listed}
use Rattle.message.proofs.arrived.ArrivedUpdate.len.Goals as goal

pub returns-clause-count : goal.returns-clause-count
returns-clause-count c = sym (length_listed presence_entry c.self.inside.count c.self.inside.bytes.now c.self.invariant.0) ∙ ap length c.self.view_is
