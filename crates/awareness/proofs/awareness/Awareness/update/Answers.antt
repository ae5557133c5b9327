use Rattle.std.proofs.Common.{subst, filter, ap, ◌∙◌}
use Rattle.encoding.specs.TwoSinks.{Filled}
use Rattle.encoding.specs.Writing.{counted_out}
use Rattle.message.specs.Writing.{presence_entry_out}
use Rattle.awareness.specs.Record.{entry_of, live}
use Rattle.awareness.proofs.Asked.{counted_as}
use Rattle.awareness.proofs.awareness.Awareness.update.Goals as goal

pub returns : goal.returns
returns c = subst (λ bs. Filled c.args.out.now 0 bs c.fill.result c.fill.new.out) (ap (counted_out (λ r. presence_entry_out (entry_of r))) c.live.ensures ∙ counted_as (filter live c.args.self.now.rows)) c.fill.ensures
