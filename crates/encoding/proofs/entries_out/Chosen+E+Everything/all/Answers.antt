use Rattle.std.proofs.Common.{◌∙◌}
use Rattle.encoding.proofs.Chosen.{kept_all}
use Rattle.encoding.proofs.entries_out.Chosen+E+Everything.all.Goals as goal

pub returns : goal.returns
returns g c = c.by.ensures ∙ kept_all c.args.entries.now
