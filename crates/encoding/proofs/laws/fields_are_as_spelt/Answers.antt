use Rattle.encoding.proofs.Exacts.{fields_are_as_spelt}
use Rattle.encoding.proofs.laws.fields_are_as_spelt.Goals as goal

pub returns : goal.returns
returns c = fields_are_as_spelt
