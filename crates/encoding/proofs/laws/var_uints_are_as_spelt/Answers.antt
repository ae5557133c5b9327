use Rattle.encoding.proofs.Spellings.{var_uints_are_as_spelt}
use Rattle.encoding.proofs.laws.var_uints_are_as_spelt.Goals as goal

pub returns : goal.returns
returns c = var_uints_are_as_spelt
