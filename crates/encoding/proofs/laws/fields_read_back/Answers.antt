use Rattle.encoding.proofs.Backs.{fields_read_back}
use Rattle.encoding.proofs.laws.fields_read_back.Goals as goal

pub returns : goal.returns
returns c = fields_read_back
