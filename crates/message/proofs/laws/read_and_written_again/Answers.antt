use Rattle.message.proofs.Again.{read_and_written_again}
use Rattle.message.proofs.laws.read_and_written_again.Goals as goal

pub returns : goal.returns
returns c = read_and_written_again
