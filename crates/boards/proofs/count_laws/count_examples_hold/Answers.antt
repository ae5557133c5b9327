use Rattle.boards.proofs.CountExamples.{count_examples}
use Rattle.boards.proofs.count_laws.count_examples_hold.Goals as goal

pub returns : goal.returns
returns c = count_examples
