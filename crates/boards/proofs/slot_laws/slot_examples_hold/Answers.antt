use Rattle.boards.proofs.SlotExamples.{slot_examples}
use Rattle.boards.proofs.slot_laws.slot_examples_hold.Goals as goal

pub returns : goal.returns
returns c = slot_examples
