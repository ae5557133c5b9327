use Rattle.std.proofs.Common.{ap}
use Rattle.boards.specs.SlotBoard.{board}
use Rattle.boards.proofs.slot_host.SlotBoardDocumentHost.new.Goals as goal

pub returns : goal.returns
returns c = ap board c.empty.ensures
