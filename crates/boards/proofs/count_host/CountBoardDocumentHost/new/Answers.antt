use Rattle.std.proofs.Common.{ap}
use Rattle.boards.specs.CountBoard.{board}
use Rattle.boards.proofs.count_host.CountBoardDocumentHost.new.Goals as goal

pub returns : goal.returns
returns c = ap board c.empty.ensures
