use Rattle.std.proofs.Common.{◌≡◌, true, take, is_ok}
use Rattle.encoding.specs.Entries.{entries}
use Rattle.joined_tables.specs.Joined.{gathered}
use Rattle.joined_tables.specs.Whole.{wholly}
use Rattle.boards.specs.CountBoard.{client_of, outranks, keepable, count_in, board}
use Rattle.boards.proofs.count_board.CountBoard.join.Given as goal

-- the counts that are due can be read, and bring the board to where all of them bring it
abbrev pub invariant-loop-e : goal.invariant-loop-e
invariant-loop-e l =
    let due = wholly (entries count_in l.e-iterator.left l.e-iterator.rest.now) in
    record {
      readable : is_ok due ≡ true;
      same : gathered client_of outranks keepable (board (take l.self.len l.self.counts)) due ≡ gathered client_of outranks keepable (board (take l.initial.self.len l.initial.self.counts)) (wholly (entries count_in l.update.left l.update.rest.now));
    }
