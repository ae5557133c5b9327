-- The caller's memory, and what lies there.
--   ProductHub   what a hub that ships is, as clauses see it
--   hub_row      its type, as the logic has it;   hub_size, the bytes that it takes
--   owned        what a place owns at its pointer: a hub, or room for one, or nothing
use Rattle.std.specs.Prelude.{ℕ, Bool, true, false}
use Rattle.std.specs.Borrow.{Fml, RattleType, full_share, ftrue}
use Rattle.std.specs.Mem.{type_size}
use Rattle.std.specs.Ptr.{Ptr, lies_at, room_at}
use Rattle.awareness.specs.declared.clock.SetClock.{SetClock}
use Rattle.awareness.specs.contracts.clock.SetClock.{the_row as clock_row}
use Rattle.boards.specs.declared.count_board.CountBoard.{CountBoard}
use Rattle.boards.specs.contracts.count_board.CountBoard.{the_row as board_row}
use Rattle.calls.specs.declared.policy.TagRanges.{TagRanges}
use Rattle.calls.specs.contracts.policy.TagRanges.{the_row as policy_row}
use Rattle.document.specs.declared.tally.Tally.{Tally}
use Rattle.document.specs.contracts.tally.Tally.{the_row as tally_row}
use Rattle.hub.specs.declared.hub.Hub.{Hub}
use Rattle.hub.specs.contracts.hub.Hub.{the_row}

-- a hub that ships
abbrev pub ProductHub : Type 0
ProductHub = Hub (Tally CountBoard) SetClock TagRanges

-- its type
abbrev pub hub_row : RattleType
hub_row = the_row (tally_row board_row) clock_row policy_row

-- how many bytes it takes
abbrev pub hub_size : ℕ
hub_size = type_size hub_row

-- a hub, where one was made; room for one, where there is some; or nothing
abbrev pub owned : Ptr → Bool → Bool → ProductHub → Fml
owned p room true h = lies_at hub_row full_share p h
owned p true false h = room_at hub_row p
owned p false false h = ftrue
