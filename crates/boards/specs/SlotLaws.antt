-- What is promised of slot boards' updates, and examples.
--   SlotUpdatesAreAsSpelt   updates are read exactly as they are spelt, and what is written spells what it was written from
--   SlotExamples   what is sent for a vector, and bytes that are no update
use Rattle.std.specs.Prelude.{◌≡◌, ◌≤◌, true, List, [], ◌∷◌, length, replicate}
use Rattle.std.specs.List.{list_all}
use Rattle.encoding.specs.Spelling.{Exactly}
use Rattle.encoding.specs.Writing.{counted_out}
use Rattle.document.specs.Taking.{UnreadableWith}
use Rattle.boards.specs.SlotBoard.{Plain, keepable, slot_out, board, slots_in, slots, SlotsAre}

-- updates in the format's own words
pub record SlotUpdatesAreAsSpelt : Type 0 where
  pub reading : Exactly slots_in SlotsAre
  pub writing : (es : List Plain) → length es ≤ 64 → list_all keepable es ≡ true → SlotsAre es (counted_out slot_out es)

-- examples
pub record SlotExamples : Type 0 where
  -- slot 5 at clock 2 with the byte 61, for whoever knows client 5 up to 2
  pub sends : slots.update (board (record { client = 5; clock = 2; bytes = 97 ∷ [] } ∷ [])) (record { client = 5; clock = 2 } ∷ []) ≡ 1 ∷ 5 ∷ 2 ∷ 1 ∷ 97 ∷ []
  -- a clock of 2^32
  pub a_number_past_its_width : UnreadableWith slots 1 (1 ∷ 5 ∷ 255 ∷ 255 ∷ 255 ∷ 255 ∷ 16 ∷ [])
  -- the byte of the slot is not there
  pub cut : UnreadableWith slots 2 (1 ∷ 5 ∷ 3 ∷ 1 ∷ [])
  -- a byte after the last entry
  pub left_over : UnreadableWith slots 3 (1 ∷ 5 ∷ 3 ∷ 0 ∷ 0 ∷ [])
  -- a clock of 0, told before what is missing after it
  pub clock_0 : UnreadableWith slots 3 (1 ∷ 5 ∷ 0 ∷ [])
  -- client 2^53
  pub large_client : UnreadableWith slots 4 (1 ∷ 128 ∷ 128 ∷ 128 ∷ 128 ∷ 128 ∷ 128 ∷ 128 ∷ 16 ∷ 1 ∷ 0 ∷ [])
  -- 65 entries are declared
  pub many_entries : UnreadableWith slots 5 (65 ∷ [])
  -- 33 bytes
  pub long_slot : UnreadableWith slots 6 (1 ∷ 5 ∷ 3 ∷ 33 ∷ replicate 33 0)
