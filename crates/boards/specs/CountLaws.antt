-- What is promised of count boards' updates, and examples.
--   CountUpdatesAreAsSpelt   updates are read exactly as they are spelt, and what is written spells what it was written from
--   CountExamples   what is sent for a vector, and bytes that are no update
use Rattle.std.specs.Prelude.{◌≡◌, ◌≤◌, true, List, [], ◌∷◌, length}
use Rattle.std.specs.List.{list_all}
use Rattle.encoding.specs.Spelling.{Exactly}
use Rattle.encoding.specs.Writing.{counted_out}
use Rattle.document.specs.Taking.{UnreadableWith}
use Rattle.boards.specs.declared.count.Count.{Count}
use Rattle.boards.specs.CountBoard.{keepable, count_out, board, counts_in, counts, CountsAre}

-- updates in the format's own words
pub record CountUpdatesAreAsSpelt : Type 0 where
  pub reading : Exactly counts_in CountsAre
  pub writing : (es : List Count) → length es ≤ 64 → list_all keepable es ≡ true → CountsAre es (counted_out count_out es)

-- examples
pub record CountExamples : Type 0 where
  -- counts 5:301 and 9:2, for whoever knows client 5 up to 300
  pub sends : counts.update (board (record { client = 5; count = 301 } ∷ record { client = 9; count = 2 } ∷ [])) (record { client = 5; clock = 300 } ∷ []) ≡ 2 ∷ 5 ∷ 173 ∷ 2 ∷ 9 ∷ 2 ∷ []
  -- a count of 2^32
  pub a_number_past_its_width : UnreadableWith counts 1 (1 ∷ 5 ∷ 255 ∷ 255 ∷ 255 ∷ 255 ∷ 16 ∷ [])
  -- the count is not there
  pub cut : UnreadableWith counts 2 (1 ∷ 5 ∷ [])
  -- a byte after the last entry
  pub left_over : UnreadableWith counts 3 (1 ∷ 5 ∷ 3 ∷ 0 ∷ [])
  -- client 2^53
  pub large_client : UnreadableWith counts 4 (1 ∷ 128 ∷ 128 ∷ 128 ∷ 128 ∷ 128 ∷ 128 ∷ 128 ∷ 16 ∷ 1 ∷ [])
  -- 65 entries are declared
  pub many_entries : UnreadableWith counts 5 (65 ∷ [])
