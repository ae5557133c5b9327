-- The lists of clients that an update leaves in the caller's places.
--   put          a list of 64 clients at most, after one came
--   seen_after   the four lists after a client's change
--   lengths_of   how many clients each list has
--   over         clients over the places that were there
--   enough       each list has 64 places
--   Listed       the four lists, filled, and the same lists
use Rattle.std.specs.Prelude.{◌≡◌, ℕ, Bool, cond, ◌&&◌, List, ◌++◌, drop, length, nat_le}
use Rattle.state_vector.specs.Tables.{updated}
use Rattle.awareness.specs.declared.change.Change.{Change}
use Rattle.awareness.specs.declared.summary.Seen.{Seen}
use Rattle.awareness.specs.declared.summary.ChangeLists.{ChangeLists}
use Rattle.awareness.specs.declared.summary.AwarenessUpdateSummary.{AwarenessUpdateSummary}
use Rattle.awareness.specs.Changes.{is_added, is_updated, is_changed, is_removed, listed}

-- a list of 64 clients at most, after a client came where it is picked
abbrev pub put : Bool → ℕ → List ℕ → List ℕ
put picked c cs = cond picked (updated (λ n. n) 64 cs c) cs

-- the four lists after a client's change
abbrev pub seen_after : Seen → ℕ → Change → Seen
seen_after s c x = record { added = put (is_added x) c s.added; updated = put (is_updated x) c s.updated; changed = put (is_changed x) c s.changed; removed = put (is_removed x) c s.removed }

-- how many clients each list of changes has
abbrev pub lengths_of : List (ℕ × Change) → AwarenessUpdateSummary
lengths_of xs = record { added = length (listed is_added xs); updated = length (listed is_updated xs); changed = length (listed is_changed xs); removed = length (listed is_removed xs) }

-- clients over the places that were there; the others are as they were
abbrev pub over : List ℕ → List ℕ → List ℕ
over cs places = cs ++ drop (length cs) places

-- each list has 64 places
abbrev pub enough : ChangeLists → Bool
enough l = nat_le 64 (length l.added.now) && (nat_le 64 (length l.updated.now) && (nat_le 64 (length l.changed.now) && nat_le 64 (length l.removed.now)))

-- the four lists hold the changes, in the caller's places
pub record Listed (xs : List (ℕ × Change)) (old new : ChangeLists) : Type 0 where
  pub added : new.added.now ≡ over (listed is_added xs) old.added.now
  pub updated : new.updated.now ≡ over (listed is_updated xs) old.updated.now
  pub changed : new.changed.now ≡ over (listed is_changed xs) old.changed.now
  pub removed : new.removed.now ≡ over (listed is_removed xs) old.removed.now
  -- and are as many as before
  pub added_long : length new.added.now ≡ length old.added.now
  pub updated_long : length new.updated.now ≡ length old.updated.now
  pub changed_long : length new.changed.now ≡ length old.changed.now
  pub removed_long : length new.removed.now ≡ length old.removed.now
  -- the places are the same ones
  pub added_is : new.added.ghost_name ≡ old.added.ghost_name
  pub updated_is : new.updated.ghost_name ≡ old.updated.ghost_name
  pub changed_is : new.changed.ghost_name ≡ old.changed.ghost_name
  pub removed_is : new.removed.ghost_name ≡ old.removed.ghost_name
