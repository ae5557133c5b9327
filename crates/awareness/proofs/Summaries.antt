-- The lists that an observer keeps are those of the changes that it was told.
use Rattle.std.proofs.Common.{◌≡◌, ℕ, ◌+◌, ◌≤◌, Bool, true, false, cond, List, [], ◌∷◌, map, filter, length, Ok, Err, Result, sym, refl, ap, ◌∙◌, arith}
use Rattle.std.proofs.lemmas.Bool.{cond-false}
use Rattle.encoding.specs.Reading.{Reading}
use Rattle.message.specs.Arrived.{alone}
use Rattle.awareness.specs.declared.fault.PresenceFault.{PresenceFault}
use Rattle.awareness.specs.Calls.{Settled, apply, applied, judged, settled_at}
use Rattle.state_vector.specs.Tables.{always, entered, full, row, updated}
use Rattle.state_vector.proofs.Entering.{length_entered}
use Rattle.message.specs.Presence.{Entry}
use Rattle.awareness.specs.declared.change.Change.{Change}
use Rattle.awareness.specs.declared.summary.Seen.{Seen}
use Rattle.awareness.specs.Changes.{changes, is_added, is_updated, is_changed, is_removed, listed, noted}
use Rattle.awareness.specs.Record.{Record}
use Rattle.awareness.specs.Summaries.{put, seen_after}
use Rattle.awareness.specs.Taking.{received, taken}
use Rattle.awareness.proofs.Entered.{has_place}

abbrev id : ℕ → ℕ
id c = c

-- one list, told of changes one after another
abbrev fold : (Change → Bool) → List ℕ → List (ℕ × Change) → List ℕ
fold picks cs [] = cs
fold picks cs (x ∷ xs) = fold picks (put (picks x.1) x.0 cs) xs

-- with a place for each, no client is turned away
picked : (picks : Change → Bool) (cs : List ℕ) (xs : List (ℕ × Change)) → length cs + length xs ≤ 64 → fold picks cs xs ≡ row id always cs (map (λ x. x.0) (filter (λ x. picks x.1) xs))
picked picks cs [] l = refl
picked picks cs (x ∷ xs) l = by (picks x.1) refl (λ ds m. picked picks ds xs m) where
  by : (b : Bool) → picks x.1 ≡ b → ((ds : List ℕ) → length ds + length xs ≤ 64 → fold picks ds xs ≡ row id always ds (map (λ x. x.0) (filter (λ x. picks x.1) xs))) → fold picks (put (picks x.1) x.0 cs) xs ≡ row id always cs (map (λ x. x.0) (filter (λ x. picks x.1) (x ∷ xs)))
  by true e others =
      let long = length_entered id always cs x.0 in
      let goes : updated id 64 cs x.0 ≡ entered id always cs x.0 = cond-false (full id 64 cs x.0) cs (entered id always cs x.0) (has_place id always 64 cs x.0 (omega arith)) in
      ap (λ b. fold picks (put b x.0 cs) xs) e ∙ ap (λ l. fold picks l xs) goes ∙ others (entered id always cs x.0) (omega (arith, long))
      ∙ sym (ap (λ b. row id always cs (map (λ x. x.0) (cond b (x ∷ filter (λ x. picks x.1) xs) (filter (λ x. picks x.1) xs)))) e)
  by false e others =
      ap (λ b. fold picks (put b x.0 cs) xs) e ∙ others cs (omega arith)
      ∙ sym (ap (λ b. row id always cs (map (λ x. x.0) (cond b (x ∷ filter (λ x. picks x.1) xs) (filter (λ x. picks x.1) xs)))) e)

four : (s : Seen) (xs : List (ℕ × Change)) → noted seen_after s xs ≡ record { added = fold is_added s.added xs; updated = fold is_updated s.updated xs; changed = fold is_changed s.changed xs; removed = fold is_removed s.removed xs }
four s [] = refl
four s (x ∷ xs) = four (seen_after s x.0 x.1) xs

-- as many changes are told as there are entries
pub length_changes : (own now : ℕ) (rows : List Record) (es : List Entry) → length (changes own now rows es) ≡ length es
length_changes own now rows [] = refl
length_changes own now rows (e ∷ es) = let h = length_changes own now (received own now rows e) es in omega (arith, h)

-- the four lists of so many changes as there are places
pub seen_lists : (s t : Seen) (xs : List (ℕ × Change)) → s ≡ record { added = []; updated = []; changed = []; removed = [] } → t ≡ noted seen_after s xs → length xs ≤ 64 → t ≡ record { added = listed is_added xs; updated = listed is_updated xs; changed = listed is_changed xs; removed = listed is_removed xs }
seen_lists s t xs none is l =
    let start : Seen = record { added = []; updated = []; changed = []; removed = [] } in
    let a = picked is_added [] xs (omega (arith, l)) in
    let u = picked is_updated [] xs (omega (arith, l)) in
    let c = picked is_changed [] xs (omega (arith, l)) in
    let r = picked is_removed [] xs (omega (arith, l)) in
    is ∙ ap (λ s. noted seen_after s xs) none ∙ four start xs
    ∙ ap (λ l. record { added = l; updated = fold is_updated [] xs; changed = fold is_changed [] xs; removed = fold is_removed [] xs }) a
    ∙ ap (λ l. record { added = listed is_added xs; updated = l; changed = fold is_changed [] xs; removed = fold is_removed [] xs }) u
    ∙ ap (λ l. record { added = listed is_added xs; updated = listed is_updated xs; changed = l; removed = fold is_removed [] xs }) c
    ∙ ap (λ l. record { added = listed is_added xs; updated = listed is_updated xs; changed = listed is_changed xs; removed = l }) r

-- an update of 64 entries at most has no more changes
few_changes : (own now : ℕ) (rows : List Record) (v : Reading (List Entry)) → ((es : List Entry) → alone v ≡ Ok es → length es ≤ 64) → length (applied own now rows v).changes ≤ 64
few_changes own now rows (Ok p) few = by (judged own (taken own now rows p.0)) where
  by : (r : Result (Unit {0}) PresenceFault) → length (settled_at r rows (taken own now rows p.0) (changes own now rows p.0)).changes ≤ 64
  by (Ok u) = omega (arith, length_changes own now rows p.0, few p.0 refl)
  by (Err f) = omega arith
few_changes own now rows (Err f) few = omega arith

-- what an update that was taken whole is told as
pub record Told (fits : Bool) (own now : ℕ) (rows : List Record) (v : Reading (List Entry)) (t : Seen) : Type 0 where
  pub answer : (apply fits own now rows v).answer ≡ Ok tt
  pub added : t.added ≡ listed is_added (apply fits own now rows v).changes
  pub updated : t.updated ≡ listed is_updated (apply fits own now rows v).changes
  pub changed : t.changed ≡ listed is_changed (apply fits own now rows v).changes
  pub removed : t.removed ≡ listed is_removed (apply fits own now rows v).changes

pub told_so : (fits : Bool) (own now : ℕ) (rows : List Record) (v : Reading (List Entry)) (u : Unit {0}) (s t : Seen) → fits ≡ true → (applied own now rows v).answer ≡ Ok u → ((es : List Entry) → alone v ≡ Ok es → length es ≤ 64)
    → s ≡ record { added = []; updated = []; changed = []; removed = [] } → t ≡ noted seen_after s (applied own now rows v).changes → Told fits own now rows v t
told_so fits own now rows v u s t f a few none told =
    let is : apply fits own now rows v ≡ applied own now rows v = ap (λ b. apply b own now rows v) f in
    let lists = seen_lists s t (applied own now rows v).changes none told (few_changes own now rows v few) in
    record {
      answer = ap (λ (x : Settled). x.answer) is ∙ a;
      added = ap (λ (x : Seen). x.added) lists ∙ sym (ap (λ (x : Settled). listed is_added x.changes) is);
      updated = ap (λ (x : Seen). x.updated) lists ∙ sym (ap (λ (x : Settled). listed is_updated x.changes) is);
      changed = ap (λ (x : Seen). x.changed) lists ∙ sym (ap (λ (x : Settled). listed is_changed x.changes) is);
      removed = ap (λ (x : Seen). x.removed) lists ∙ sym (ap (λ (x : Settled). listed is_removed x.changes) is);
    }
