-- Each call: what it is answered, how many readings it takes, and what it leaves.
use Rattle.std.proofs.Common.{◌≡◌, ℕ, ◌+◌, ◌-◌, Bool, true, false, cond, ◌&&◌, eqb, List, [], ◌∷◌, ◌++◌, map, filter, length, Contains, is_ok, is_none, is_some, Some, None, Ok, Err, Option, Result, Decides, ◌↔◌, sym, refl, ap, ◌∙◌, subst, ⊎_elim, append-nil, arith}
use Rattle.std.specs.Result.{result_and}
use Rattle.std.proofs.lemmas.Bool.{and_from, false≢true, or_left, or_right, or_cases, eq-eqb, eqb-true}
use Rattle.encoding.specs.declared.fault.WireFault.{WireFault}
use Rattle.encoding.specs.Fields.{client_id, presence_text}
use Rattle.encoding.specs.Reading.{Reading}
use Rattle.encoding.specs.Writing.{Row}
use Rattle.state_vector.specs.Tables.{ascends}
use Rattle.message.specs.Arrived.{listed as entries_listed}
use Rattle.message.specs.Message.{Said}
use Rattle.message.specs.Messages.{messages}
use Rattle.message.specs.Presence.{Entry, presence, state_of}
use Rattle.message.specs.Writing.{step1 as told_step1, presence_out, message_out}
use Rattle.awareness.specs.declared.change.Change.{Change}
use Rattle.awareness.specs.declared.fault.AwarenessFault.{AwarenessFault}
use Rattle.awareness.specs.declared.fault.AwarenessFault.TheVariants.{Wire as AwarenessWire, Short}
use Rattle.awareness.specs.declared.fault.PresenceFault.{PresenceFault}
use Rattle.awareness.specs.Calls.{Settled, settled_at, judged as judged_records, apply as applied_to, set_judged, remove_judged, all_ids, all_known, has, known, listing_of, listing}
use Rattle.awareness.specs.Changes.{changes, is_added, is_updated, is_changed, is_removed, listed}
use Rattle.awareness.specs.Newest.{Adds, Updates, Alters, Removes}
use Rattle.awareness.specs.Newest.{Did as DidThere}
use Rattle.awareness.specs.Record.{Record, entry_of, held_of, live}
use Rattle.awareness.specs.Taking.{taken, set_to, removed, stored}
use Rattle.awareness.proofs.Lists.{lists_tell_what_was_done, head_or_tail, in_head, in_tail}
use Rattle.document.specs.Kind.{Kind}
use Rattle.calls.specs.declared.fault.Fault.TheVariants.{Presence}
use Rattle.calls.specs.Handling.{Hub, Handling, fits, next_reading, after_reading, handle as handled_by}
use Rattle.law.specs.Words.{Call, handle, apply, set, clean, remove, step1, start, show, list, Answer, handled, applied, done, refused, wrote, both}
use Rattle.law.specs.Model.{lists_of, told_by, showed, Step, settled, looked, vector_bytes, live_bytes, listing_fits, perform}
use Rattle.law.specs.Events.{Event, came, stated, nulled, entries_in, first_of, events_in, accepted, call_events, updates}
use Rattle.law.specs.Shown.{standing, Shows, Holds}
use Rattle.law.specs.Answers.{Judged, Entries, ShowsText, MessageAnswered, Done, said_of, replies_of, Ends, Did, Tells, ListsTell, ApplyAnswered, SetAnswered, RemoveAnswered, WriteAnswered, vector_written, CallAnswered, presences, RemovalTakes, CallTakes}
use Rattle.law.proofs.Alike.{judged_alike, shows_alike, entries_alike, stated_alike, nulled_alike}
use Rattle.law.proofs.Documents.{entries_bring_none, same_document, never_same}
use Rattle.law.proofs.Handles.{after_is, next_first, all_so, dones_are}
use Rattle.law.proofs.Messages.{Kept, text_shown}
use Rattle.law.proofs.Onward.{Sound, sound_all, sound_next, taken_is}
use Rattle.law.proofs.Pins.{does_too, one_standing, none_too}
use Rattle.law.proofs.Readings.{presences_append, one_each, same_events, one_or_none, first_is}
use Rattle.law.proofs.Rooms.{by, judged_is}
use Rattle.law.proofs.Writings.{fits_in, entries_are}

pub said_append : (xs ys : List Done) → said_of (xs ++ ys) ≡ said_of xs ++ said_of ys
said_append [] ys = refl
said_append (x ∷ xs) ys = ap (λ l. x.message ∷ l) (said_append xs ys)

module _ (k : Kind) (limit : ℕ) (accepts : Said → Bool) where
  -- a call was answered so, took so many readings, and left a hub so
  pub record CallSo (own : ℕ) (ds : List Event) (call : Call) (rs : List ℕ) (step : Step k) : Type 0 where
    pub answered : CallAnswered k limit accepts own ds call step.answer rs
    pub takes : CallTakes own ds call step.answer (length rs)
    pub kept : Kept k limit accepts own (ds ++ call_events own call step.answer rs) step.hub

  module _ (own : ℕ) (ds : List Event) (h : Hub k) (was : Kept k limit accepts own ds h) (rs : List ℕ) (l : ℕ) where
    abbrev offered : List ℕ
    offered = rs ++ l ∷ []

    nothing_more : Kept k limit accepts own (ds ++ []) h
    nothing_more = subst (λ x. Kept k limit accepts own x h) (sym (append-nil ds)) was

    -- ---- handle
    module _ (bytes : List ℕ) (room : ℕ) where
      abbrev handling : Handling k limit accepts
      handling = handled_by k limit accepts room offered h bytes

      handles : handling.left ≡ l ∷ [] → CallSo own ds (handle bytes room) rs (record { answer = handled handling.answer handling.replies; hub = handling.hub; left = handling.left })
      handles left =
          let row = all_so k limit accepts own ds h was room offered bytes in
          let each : length rs ≡ presences (said_of row.dones) = one_each l rs (said_of row.dones) (sym row.left ∙ left) in
          let are = dones_are k limit accepts own ds h was room offered bytes in
          let whole : events_in offered (said_of row.dones) ≡ events_in rs (said_of row.dones) = same_events l rs (said_of row.dones) (omega arith) in
          record {
            answered = (
              handling.answer,
              handling.replies,
              refl,
              record {
                dones = row.dones;
                rest = row.rest;
                all = row.all;
                counted = let c = row.counted in omega arith;
                replies = row.replies;
                long = row.long;
                each = λ before d after is.
                    let parts : presences (said_of row.dones) ≡ presences (said_of before) + presences (said_of (d ∷ after)) = ap (λ xs. presences (said_of xs)) is ∙ ap presences (said_append before (d ∷ after)) ∙ presences_append (said_of before) (said_of (d ∷ after)) in
                    let front : events_in offered (said_of before) ≡ events_in rs (said_of before) = same_events l rs (said_of before) (omega arith) in
                    subst (λ es. MessageAnswered k limit accepts own (ds ++ es) (room - length (replies_of before)) d.message.1 (Ok d.reply)) front (row.each_so before d after is);
                ends = subst (λ es. Ends k limit accepts own (ds ++ es) (room - length (replies_of row.dones)) (length bytes) (messages bytes).end row.rest handling.answer) whole row.ends;
              },
            );
            takes = each ∙ sym (ap presences are);
            kept = subst (λ ms. Kept k limit accepts own (ds ++ events_in rs ms) handling.hub) (sym are) (subst (λ es. Kept k limit accepts own (ds ++ es) handling.hub) whole row.kept);
          }

    -- ---- calls that only look
    calm : (rs ++ l ∷ []) ≡ l ∷ [] → length rs ≡ 0
    calm left = one_or_none l false rs left

    writes : (room : ℕ) (row : Row) → WriteAnswered own ds room row (wrote (fits k room row))
    writes room row = (fits k room row, fits_in k room row, refl)

    vector_is : vector_bytes k h ≡ vector_written k limit accepts own ds
    vector_is = ap (λ d. message_out (told_step1 (k.vector d))) was.document

    live_are : Entries own ds ShowsText (map entry_of (filter live h.rows))
    live_are = entries_are own ds h.rows was.sound (λ e. is_some e.state) ShowsText text_shown

    steps : (room : ℕ) → offered ≡ l ∷ [] → CallSo own ds (step1 room) rs (looked k h offered (wrote (fits k room (vector_bytes k h))))
    steps room left = record {
      answered = subst (λ row. WriteAnswered own ds room row (wrote (fits k room (vector_bytes k h)))) vector_is (writes room (vector_bytes k h));
      takes = calm left;
      kept = nothing_more;
    }

    starts : (room : ℕ) → offered ≡ l ∷ [] → CallSo own ds (start room) rs (looked k h offered (wrote (fits k room (both (vector_bytes k h) (live_bytes k h)))))
    starts room left = record {
      answered = (map entry_of (filter live h.rows), live_are, subst (λ row. WriteAnswered own ds room (both row (live_bytes k h)) (wrote (fits k room (both (vector_bytes k h) (live_bytes k h))))) vector_is (writes room (both (vector_bytes k h) (live_bytes k h))));
      takes = calm left;
      kept = nothing_more;
    }

    shows : (c : ℕ) → offered ≡ l ∷ [] → CallSo own ds (show c) rs (looked k h offered (showed (client_id c) (held_of c h.rows)))
    shows c left = record {
      answered = record {
        unreadable = λ f is. ap (λ v. showed v (held_of c h.rows)) is;
        readable = λ is. (held_of c h.rows, was.sound.holds c, ap (λ v. showed v (held_of c h.rows)) is);
      };
      takes = calm left;
      kept = nothing_more;
    }

    -- which clients are asked for
    has_it : (cs : List ℕ) (n : ℕ) → Decides (has cs n) (Contains cs n)
    has_it [] n = (λ q. absurd (false≢true q), λ z. absurd (omega arith))
    has_it (c ∷ cs) n = (
      λ q. ⊎_elim (λ t. subst (λ m. Contains (c ∷ cs) m) (eqb-true c n t) (in_head c cs)) (λ t. in_tail c cs n ((has_it cs n).0 t)) (or_cases (eqb c n) (has cs n) q),
      λ m. ⊎_elim (λ is. or_left (eqb c n) (has cs n) (eq-eqb c n is)) (λ more. or_right (eqb c n) (has cs n) ((has_it cs n).1 more)) (head_or_tail c cs n m),
    )

    ids_fine : (cs : List ℕ) → ((c : ℕ) → Contains cs c → client_id c ≡ Ok tt) → all_ids cs ≡ Ok tt
    ids_fine [] all = refl
    ids_fine (c ∷ cs) all = ap (λ v. result_and v (all_ids cs)) (all c (in_head c cs)) ∙ ids_fine cs (λ x has. all x (in_tail c cs x has))

    first_wrong : (before : List ℕ) (c : ℕ) (after : List ℕ) (f : WireFault) → ((x : ℕ) → Contains before x → client_id x ≡ Ok tt) → client_id c ≡ Err f → all_ids (before ++ c ∷ after) ≡ Err f
    first_wrong [] c after f fine is = ap (λ v. result_and v (all_ids after)) is
    first_wrong (b ∷ before) c after f fine is = ap (λ v. result_and v (all_ids (before ++ c ∷ after))) (fine b (in_head b before)) ∙ first_wrong before c after f (λ x has. fine x (in_tail b before x has)) is

    known_all : (cs : List ℕ) → ((c : ℕ) → Contains cs c → is_some (held_of c h.rows) ≡ true) → all_known h.rows cs ≡ true
    known_all [] all = refl
    known_all (c ∷ cs) all = and_from _ _ (all c (in_head c cs)) (known_all cs (λ x has. all x (in_tail c cs x has)))

    one_unknown : (cs : List ℕ) (c : ℕ) → Contains cs c → is_some (held_of c h.rows) ≡ false → all_known h.rows cs ≡ false
    one_unknown [] c has no_record = absurd (omega arith)
    one_unknown (x ∷ cs) c has no_record =
        ⊎_elim
        (λ (q : x ≡ c). ap (λ b. b && all_known h.rows cs) (ap (λ y. is_some (held_of y h.rows)) q ∙ no_record))
        (λ (more : Contains cs c). ap (λ b. is_some (held_of x h.rows) && b) (one_unknown cs c more no_record) ∙ fails (is_some (held_of x h.rows)))
        (head_or_tail x cs c has)
      where
        fails : (b : Bool) → (b && false) ≡ false
        fails true = refl
        fails false = refl

    is_held : (c : ℕ) (r : Record) → Holds own ds c (Some r) → is_some (held_of c h.rows) ≡ true
    is_held c r held = by_held (held_of c h.rows) (one_standing own ds c (held_of c h.rows) (Some r) (was.sound.holds c).shows held.shows) where
      by_held : (o : Option Record) → standing o ≡ standing (Some r) → is_some o ≡ true
      by_held None s = cc
      by_held (Some x) s = refl

    not_held : (c : ℕ) → Holds own ds c None → held_of c h.rows ≡ None
    not_held c held = none_too own ds c (held_of c h.rows) held.shows (was.sound.holds c).shows

    module _ (cs : List ℕ) (room : ℕ) where
      abbrev listed_by : Result (Unit {0}) WireFault → Answer
      listed_by v = listing_fits k room (listing_of v h.rows cs)

      lists : offered ≡ l ∷ [] → CallSo own ds (list cs room) rs (looked k h offered (listing_fits k room (listing h.rows cs)))
      lists left = record {
        answered = record {
          too_many = λ f is. ap (λ v. listed_by (result_and v (all_ids cs))) is;
          unreadable = λ few before c after f is fine wrong.
              ap (λ v. listed_by (result_and v (all_ids cs))) few ∙ ap (λ v. listed_by v) (ap all_ids is ∙ first_wrong before c after f fine wrong);
          unknown = λ few fine c has held.
              ap (λ v. listed_by (result_and v (all_ids cs))) few ∙ ap (λ v. listed_by v) (ids_fine cs fine) ∙ ap (λ b. listing_fits k room (known b h.rows cs)) (one_unknown cs c has (ap is_some (not_held c held)));
          known = λ few fine all.
              let es : List Entry = map entry_of (filter (λ r. has cs r.client) h.rows) in
              let answer_is : listing_fits k room (listing h.rows cs) ≡ wrote (fits k room (Ok (presence_out es))) =
              ap (λ v. listed_by (result_and v (all_ids cs))) few ∙ ap (λ v. listed_by v) (ids_fine cs fine) ∙ ap (λ b. listing_fits k room (known b h.rows cs)) (known_all cs (λ c m. let a = all c m in is_held c a.0 a.1)) in
              (es, entries_are own ds h.rows was.sound (λ e. has cs e.client) (λ e. Contains cs e.client) (λ e. has_it cs e.client), (fits k room (Ok (presence_out es)), fits_in k room (Ok (presence_out es)), answer_is));
        };
        takes = calm left;
        kept = nothing_more;
      }

  -- ---- calls that come to records

  -- what a call takes and leaves
  pub record Settling (own : ℕ) (ds told : List Event) (a : Answer) (n most : ℕ) (h : Hub k) : Type 0 where
    pub takes : n ≡ cond (accepted a) most 0
    pub leaves : Kept k limit accepts own (ds ++ cond (accepted a) told []) h

  module _ (ds : List Event) (h : Hub k) (was : Kept k limit accepts h.own ds h) (rs : List ℕ) (l : ℕ) where
    -- the readings that are offered, and the next of them
    abbrev these : List ℕ
    these = rs ++ l ∷ []

    abbrev now : ℕ
    now = next_reading k limit accepts these

    now_is : length rs ≡ 1 → now ≡ first_of rs
    now_is one = next_first k limit accepts these ∙ first_is l rs one

    as_it_was : Kept k limit accepts h.own (ds ++ []) h
    as_it_was = subst (λ x. Kept k limit accepts h.own x h) (sym (append-nil ds)) was

    reads_one : (b : Bool) → after_reading k limit accepts b these ≡ l ∷ [] → length rs ≡ cond b 1 0
    reads_one b left = one_or_none l b rs (sym (after_is k limit accepts b these) ∙ left)

    abbrev with_rows : List Record → Hub k
    with_rows rows = record { own = h.own; rows = rows; document = h.document }

    -- these records, where they can be held, after such events; the clock is read where it is asked
    settles : (then : List Record) (told : List Event) (xs : List (ℕ × Change)) (a : Answer) (asks reads : Bool) (v : Result (Unit {0}) PresenceFault)
        → accepted a ≡ true → reads ≡ (is_ok v && asks) → updates k told ≡ [] → (length rs ≡ cond asks 1 0 → Sound h.own (ds ++ told) then) → after_reading k limit accepts reads these ≡ l ∷ []
        → Settling h.own ds told (told_by (settled_at v h.rows then xs).answer a) (length rs) (cond asks 1 0) (with_rows (settled_at v h.rows then xs).rows)
    settles then told xs a asks reads (Ok u) ok rd quiet sound left =
        let n : length rs ≡ cond asks 1 0 = reads_one reads left ∙ ap (λ b. cond b 1 0) rd in
        record {
          takes = n ∙ sym (ap (λ b. cond b (cond asks 1 0) 0) ok);
          leaves = subst (λ b. Kept k limit accepts h.own (ds ++ cond b told []) (with_rows then)) (sym ok) (record {
            is = refl;
            sound = sound n;
            document = was.document ∙ sym (same_document k ds told quiet);
            never = never_same k limit ds told was.never quiet;
          });
        }
    settles then told xs a asks reads (Err f) ok rd quiet sound left = record { takes = reads_one reads left ∙ ap (λ b. cond b 1 0) rd; leaves = as_it_was }

    -- what is told, by the verdict
    verdict_told : (es : List Event) (then : List Record) (s : Sound h.own (ds ++ es) then) (xs : List (ℕ × Change)) (a : Answer) (v : Result (Unit {0}) PresenceFault)
        → by h.own (ds ++ es) then s (λ f. refused (Presence f)) a v ≡ told_by (settled_at v h.rows then xs).answer a
    verdict_told es then s xs a (Ok u) = refl
    verdict_told es then s xs a (Err f) = refl

    refused_takes : (told : List Event) (f : AwarenessFault) (a : Answer) (asks : Bool) → after_reading k limit accepts false these ≡ l ∷ [] → Settling h.own ds told (told_by (Err f) a) (length rs) (cond asks 1 0) h
    refused_takes told f a asks left = record { takes = reads_one false left; leaves = as_it_was }

    ok_and : (v : Result (Unit {0}) PresenceFault) (then : List Record) (xs : List (ℕ × Change)) (b : Bool) → (is_ok (settled_at v h.rows then xs).answer && b) ≡ (is_ok v && b)
    ok_and (Ok u) then xs b = refl
    ok_and (Err f) then xs b = refl

    ok_is : (v : Result (Unit {0}) PresenceFault) (then : List Record) (xs : List (ℕ × Change)) → is_ok (settled_at v h.rows then xs).answer ≡ (is_ok v && true)
    ok_is (Ok u) then xs = refl
    ok_is (Err f) then xs = refl

    entries_sound : (es : List Entry) → Sound h.own (ds ++ map (came now) es) (taken h.own now h.rows es)
    entries_sound es = subst (Sound h.own (ds ++ map (came now) es)) (taken_is h.own now h.rows es) (sound_all h.own ds (map (came now) es) h.rows was.sound)

    -- ---- set
    module _ (bytes : List ℕ) where
      abbrev record_set : ℕ → Record
      record_set n = set_to h.own n (state_of bytes) (held_of h.own h.rows)

      set_sound : (n : ℕ) → Sound h.own (ds ++ stated n (state_of bytes) ∷ []) (stored h.rows (record_set n))
      set_sound n = sound_next h.own ds h.rows was.sound (stated n (state_of bytes))

      abbrev set_step : Result (Unit {0}) WireFault → Step k
      set_step v = let s = set_judged v h.own now h.rows bytes in settled k limit accepts h s done (is_ok s.answer) these

      set_settles : (v : Result (Unit {0}) WireFault) → (set_step v).left ≡ l ∷ [] → Settling h.own ds (stated (first_of rs) (state_of bytes) ∷ []) (set_step v).answer (length rs) 1 (set_step v).hub
      set_settles (Ok u) left =
          let then : List Record = stored h.rows (record_set now) in
          let v = judged_records h.own then in
          settles then (stated (first_of rs) (state_of bytes) ∷ []) [] done true (is_ok (settled_at v h.rows then []).answer) v refl (ok_is v then []) refl
          (λ one. subst (λ n. Sound h.own (ds ++ stated n (state_of bytes) ∷ []) then) (now_is one) (set_sound now)) left
      set_settles (Err f) left = refused_takes (stated (first_of rs) (state_of bytes) ∷ []) (AwarenessWire f) done true left

      set_answered : SetAnswered h.own ds bytes (set_step (presence_text bytes)).answer
      set_answered = record {
        unreadable = λ f is. ap (λ v. (set_step v).answer) is;
        readable = λ is at.
            let es : List Event = stated now (state_of bytes) ∷ [] in
            let then : List Record = stored h.rows (record_set now) in
            judged_alike h.own (ds ++ es) (ds ++ stated at (state_of bytes) ∷ []) (stated_alike h.own ds now at (state_of bytes)) h.own (λ f. refused (Presence f)) done _
            (subst (Judged h.own (ds ++ es) h.own (λ f. refused (Presence f)) done)
            (verdict_told es then (set_sound now) [] done (judged_records h.own then) ∙ sym (ap (λ v. (set_step v).answer) is))
            (judged_is h.own (ds ++ es) then (set_sound now) (λ f. refused (Presence f)) done h.own));
      }

      sets : (set_step (presence_text bytes)).left ≡ l ∷ [] → CallSo h.own ds (set bytes) rs (set_step (presence_text bytes))
      sets left = let s = set_settles (presence_text bytes) left in record { answered = set_answered; takes = s.takes; kept = s.leaves }

    -- ---- remove
    module _ (c : ℕ) where
      abbrev record_gone : ℕ → Option Record → Record
      record_gone n o = removed c n o

      abbrev gone_then : ℕ → List Record
      gone_then n = stored h.rows (removed c n (held_of c h.rows))

      gone_sound : (n : ℕ) → Sound h.own (ds ++ nulled n c ∷ []) (gone_then n)
      gone_sound n = sound_next h.own ds h.rows was.sound (nulled n c)

      -- where one is held, the time is not asked
      gone_timeless : (o : Option Record) (n m : ℕ) → is_none o ≡ false → removed c n o ≡ removed c m o
      gone_timeless None n m some = absurd (false≢true (sym some))
      gone_timeless (Some r) n m some = refl

      -- after the events that are told
      gone_told : (b : Bool) → is_none (held_of c h.rows) ≡ b → length rs ≡ cond b 1 0 → Sound h.own (ds ++ nulled (first_of rs) c ∷ []) (gone_then now)
      gone_told true asks one = subst (λ n. Sound h.own (ds ++ nulled n c ∷ []) (gone_then now)) (now_is one) (gone_sound now)
      gone_told false asks none = subst (λ r. Sound h.own (ds ++ nulled (first_of rs) c ∷ []) (stored h.rows r)) (gone_timeless (held_of c h.rows) (first_of rs) now asks) (gone_sound (first_of rs))

      abbrev asks_time : Bool
      asks_time = is_none (held_of c h.rows)

      abbrev gone_step : Result (Unit {0}) WireFault → Step k
      gone_step v = let s = remove_judged v c now h.rows in settled k limit accepts h s done (is_ok s.answer && asks_time) these

      gone_settles : (v : Result (Unit {0}) WireFault) → (gone_step v).left ≡ l ∷ [] → Settling h.own ds (nulled (first_of rs) c ∷ []) (gone_step v).answer (length rs) (cond asks_time 1 0) (gone_step v).hub
      gone_settles (Ok u) left =
          let then : List Record = gone_then now in
          let v = judged_records c then in
          settles then (nulled (first_of rs) c ∷ []) [] done asks_time (is_ok (settled_at v h.rows then []).answer && asks_time) v refl (ok_and v then [] asks_time) refl (gone_told asks_time refl) left
      gone_settles (Err f) left = refused_takes (nulled (first_of rs) c ∷ []) (AwarenessWire f) done asks_time left

      gone_answered : RemoveAnswered h.own ds c (gone_step (client_id c)).answer
      gone_answered = record {
        unreadable = λ f is. ap (λ v. (gone_step v).answer) is;
        readable = λ is at.
            let es : List Event = nulled now c ∷ [] in
            let then : List Record = gone_then now in
            judged_alike h.own (ds ++ es) (ds ++ nulled at c ∷ []) (nulled_alike h.own ds now at c) c (λ f. refused (Presence f)) done _
            (subst (Judged h.own (ds ++ es) c (λ f. refused (Presence f)) done)
            (verdict_told es then (gone_sound now) [] done (judged_records c then) ∙ sym (ap (λ v. (gone_step v).answer) is))
            (judged_is h.own (ds ++ es) then (gone_sound now) (λ f. refused (Presence f)) done c));
      }

      gone_takes : (a : Answer) → length rs ≡ cond (accepted a) (cond asks_time 1 0) 0 → RemovalTakes h.own ds c a (length rs)
      gone_takes a n = record {
        refused = λ no_more. n ∙ ap (λ b. cond b (cond asks_time 1 0) 0) no_more;
        new = λ yes held. n ∙ ap (λ b. cond b (cond asks_time 1 0) 0) yes ∙ ap (λ o. cond (is_none o) 1 0) (not_held h.own ds h was rs l c held);
        known = λ yes r held. n ∙ ap (λ b. cond b (cond asks_time 1 0) 0) yes ∙ held_no (held_of c h.rows) (is_held h.own ds h was rs l c r held);
      }
        where
          held_no : (o : Option Record) → is_some o ≡ true → ◌≡◌ {A = ℕ} (cond (is_none o) 1 0) 0
          held_no None some = absurd (false≢true some)
          held_no (Some r) some = refl

      removes : (gone_step (client_id c)).left ≡ l ∷ [] → CallSo h.own ds (remove c) rs (gone_step (client_id c))
      removes left = let s = gone_settles (client_id c) left in record { answered = gone_answered; takes = gone_takes (gone_step (client_id c)).answer s.takes; kept = s.leaves }

    cleans : (gone_step h.own (client_id h.own)).left ≡ l ∷ [] → CallSo h.own ds clean rs (gone_step h.own (client_id h.own))
    cleans left = let s = gone_settles h.own (client_id h.own) left in record { answered = gone_answered h.own; takes = gone_takes h.own (gone_step h.own (client_id h.own)).answer s.takes; kept = s.leaves }

    -- ---- apply

    -- what an entry did there it did by what happened
    module _ (Does : Option Record → Entry → Type 0) (timeless : (i n t u : ℕ) (state : Option (List ℕ)) (e : Entry) → Does (Some (record { client = i; clock = n; time = t; state = state })) e → Does (Some (record { client = i; clock = n; time = u; state = state })) e)
        (picks : Change → Bool) (means : (c : ℕ) (es : List Entry) → Contains (listed picks (changes h.own now h.rows es)) c ↔ DidThere Does h.own now h.rows es c) (up : (es : List Entry) → ascends (λ c. c) (listed picks (changes h.own now h.rows es)) ≡ true) where
      held_then : (es : List Entry) (c : ℕ) → Shows h.own (ds ++ map (came now) es) c (held_of c (taken h.own now h.rows es))
      held_then es c = ((entries_sound es).holds c).shows

      there_so : (at c : ℕ) (es : List Entry) → DidThere Does h.own now h.rows es c → Did Does h.own ds at es c
      there_so at c es (before, e, after, is, mine, does) =
          (before, e, after, is, mine, held_of c (taken h.own now h.rows before), shows_alike h.own (ds ++ map (came now) before) (ds ++ map (came at) before) (entries_alike h.own ds now at before) c (held_of c (taken h.own now h.rows before)) (held_then before c), does)

      so_there : (at c : ℕ) (es : List Entry) → Did Does h.own ds at es c → DidThere Does h.own now h.rows es c
      so_there at c es (before, e, after, is, mine, o, shown_then, does) =
          (before, e, after, is, mine, does_too h.own (ds ++ map (came now) before) c Does timeless o (held_of c (taken h.own now h.rows before)) e (shows_alike h.own (ds ++ map (came at) before) (ds ++ map (came now) before) (entries_alike h.own ds at now before) c o shown_then) (held_then before c) does)

      tells : (es : List Entry) → Tells Does h.own ds es (listed picks (changes h.own now h.rows es))
      tells es = record { ascending = up es; exactly = λ at c. (λ has. there_so at c es ((means c es).0 has), λ did. (means c es).1 (so_there at c es did)) }

    lists_tell : (es : List Entry) → ListsTell h.own ds es (lists_of (changes h.own now h.rows es))
    lists_tell es =
        let all = lists_tell_what_was_done in
        record {
          added = tells Adds (λ i n t u state e z. z) is_added (λ c es. all.added h.own now h.rows es c) (λ es. all.ascending is_added h.own now h.rows es) es;
          updated = tells (Updates h.own) (λ i n t u state e z. z) is_updated (λ c es. all.updated h.own now h.rows es c) (λ es. all.ascending is_updated h.own now h.rows es) es;
          changed = tells Alters (λ i n t u state e z. z) is_changed (λ c es. all.changed h.own now h.rows es c) (λ es. all.ascending is_changed h.own now h.rows es) es;
          removed = tells (Removes h.own) (λ i n t u state e z. z) is_removed (λ c es. all.removed h.own now h.rows es c) (λ es. all.ascending is_removed h.own now h.rows es) es;
        }

    module _ (bytes : List ℕ) (enough : Bool) where
      abbrev apply_told : Settled → Answer
      apply_told s = told_by s.answer (applied (lists_of s.changes))

      abbrev apply_step : Bool → Reading (List Entry) → Step k
      apply_step b p = let s = applied_to b h.own now h.rows p in settled k limit accepts h s (applied (lists_of s.changes)) (is_ok s.answer) these

      abbrev apply_events : List Event
      apply_events = map (came (first_of rs)) (entries_in bytes)

      lists_or_none : (then : List Record) (xs : List (ℕ × Change)) (v : Result (Unit {0}) PresenceFault) → told_by (settled_at v h.rows then xs).answer (applied (lists_of xs)) ≡ apply_told (settled_at v h.rows then xs)
      lists_or_none then xs (Ok u) = refl
      lists_or_none then xs (Err f) = refl

      apply_settles : (b : Bool) (p : Reading (List Entry)) → presence bytes ≡ p → (apply_step b p).left ≡ l ∷ [] → Settling h.own ds apply_events (apply_step b p).answer (length rs) 1 (apply_step b p).hub
      apply_settles false p is left = refused_takes apply_events Short done true left
      apply_settles true (Err f) is left = refused_takes apply_events (AwarenessWire f) done true left
      apply_settles true (Ok p) is left =
          let es : List Entry = p.0 in
          let then : List Record = taken h.own now h.rows es in
          let xs : List (ℕ × Change) = changes h.own now h.rows es in
          let v = judged_records h.own then in
          let entries : entries_in bytes ≡ es = ap entries_listed is in
          subst (λ a. Settling h.own ds apply_events a (length rs) 1 (with_rows (settled_at v h.rows then xs).rows)) (lists_or_none then xs v)
          (settles then apply_events xs (applied (lists_of xs)) true (is_ok (settled_at v h.rows then xs).answer) v refl (ok_is v then xs) (entries_bring_none k (first_of rs) (entries_in bytes))
          (λ one. subst (λ n. Sound h.own (ds ++ map (came n) (entries_in bytes)) then) (now_is one) (subst (λ fs. Sound h.own (ds ++ map (came now) fs) then) (sym entries) (entries_sound es))) left)

      apply_answered : ApplyAnswered h.own ds bytes enough (apply_step enough (presence bytes)).answer
      apply_answered = record {
        short = λ is. ap (λ b. (apply_step b (presence bytes)).answer) is;
        unreadable = λ yes f is. ap (λ b. (apply_step b (presence bytes)).answer) yes ∙ ap (λ p. (apply_step true p).answer) is;
        readable = λ yes es rest is.
            let then : List Record = taken h.own now h.rows es in
            let xs : List (ℕ × Change) = changes h.own now h.rows es in
            let told : apply_told (settled_at (judged_records h.own then) h.rows then xs) ≡ (apply_step enough (presence bytes)).answer =
            sym (ap (λ b. (apply_step b (presence bytes)).answer) yes ∙ ap (λ p. (apply_step true p).answer) is) in (
              lists_of xs,
              lists_tell es,
              λ at.
                  judged_alike h.own (ds ++ map (came now) es) (ds ++ map (came at) es) (entries_alike h.own ds now at es) h.own (λ f. refused (Presence f)) (applied (lists_of xs)) _
                  (subst (Judged h.own (ds ++ map (came now) es) h.own (λ f. refused (Presence f)) (applied (lists_of xs)))
                  (verdict_told (map (came now) es) then (entries_sound es) xs (applied (lists_of xs)) (judged_records h.own then) ∙ lists_or_none then xs (judged_records h.own then) ∙ told)
                  (judged_is h.own (ds ++ map (came now) es) then (entries_sound es) (λ f. refused (Presence f)) (applied (lists_of xs)) h.own)),
            );
      }

      applies : (apply_step enough (presence bytes)).left ≡ l ∷ [] → CallSo h.own ds (apply bytes enough) rs (apply_step enough (presence bytes))
      applies left = let s = apply_settles enough (presence bytes) refl left in record { answered = apply_answered; takes = s.takes; kept = s.leaves }

    -- ---- any call
    any_call : (call : Call) → (perform k limit accepts h these call).left ≡ l ∷ [] → CallSo h.own ds call rs (perform k limit accepts h these call)
    any_call (handle bytes room) left = handles h.own ds h was rs l bytes room left
    any_call (apply bytes enough) left = applies bytes enough left
    any_call (set bytes) left = sets bytes left
    any_call clean left = cleans left
    any_call (remove c) left = removes c left
    any_call (step1 room) left = steps h.own ds h was rs l room left
    any_call (start room) left = starts h.own ds h was rs l room left
    any_call (show c) left = shows h.own ds h was rs l c left
    any_call (list cs room) left = lists h.own ds h was rs l cs room left

  pub call_so : (own : ℕ) (ds : List Event) (h : Hub k) → Kept k limit accepts own ds h → (rs : List ℕ) (l : ℕ) (call : Call) → (perform k limit accepts h (rs ++ l ∷ []) call).left ≡ l ∷ [] → CallSo own ds call rs (perform k limit accepts h (rs ++ l ∷ []) call)
  call_so own ds h was rs l call left = subst (λ o. Kept k limit accepts o ds h → CallSo o ds call rs (perform k limit accepts h (rs ++ l ∷ []) call)) was.is (λ here. any_call ds h here rs l call left) was
