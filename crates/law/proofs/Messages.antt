-- One message: what it is answered, and what it leaves.
use Rattle.std.proofs.Common.{◌≡◌, ℕ, ◌≤◌, Bool, true, false, cond, leb, ◌≢◌, List, [], ◌∷◌, ◌++◌, map, filter, is_some, Some, None, Ok, Err, Option, Result, Decides, sym, refl, ap, ◌∙◌, subst, append-nil, arith}
use Rattle.std.proofs.lemmas.Bool.{leb-true, leb-false}
use Rattle.encoding.specs.declared.fault.WireFault.{WireFault}
use Rattle.encoding.specs.Reading.{Reading}
use Rattle.encoding.specs.Writing.{Row}
use Rattle.state_vector.specs.declared.vector.VectorEntry.{VectorEntry}
use Rattle.state_vector.specs.Vector.{vector}
use Rattle.message.specs.Arrived.{listed}
use Rattle.message.specs.Message.{Said, step1, step2, update, awareness, denied, granted, query, custom}
use Rattle.message.specs.Presence.{Entry, presence}
use Rattle.message.specs.Writing.{step2 as told_step2, awareness as told_awareness, message_out}
use Rattle.awareness.specs.declared.change.Change.{Change}
use Rattle.awareness.specs.declared.fault.PresenceFault.{PresenceFault}
use Rattle.awareness.specs.Calls.{settled_at, applied, judged as judged_records}
use Rattle.awareness.specs.Changes.{changes}
use Rattle.awareness.specs.Record.{Record, entry_of, live}
use Rattle.awareness.specs.Taking.{taken}
use Rattle.document.specs.declared.fault.DocumentFault.TheVariants.{Unreadable, TooLarge}
use Rattle.document.specs.Kind.{Kind}
use Rattle.document.specs.Taking.{answer_to, after as document_after}
use Rattle.calls.specs.declared.fault.Fault.{Fault}
use Rattle.calls.specs.declared.fault.Fault.TheVariants.{Presence, Policy, Document}
use Rattle.calls.specs.declared.fault.PolicyFault.{PolicyFault}
use Rattle.calls.specs.declared.fault.PolicyFault.TheVariants.{PermissionDenied, Unsupported}
use Rattle.calls.specs.Handling.{Hub, Step, fits, replied, asked, settled, of_document, one}
use Rattle.law.specs.Events.{Event, came, joined as update_event, said_events, is_presence, entries_in, read_as, all_joined, document_of}
use Rattle.law.specs.Answers.{FitsIn, Judged, ShowsText, UpdateAnswered, PolicyAnswered, MessageAnswered}
use Rattle.law.proofs.Alike.{judged_alike, entries_alike}
use Rattle.law.proofs.Documents.{Never, document_append, entries_bring_none, same_document, never_same, never_joined}
use Rattle.law.proofs.Onward.{Sound, sound_all, sound_next, taken_is}
use Rattle.law.proofs.Rooms.{by, judged_is}
use Rattle.law.proofs.Writings.{fits_in, entries_are}

-- a state shows a text where it is one
pub text_shown : (e : Entry) → Decides (is_some e.state) (ShowsText e)
text_shown e = shown e.state where
  shown : (s : Option (List ℕ)) → Decides (is_some s) (s ≢ None)
  shown None = (λ q. cc, λ not. absurd (not refl))
  shown (Some t) = (λ _ q. cc, λ _. refl)

module _ (k : Kind) (limit : ℕ) (accepts : Said → Bool) where
  -- a hub is what happened makes of it
  pub record Kept (own : ℕ) (ds : List Event) (h : Hub k) : Type 0 where
    pub is : h.own ≡ own
    pub sound : Sound own ds h.rows
    pub document : h.document ≡ document_of k ds
    pub never : Never k limit ds

  -- a verdict with its reply
  abbrev pub outcome : Result (Unit {0}) Fault → List ℕ → Result (List ℕ) Fault
  outcome (Ok u) reply = Ok reply
  outcome (Err f) reply = Err f

  -- a message that was accepted happened, and one that was refused left all as it was
  abbrev pub Leaves : ℕ → List Event → ℕ → Said → Result (Unit {0}) Fault → Hub k → Bool → Type 0
  Leaves own ds now m (Ok u) h reads = Kept own (ds ++ said_events now m) h × (reads ≡ is_presence m)
  Leaves own ds now m (Err f) h reads = Kept own ds h

  -- what one message is answered and leaves
  pub record One (own : ℕ) (ds : List Event) (room now : ℕ) (m : Said) (step : Step k) : Type 0 where
    pub answered : MessageAnswered k limit accepts own ds room m (outcome step.verdict step.reply)
    pub leaves : Leaves own ds now m step.verdict step.hub step.reads

  module _ (ds : List Event) (h : Hub k) (was : Kept h.own ds h) where
    -- nothing happened
    nothing_more : Kept h.own (ds ++ []) h
    nothing_more = subst (λ l. Kept h.own l h) (sym (append-nil ds)) was

    -- a reply
    replied_outcome : (r : Result (List ℕ) Fault) → outcome (replied k h r).verdict (replied k h r).reply ≡ r
    replied_outcome (Ok bs) = refl
    replied_outcome (Err f) = refl

    replied_leaves : (now : ℕ) (m : Said) (r : Result (List ℕ) Fault) → said_events now m ≡ [] → is_presence m ≡ false → Leaves h.own ds now m (replied k h r).verdict (replied k h r).hub (replied k h r).reads
    replied_leaves now m (Ok bs) none calm = (subst (λ l. Kept h.own (ds ++ l) h) (sym none) nothing_more, sym calm)
    replied_leaves now m (Err f) none calm = was

    asked_leaves : (room now : ℕ) (part : List ℕ) (v : Result (List VectorEntry) WireFault) → Leaves h.own ds now (step1 part) (asked k room h v).verdict (asked k room h v).hub (asked k room h v).reads
    asked_leaves room now part (Ok v) = replied_leaves now (step1 part) (fits k room (message_out (told_step2 (k.update h.document v)))) refl refl
    asked_leaves room now part (Err f) = was

    requested : (room now : ℕ) (part : List ℕ) → One h.own ds room now (step1 part) (asked k room h (vector part))
    requested room now part = record {
      answered = record {
        unreadable = λ f is. ap (λ v. outcome (asked k room h v).verdict (asked k room h v).reply) is;
        readable = λ v is.
            let row : List ℕ → Row = λ bs. message_out (told_step2 bs) in
            subst (λ r. FitsIn room (row (k.update (document_of k ds) v)) r)
            (sym (ap (λ x. outcome (asked k room h x).verdict (asked k room h x).reply) is ∙ replied_outcome (fits k room (row (k.update h.document v)))))
            (subst (λ d. FitsIn room (row (k.update d v)) (fits k room (row (k.update h.document v)))) was.document (fits_in k room (row (k.update h.document v))));
      };
      leaves = asked_leaves room now part (vector part);
    }

    queried : (room now : ℕ) → One h.own ds room now query (replied k h (fits k room (message_out (told_awareness (map entry_of (filter live h.rows))))))
    queried room now =
        let es : List Entry = map entry_of (filter live h.rows) in
        record {
          answered = (es, entries_are h.own ds h.rows was.sound (λ e. is_some e.state) ShowsText text_shown, subst (FitsIn room (message_out (told_awareness es))) (sym (replied_outcome (fits k room (message_out (told_awareness es))))) (fits_in k room (message_out (told_awareness es))));
          leaves = replied_leaves now query (fits k room (message_out (told_awareness es))) refl refl;
        }

    -- the policy
    decided : (room now : ℕ) (m : Said) (f : PolicyFault) (b : Bool) → accepts m ≡ b → said_events now m ≡ [] → is_presence m ≡ false
        → PolicyAnswered k limit accepts h.own m f (outcome (cond b (Ok tt) (Err (Policy f))) []) × Leaves h.own ds now m (cond b (Ok tt) (Err (Policy f))) h false
    decided room now m f true is none calm = (record { yes = λ _. refl; no = λ q. let z : true ≡ false = sym is ∙ q in cc }, (subst (λ l. Kept h.own (ds ++ l) h) (sym none) nothing_more, sym calm))
    decided room now m f false is none calm = (record { yes = λ q. let z : false ≡ true = sym is ∙ q in cc; no = λ _. refl }, was)

    -- a document update
    as_read : (part : List ℕ) (u : k.Document) → k.reading part ≡ Ok u → document_of k (ds ++ update_event part ∷ []) ≡ k.join h.document u
    as_read part u is = document_append k ds (update_event part ∷ []) ∙ ap (λ r. all_joined k (document_of k ds) (read_as k r ++ [])) is ∙ ap (λ d. k.join d u) (sym was.document)

    module _ (room now : ℕ) (m : Said) (part : List ℕ) (brings : said_events now m ≡ update_event part ∷ []) (calm : is_presence m ≡ false) where
      abbrev Joins : Result k.Document WireFault → Type 0
      Joins v = UpdateAnswered k limit accepts h.own ds part (outcome (of_document k (answer_to k limit h.document v)) []) × Leaves h.own ds now m (of_document k (answer_to k limit h.document v)) (record { own = h.own; rows = h.rows; document = document_after k limit h.document v }) false

      abbrev Decided : k.Document → Bool → Type 0
      Decided u b = UpdateAnswered k limit accepts h.own ds part (outcome (of_document k (cond b (Ok tt) (Err TooLarge))) []) × Leaves h.own ds now m (of_document k (cond b (Ok tt) (Err TooLarge))) (record { own = h.own; rows = h.rows; document = cond b (k.join h.document u) h.document }) false

      size_there : (u v : k.Document) → k.reading part ≡ Ok u → k.reading part ≡ Ok v → k.size (k.join (document_of k ds) v) ≡ k.size (k.join h.document u)
      size_there u v is also = let same : u ≡ v = let q : ◌≡◌ {A = Result k.Document WireFault} (Ok u) (Ok v) = sym is ∙ also in cc in ap (λ d. k.size (k.join d v)) (sym was.document) ∙ ap (λ x. k.size (k.join h.document x)) (sym same)

      joins_read : (u : k.Document) → k.reading part ≡ Ok u → (b : Bool) → leb (k.size (k.join h.document u)) limit ≡ b → Decided u b
      joins_read u is true t =
          let l = leb-true (k.size (k.join h.document u)) limit t in
          let brought = as_read part u is in (
            record {
              unreadable = λ f q. let z : ◌≡◌ {A = Result k.Document WireFault} (Ok u) (Err f) = sym is ∙ q in cc;
              too_large = λ v q over. let same = size_there u v is q in absurd (omega arith);
              fits = λ v q low. refl;
            },
            (
              subst (λ l. Kept h.own (ds ++ l) (record { own = h.own; rows = h.rows; document = k.join h.document u })) (sym brings) (record {
                is = refl;
                sound = sound_next h.own ds h.rows was.sound (update_event part);
                document = sym brought;
                never = never_joined k limit ds (update_event part) was.never (subst (λ d. k.size d ≤ limit) (sym brought) l);
              }),
              sym calm,
            ),
          )
      joins_read u is false f = (
        record {
          unreadable = λ g q. let z : ◌≡◌ {A = Result k.Document WireFault} (Ok u) (Err g) = sym is ∙ q in cc;
          too_large = λ v q over. refl;
          fits = λ v q low. let same = size_there u v is q in let l = leb-false (k.size (k.join h.document u)) limit f in absurd (omega arith);
        },
        was,
      )

      joins : (v : Result k.Document WireFault) → k.reading part ≡ v → Joins v
      joins (Ok u) is = joins_read u is (leb (k.size (k.join h.document u)) limit) refl
      joins (Err f) is = (
        record {
          unreadable = λ g q. let z : ◌≡◌ {A = Result k.Document WireFault} (Err f) (Err g) = sym is ∙ q in let same : f ≡ g = cc in ap (λ x. Err (Document (Unreadable x))) same;
          too_large = λ v q over. let z : ◌≡◌ {A = Result k.Document WireFault} (Err f) (Ok v) = sym is ∙ q in cc;
          fits = λ v q low. let z : ◌≡◌ {A = Result k.Document WireFault} (Err f) (Ok v) = sym is ∙ q in cc;
        },
        was,
      )

    -- a presence update
    module _ (now : ℕ) (es : List Entry) where
      taken_sound : Sound h.own (ds ++ map (came now) es) (taken h.own now h.rows es)
      taken_sound = subst (Sound h.own (ds ++ map (came now) es)) (taken_is h.own now h.rows es) (sound_all h.own ds (map (came now) es) h.rows was.sound)

      taken_kept : Kept h.own (ds ++ map (came now) es) (record { own = h.own; rows = taken h.own now h.rows es; document = h.document })
      taken_kept = record {
        is = refl;
        sound = taken_sound;
        document = was.document ∙ sym (same_document k ds (map (came now) es) (entries_bring_none k now es));
        never = never_same k limit ds (map (came now) es) was.never (entries_bring_none k now es);
      }

    abbrev presence_step : ℕ → Reading (List Entry) → Step k
    presence_step now p = settled k h (applied h.own now h.rows p)

    presence_settled : (now : ℕ) (part : List ℕ) (es : List Entry) → entries_in part ≡ es → (v : Result (Unit {0}) PresenceFault) (xs : List (ℕ × Change))
        → Leaves h.own ds now (awareness part) (settled k h (settled_at v h.rows (taken h.own now h.rows es) xs)).verdict (settled k h (settled_at v h.rows (taken h.own now h.rows es) xs)).hub (settled k h (settled_at v h.rows (taken h.own now h.rows es) xs)).reads
    presence_settled now part es is (Ok u) xs = (subst (λ l. Kept h.own (ds ++ map (came now) l) (record { own = h.own; rows = taken h.own now h.rows es; document = h.document })) (sym is) (taken_kept now es), refl)
    presence_settled now part es is (Err f) xs = was

    presence_leaves : (now : ℕ) (part : List ℕ) (p : Reading (List Entry)) → presence part ≡ p → Leaves h.own ds now (awareness part) (presence_step now p).verdict (presence_step now p).hub (presence_step now p).reads
    presence_leaves now part (Ok p) is = presence_settled now part p.0 (ap listed is) (judged_records h.own (taken h.own now h.rows p.0)) (changes h.own now h.rows p.0)
    presence_leaves now part (Err f) is = was

    presence_outcome : (now : ℕ) (es : List Entry) (v : Result (Unit {0}) PresenceFault) (xs : List (ℕ × Change))
        → by h.own (ds ++ map (came now) es) (taken h.own now h.rows es) (taken_sound now es) (λ f. Err (Presence f)) (Ok []) v ≡ outcome (settled k h (settled_at v h.rows (taken h.own now h.rows es) xs)).verdict []
    presence_outcome now es (Ok u) xs = refl
    presence_outcome now es (Err f) xs = refl

    presented : (room now : ℕ) (part : List ℕ) → One h.own ds room now (awareness part) (presence_step now (presence part))
    presented room now part = record {
      answered = record {
        unreadable = λ f is. ap (λ p. outcome (presence_step now p).verdict []) is;
        readable = λ es rest is at.
            let then : List Record = taken h.own now h.rows es in
            judged_alike h.own (ds ++ map (came now) es) (ds ++ map (came at) es) (entries_alike h.own ds now at es) h.own (λ f. Err (Presence f)) (Ok []) _
            (subst (Judged h.own (ds ++ map (came now) es) h.own (λ f. Err (Presence f)) (Ok []))
            (presence_outcome now es (judged_records h.own then) (changes h.own now h.rows es) ∙ sym (ap (λ p. outcome (presence_step now p).verdict []) is))
            (judged_is h.own (ds ++ map (came now) es) then (taken_sound now es) (λ f. Err (Presence f)) (Ok []) h.own));
      };
      leaves = presence_leaves now part (presence part) refl;
    }

    -- any message
    pub one_at_own : (room now : ℕ) (m : Said) → One h.own ds room now m (one k limit accepts room now h m)
    one_at_own room now (step1 part) = requested room now part
    one_at_own room now (step2 part) = let j = joins room now (step2 part) part refl refl (k.reading part) refl in record { answered = j.0; leaves = j.1 }
    one_at_own room now (update part) = let j = joins room now (update part) part refl refl (k.reading part) refl in record { answered = j.0; leaves = j.1 }
    one_at_own room now (awareness part) = presented room now part
    one_at_own room now (denied reason) = let j = decided room now (denied reason) PermissionDenied (accepts (denied reason)) refl refl refl in record { answered = j.0; leaves = j.1 }
    one_at_own room now granted = let j = decided room now granted PermissionDenied (accepts granted) refl refl refl in record { answered = j.0; leaves = j.1 }
    one_at_own room now query = queried room now
    one_at_own room now (custom tag part) = let j = decided room now (custom tag part) Unsupported (accepts (custom tag part)) refl refl refl in record { answered = j.0; leaves = j.1 }

  pub one_so : (own : ℕ) (ds : List Event) (h : Hub k) → Kept own ds h → (room now : ℕ) (m : Said) → One own ds room now m (one k limit accepts room now h m)
  one_so own ds h was room now m = subst (λ o. Kept o ds h → One o ds room now m (one k limit accepts room now h m)) was.is (λ here. one_at_own ds h here room now m) was
