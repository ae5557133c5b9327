-- An exchange joins the two documents.
use Rattle.std.proofs.Common.{◌≡◌, ℕ, suc, ◌-◌, ◌<◌, ◌≤◌, Bool, ◌⊎◌, List, [], ◌∷◌, ◌++◌, take, length, Ok, Err, Result, sym, refl, ap, ◌∙◌, subst, inl, inr, ⊎_elim, append-nil, append_assoc, arith}
use Rattle.std.proofs.lemmas.Bool.{cases_lt}
use Rattle.encoding.specs.Writing.{Row}
use Rattle.state_vector.specs.declared.vector.VectorEntry.{VectorEntry}
use Rattle.state_vector.specs.Vector.{vector}
use Rattle.state_vector.specs.VectorOut.{vector_out}
use Rattle.message.specs.Message.{Said, step1, step2}
use Rattle.message.specs.Messages.{whole, next, messages}
use Rattle.message.specs.Writing.{step1 as told_step1, step2 as told_step2, awareness as told_awareness, Sound, message_out}
use Rattle.message.proofs.ReadsBack.{reads_back}
use Rattle.document.specs.Kind.{Kind, Lawful}
use Rattle.calls.specs.declared.answer.Handled.{Handled}
use Rattle.calls.specs.declared.answer.Refusal.{Refusal}
use Rattle.calls.specs.declared.fault.Fault.{Fault}
use Rattle.calls.specs.declared.fault.Fault.TheVariants.{Document, Buffer}
use Rattle.document.specs.declared.fault.DocumentFault.TheVariants.{TooLarge}
use Rattle.law.specs.Words.{handle, step1 as step1_call, start, Answer, handled, written, Told, told, History, wrote, both}
use Rattle.law.specs.Events.{Event, joined, said_events, first_of, rest_if, is_presence, events_in, left_after, count_in, events_of, events, read_as, updates, all_joined, document_of}
use Rattle.law.specs.Answers.{FitsIn, RequestAnswered, UpdateAnswered, MessageAnswered, Done, said_of, replies_of, Ends, HandleAnswered, WriteAnswered, vector_written, CallAnswered, Answered}
use Rattle.law.specs.Exchange.{AtEach, Asks, Another, Replied, HandedOver, Exchanges}
use Rattle.law.proofs.Calls.{said_append}
use Rattle.law.proofs.Documents.{document_append}
use Rattle.law.proofs.Handles.{front_is, said_length}
use Rattle.law.proofs.Histories.{events_append, events_more}

-- ---- what is written is what was to be written

fits_back : (room : ℕ) (row : Row) (bs : List ℕ) → FitsIn room row (Ok bs) → row ≡ Ok bs
fits_back room (Ok cs) bs f =
    ⊎_elim
    (λ (l : room < length cs). let z : ◌≡◌ {A = Result (List ℕ) Fault} (Ok bs) (Err Buffer) = f.short cs refl l in cc)
    (λ (l : length cs ≤ room). let z : ◌≡◌ {A = Result (List ℕ) Fault} (Ok bs) (Ok cs) = f.fits cs refl l in let same : bs ≡ cs = cc in ap Ok (sym same))
    (cases_lt room (length cs))
fits_back room (Err g) bs f = let z : ◌≡◌ {A = Result (List ℕ) Fault} (Ok bs) (Err Buffer) = f.long g refl in cc

wrote_back : (r : Result (List ℕ) Fault) (bs : List ℕ) → wrote r ≡ written bs → r ≡ Ok bs
wrote_back (Ok cs) bs is = let same : cs ≡ bs = cc in ap Ok same
wrote_back (Err f) bs is = cc

both_back : (a b : Row) (bs : List ℕ) → both a b ≡ Ok bs → (x : List ℕ) × (y : List ℕ) × (a ≡ Ok x) × (b ≡ Ok y) × (bs ≡ x ++ y)
both_back (Ok x) (Ok y) bs is = let same : x ++ y ≡ bs = cc in (x, y, refl, refl, sym same)
both_back (Ok x) (Err f) bs is = cc
both_back (Err f) b bs is = cc

whole_step1 : (p q rest more : List ℕ) → whole (step1 p) rest ≡ whole (step1 q) more → p ≡ q
whole_step1 p q rest more is = let same : step1 p ≡ step1 q = cc in cc

whole_step2 : (p q rest more : List ℕ) → whole (step2 p) rest ≡ whole (step2 q) more → p ≡ q
whole_step2 p q rest more is = let same : step2 p ≡ step2 q = cc in cc

-- ---- messages in a row

events_in_append : (ns : List ℕ) (ms ls : List (ℕ × Said)) → events_in ns (ms ++ ls) ≡ events_in ns ms ++ events_in (left_after ns ms) ls
events_in_append ns [] ls = refl
events_in_append ns (m ∷ ms) ls =
    ap (λ l. said_events (first_of ns) m.1 ++ l) (events_in_append (rest_if (is_presence m.1) ns) ms ls)
    ∙ sym (append_assoc (said_events (first_of ns) m.1) (events_in (rest_if (is_presence m.1) ns) ms) (events_in (left_after (rest_if (is_presence m.1) ns) ms) ls))

length_push : {X : Type 0} (xs : List X) (x : X) → length (xs ++ x ∷ []) ≡ suc (length xs)
length_push [] x = refl
length_push (y ∷ xs) x = ap suc (length_push xs x)

-- a message that was done, by its place in the row
pub record DoneAt (dones : List Done) (ms : List (ℕ × Said)) (m : ℕ × Said) : Type 0 where
  pub before : List Done
  pub done : Done
  pub after : List Done
  pub is : dones ≡ before ++ done ∷ after
  pub front : said_of before ≡ ms
  pub message : done.message ≡ m

done_later : (d : Done) (dones : List Done) (x : ℕ × Said) (ms : List (ℕ × Said)) (m : ℕ × Said) → d.message ≡ x → DoneAt dones ms m → DoneAt (d ∷ dones) (x ∷ ms) m
done_later d dones x ms m head r = record {
  before = d ∷ r.before;
  done = r.done;
  after = r.after;
  is = ap (λ l. d ∷ l) r.is;
  front = ap (λ l. d.message ∷ l) r.front ∙ ap (λ y. y ∷ ms) head;
  message = r.message;
}

done_at : (dones : List Done) (rest ms : List (ℕ × Said)) (m : ℕ × Said) (others : List (ℕ × Said)) → said_of dones ++ rest ≡ ms ++ m ∷ others → length ms < length dones → DoneAt dones ms m
done_at [] rest ms m others is l = absurd (omega arith)
done_at (d ∷ dones) rest [] m others is l = let same : d.message ≡ m = cc in record { before = []; done = d; after = dones; is = refl; front = refl; message = same }
done_at (d ∷ dones) rest (x ∷ ms) m others is l =
    let head : d.message ≡ x = cc in
    let tail : said_of dones ++ rest ≡ ms ++ m ∷ others = cc in
    done_later d dones x ms m head (done_at dones rest ms m others tail (omega arith))

-- and one that was not: it is the first of the others
not_done : (dones : List Done) (rest ms : List (ℕ × Said)) (m : ℕ × Said) (others : List (ℕ × Said)) → said_of dones ++ rest ≡ ms ++ m ∷ others → length ms ≡ length dones → (said_of dones ≡ ms) × (rest ≡ m ∷ others)
not_done [] rest [] m others is l = (refl, is)
not_done [] rest (x ∷ ms) m others is l = absurd (omega arith)
not_done (d ∷ dones) rest [] m others is l = absurd (omega arith)
not_done (d ∷ dones) rest (x ∷ ms) m others is l =
    let head : d.message ≡ x = cc in
    let tail : said_of dones ++ rest ≡ ms ++ m ∷ others = cc in
    let r = not_done dones rest ms m others tail (omega arith) in
    (ap (λ l. d.message ∷ l) r.0 ∙ ap (λ y. y ∷ ms) head, r.1)

-- ---- documents

module _ (k : Kind) (limit : ℕ) (lawful : Lawful k limit) where
  -- a document joined with others is its join with one
  joined_one : (d : k.Document) (us : List k.Document) → all_joined k d us ≡ k.join d (all_joined k k.empty us)
  joined_one d [] = sym (lawful.neutral d) ∙ lawful.commutative k.empty d
  joined_one d (u ∷ us) =
      joined_one (k.join d u) us
      ∙ lawful.associative d u (all_joined k k.empty us)
      ∙ ap (k.join d) (sym (joined_one u us) ∙ ap (λ e. all_joined k e us) (sym (lawful.neutral u)))

  -- what brings the old document up to the join brings up what that became
  brings_on : (old since there brought : k.Document) → k.join old brought ≡ k.join old there → k.join (k.join old since) brought ≡ k.join (k.join old since) there
  brings_on old since there brought enough =
      ap (λ d. k.join d brought) (lawful.commutative old since)
      ∙ lawful.associative since old brought
      ∙ ap (k.join since) enough
      ∙ sym (lawful.associative since old there)
      ∙ ap (λ d. k.join d there) (lawful.commutative since old)

module _ (k : Kind) where
  -- a step 1 that was written holds the vector of the document
  module _ (limit : ℕ) (lawful : Lawful k limit) (accepts : Said → Bool) (id : ℕ) (past : List Event) (small : k.size (document_of k past) ≤ limit) where
    abbrev old : k.Document
    old = document_of k past

    sound_vector : Sound (told_step1 (k.vector old))
    sound_vector = let w = lawful.writable old small in (w.few, w.ascending, w.ids, w.clocks)

    reads_vector : (bs rest more part : List ℕ) → message_out (told_step1 (k.vector old)) ≡ Ok bs → next (bs ++ more) ≡ whole (step1 part) rest → vector part ≡ Ok (k.vector old)
    reads_vector bs rest more part is reads =
        let back = reads_back (told_step1 (k.vector old)) bs sound_vector is in
        let same : part ≡ vector_out (k.vector old) = whole_step1 part (vector_out (k.vector old)) rest more (sym reads ∙ back.whole_message tt more) in
        ap vector same ∙ back.same_contents

    written_row : (room : ℕ) (row : Row) (a : Answer) (bs : List ℕ) → WriteAnswered id past room row a → a ≡ written bs → row ≡ Ok bs
    written_row room row a bs (r, fit, is) also = fits_back room row bs (subst (FitsIn room row) (wrote_back r bs (sym is ∙ also)) fit)

    asked_vector : (t : Told) (part : List ℕ) → CallAnswered k limit accepts id past t.call t.answer t.readings → Asks t part → vector part ≡ Ok (k.vector old)
    asked_vector t part answered asks = by asks.call where
      by : (t.call ≡ step1_call asks.room) ⊎ (t.call ≡ start asks.room) → vector part ≡ Ok (k.vector old)
      by (inl is) =
          let so : CallAnswered k limit accepts id past (step1_call asks.room) t.answer t.readings = subst (λ c. CallAnswered k limit accepts id past c t.answer t.readings) is answered in
          reads_vector asks.bytes asks.rest [] part (written_row asks.room (vector_written k limit accepts id past) t.answer asks.bytes so asks.answer) (ap next (append-nil asks.bytes) ∙ asks.reads)
      by (inr is) =
          let so : CallAnswered k limit accepts id past (start asks.room) t.answer t.readings = subst (λ c. CallAnswered k limit accepts id past c t.answer t.readings) is answered in
          let live : Row = message_out (told_awareness so.0) in
          let parts = both_back (vector_written k limit accepts id past) live asks.bytes (written_row asks.room (both (vector_written k limit accepts id past) live) t.answer asks.bytes so.2 asks.answer) in
          reads_vector parts.0 asks.rest parts.1 part parts.2 (ap next (sym parts.4) ∙ asks.reads)

  -- a reply holds the update for that vector
  replied_update : (hub : Another k) (part u : List ℕ) (there : k.Document) (v : List VectorEntry) → Replied k hub part u there → vector part ≡ Ok v → u ≡ k.update there v
  replied_update hub part u there v r is =
      let so = (hub.answered r.earlier (told (handle r.bytes r.room) (handled r.result r.out) r.readings) r.later r.called).3 in
      let past : List Event = events hub.id r.earlier ++ events_in r.readings (said_of r.before) in
      let room : ℕ = r.room - length (replies_of r.before) in
      let answered : RequestAnswered k hub.limit hub.accepts hub.id past room part (Ok r.done.reply) =
      subst (λ m. MessageAnswered k hub.limit hub.accepts hub.id past room m (Ok r.done.reply)) r.request (so.each r.before r.done r.after r.did) in
      let row : message_out (told_step2 (k.update there v)) ≡ Ok r.done.reply =
      subst (λ d. message_out (told_step2 (k.update d v)) ≡ Ok r.done.reply) (sym r.document) (fits_back room (message_out (told_step2 (k.update (document_of k past) v))) r.done.reply (answered.readable v is)) in
      let back = reads_back (told_step2 (k.update there v)) r.done.reply tt row in
      whole_step2 u (k.update there v) [] [] (sym r.reply ∙ ap next (sym (append-nil r.done.reply)) ∙ back.whole_message tt [])

  -- and the other was within its limit then
  replied_small : (hub : Another k) (part u : List ℕ) (there : k.Document) → Replied k hub part u there → k.size there ≤ hub.limit
  replied_small hub part u there r =
      let call : Told = told (handle r.bytes r.room) (handled r.result r.out) r.readings in
      let answered = hub.answered r.earlier call r.later r.called in
      let so = answered.3 in
      let results : r.result ≡ answered.0 = let same = answered.2 in cc in
      let count : count_in r.result ≡ length (said_of so.dones) = let c = so.counted in let n = said_length so.dones in let e : count_in r.result ≡ count_in answered.0 = ap count_in results in omega arith in
      let front : take (count_in r.result) (messages r.bytes).said ≡ said_of so.dones = ap (λ n. take n (messages r.bytes).said) count ∙ ap (take (length (said_of so.dones))) so.all ∙ front_is (said_of so.dones) so.rest in
      let brought : events_of hub.id call ≡ events_in r.readings (said_of r.before) ++ events_in (left_after r.readings (said_of r.before)) (said_of (r.done ∷ r.after)) =
      ap (events_in r.readings) (front ∙ ap said_of r.did ∙ said_append r.before (r.done ∷ r.after)) ∙ events_in_append r.readings (said_of r.before) (said_of (r.done ∷ r.after)) in
      let later : List Event = events_in (left_after r.readings (said_of r.before)) (said_of (r.done ∷ r.after)) in
      let all : events hub.id hub.history ≡ (events hub.id r.earlier ++ events_in r.readings (said_of r.before)) ++ (later ++ events hub.id r.later) =
      ap (events hub.id) r.called ∙ events_append hub.id r.earlier (call ∷ r.later) ∙ ap (λ l. events hub.id r.earlier ++ (l ++ events hub.id r.later)) brought
      ∙ regroup (events hub.id r.earlier) (events_in r.readings (said_of r.before)) later (events hub.id r.later) in
      subst (λ d. k.size d ≤ hub.limit) (sym r.document) (hub.never_past (events hub.id r.earlier ++ events_in r.readings (said_of r.before)) (later ++ events hub.id r.later) all)
    where
      regroup : (a b c d : List Event) → a ++ ((b ++ c) ++ d) ≡ (a ++ b) ++ (c ++ d)
      regroup a b c d = ap (λ l. a ++ l) (append_assoc b c d) ∙ sym (append_assoc a b (c ++ d))

  module _ (limit : ℕ) (lawful : Lawful k limit) (accepts : Said → Bool) (id : ℕ) where
    -- an update that was handed over, where it is known what it reads as and what its join is
    module _ (past : List Event) (u : List ℕ) (there brought : k.Document) (reads : k.reading u ≡ Ok brought) (joins : k.join (document_of k past) brought ≡ k.join (document_of k past) there) where
      abbrev here : k.Document
      here = document_of k past

      accepted_small : (reply : List ℕ) → UpdateAnswered k limit accepts id past u (Ok reply) → k.size (k.join here there) ≤ limit
      accepted_small reply so =
          ⊎_elim
          (λ (over : limit < k.size (k.join here brought)). let z : ◌≡◌ {A = Result (List ℕ) Fault} (Ok reply) (Err (Document TooLarge)) = so.too_large brought reads over in cc)
          (λ (low : k.size (k.join here brought) ≤ limit). subst (λ d. k.size d ≤ limit) joins low)
          (cases_lt limit (k.size (k.join here brought)))

      refused_large : (f : Fault) → UpdateAnswered k limit accepts id past u (Err f) → k.size (k.join here there) ≤ limit → ⊥
      refused_large f so low = let z : ◌≡◌ {A = Result (List ℕ) Fault} (Err f) (Ok []) = so.fits brought reads (subst (λ d. k.size d ≤ limit) (sym joins) low) in cc

      then_joined : document_of k (past ++ joined u ∷ []) ≡ k.join here there
      then_joined = document_append k past (joined u ∷ []) ∙ ap (λ r. all_joined k here (read_as k r ++ [])) reads ∙ joins

    -- handed over in a handle that was answered so
    module _ (before : List Event) (bytes : List ℕ) (room : ℕ) (ns : List ℕ) (result : Result Handled Refusal) (out : List ℕ) (so : HandleAnswered k limit accepts id before bytes room ns result out)
        (ms : List (ℕ × Said)) (place : ℕ) (u : List ℕ) (others : List (ℕ × Said)) (is : (messages bytes).said ≡ ms ++ (place, step2 u) ∷ others) (up : length ms ≤ count_in result)
        (there brought : k.Document) (reads : k.reading u ≡ Ok brought) (joins : k.join (document_of k (before ++ events_in ns ms)) brought ≡ k.join (document_of k (before ++ events_in ns ms)) there) where
      abbrev past : List Event
      past = before ++ events_in ns ms

      row : said_of so.dones ++ so.rest ≡ ms ++ (place, step2 u) ∷ others
      row = sym so.all ∙ is

      did_it : length ms < count_in result → k.size (k.join (document_of k past) there) ≤ limit
      did_it l =
          let at = done_at so.dones so.rest ms (place, step2 u) others row (let c = so.counted in omega arith) in
          let answered = so.each at.before at.done at.after at.is in
          let there_so : MessageAnswered k limit accepts id (before ++ events_in ns (said_of at.before)) (room - length (replies_of at.before)) (step2 u) (Ok at.done.reply) =
          subst (λ m. MessageAnswered k limit accepts id (before ++ events_in ns (said_of at.before)) (room - length (replies_of at.before)) m (Ok at.done.reply)) (ap (λ (m : ℕ × Said). m.1) at.message) answered in
          accepted_small past u there brought reads joins at.done.reply (subst (λ xs. UpdateAnswered k limit accepts id (before ++ events_in ns xs) u (Ok at.done.reply)) at.front there_so)

      abbrev EndsWith : List (ℕ × Said) → Result Handled Refusal → Type 0
      EndsWith xs r = Ends k limit accepts id (before ++ events_in ns (said_of so.dones)) (room - length (replies_of so.dones)) (length bytes) (messages bytes).end xs r

      stopped : (r : Result Handled Refusal) → count_in result ≡ length ms → result ≡ r → k.size (k.join (document_of k past) there) ≤ limit → ⊥
      stopped (Ok h) n same low =
          let at = not_done so.dones so.rest ms (place, step2 u) others row (let c = so.counted in omega arith) in
          subst (λ x. EndsWith x (Ok h)) at.1 (subst (EndsWith so.rest) same so.ends)
      stopped (Err r) n same low =
          let at = not_done so.dones so.rest ms (place, step2 u) others row (let c = so.counted in omega arith) in
          let ends : EndsWith ((place, step2 u) ∷ others) (Err r) = subst (λ x. EndsWith x (Err r)) at.1 (subst (EndsWith so.rest) same so.ends) in
          refused_large past u there brought reads joins r.fault (subst (λ xs. UpdateAnswered k limit accepts id (before ++ events_in ns xs) u (Err r.fault)) at.0 ends.1) low

      -- the message is the last that was done
      last_done : count_in result ≡ suc (length ms) → before ++ events_in ns (take (count_in result) (messages bytes).said) ≡ past ++ joined u ∷ []
      last_done n =
          let front : List (ℕ × Said) = ms ++ (place, step2 u) ∷ [] in
          let size : count_in result ≡ length front = n ∙ sym (length_push ms (place, step2 u)) in
          ap (λ xs. before ++ events_in ns xs)
          (ap (λ n. take n (messages bytes).said) size ∙ ap (take (length front)) (is ∙ sym (append_assoc ms ((place, step2 u) ∷ []) others)) ∙ front_is front others)
          ∙ ap (λ l. before ++ l) (events_in_append ns ms ((place, step2 u) ∷ []))
          ∙ sym (append_assoc before (events_in ns ms) (joined u ∷ []))

      handed : (Last : Type 0) (held : k.Document) → (Last → held ≡ document_of k (past ++ joined u ∷ [])) → HandedOver k limit (document_of k past) there (length ms < count_in result) (document_of k (past ++ joined u ∷ [])) Last held
      handed Last held ends = record {
        held_last = λ last. ends last ∙ then_joined past u there brought reads joins;
        accepted_if_it_fits = λ low. ⊎_elim (λ (l : length ms < count_in result). l) (λ (l : count_in result ≤ length ms). absurd (stopped result (omega arith) refl low)) (cases_lt (length ms) (count_in result));
        fits_if_accepted = did_it;
        joined = λ l. then_joined past u there brought reads joins;
      }

    -- the whole exchange
    pub exchanges : (history : History) (document : k.Document) → document ≡ document_of k (events id history) → AtEach id (Answered k limit accepts id) history → ((before after : List Event) → events id history ≡ before ++ after → k.size (document_of k before) ≤ limit) → Exchanges k limit id history document
    exchanges history document held answered never before between after asked bytes room result out readings is part u hub there asks replied ms place others said up =
        let call : Told = told (handle bytes room) (handled result out) readings in
        let small : k.size (document_of k (events id before)) ≤ limit = never (events id before) (events id (asked ∷ (between ++ call ∷ after))) (ap (events id) is ∙ events_append id before (asked ∷ (between ++ call ∷ after))) in
        let asked_so = asked_vector limit lawful accepts id (events id before) small asked part (answered before asked (between ++ call ∷ after) is) asks in
        let update_is : u ≡ k.update there (k.vector (document_of k (events id before))) = replied_update hub part u there (k.vector (document_of k (events id before))) replied asked_so in
        let brings = (hub.lawful).brings there (document_of k (events id before)) (replied_small hub part u there replied) in
        let reads : k.reading u ≡ Ok brings.brought = ap k.reading update_is ∙ brings.readable in
        let here_so = answered (before ++ asked ∷ between) call after (is ∙ sym (append_assoc before (asked ∷ between) (call ∷ after))) in
        let results : result ≡ here_so.0 = let same = here_so.2 in cc in
        let outs : out ≡ here_so.1 = let same = here_so.2 in cc in
        let so : HandleAnswered k limit accepts id (events id (before ++ asked ∷ between)) bytes room readings result out =
        subst (λ r. HandleAnswered k limit accepts id (events id (before ++ asked ∷ between)) bytes room readings r out) (sym results)
        (subst (λ o. HandleAnswered k limit accepts id (events id (before ++ asked ∷ between)) bytes room readings here_so.0 o) (sym outs) here_so.3) in
        let more : List Event = events id (asked ∷ between) ++ events_in readings ms in
        let since : k.Document = all_joined k k.empty (updates k more) in
        let grown : document_of k (events id (before ++ asked ∷ between) ++ events_in readings ms) ≡ k.join (document_of k (events id before)) since =
        ap (λ l. document_of k (l ++ events_in readings ms)) (events_append id before (asked ∷ between))
        ∙ ap (document_of k) (append_assoc (events id before) (events id (asked ∷ between)) (events_in readings ms))
        ∙ document_append k (events id before) more
        ∙ joined_one k limit lawful (document_of k (events id before)) (updates k more) in
        let joins : k.join (document_of k (events id (before ++ asked ∷ between) ++ events_in readings ms)) brings.brought ≡ k.join (document_of k (events id (before ++ asked ∷ between) ++ events_in readings ms)) there =
        ap (λ d. k.join d brings.brought) grown ∙ brings_on k limit lawful (document_of k (events id before)) since there brings.brought brings.enough ∙ ap (λ d. k.join d there) (sym grown) in
        let ends : ((after ≡ []) × (count_in result ≡ suc (length ms))) → document ≡ document_of k ((events id (before ++ asked ∷ between) ++ events_in readings ms) ++ joined u ∷ []) = λ last.
        held ∙ ap (document_of k) (ap (events id) (is ∙ ap (λ l. before ++ asked ∷ (between ++ call ∷ l)) last.0 ∙ sym (append_assoc before (asked ∷ between) (call ∷ []))) ∙ events_more id (before ++ asked ∷ between) call
        ∙ last_done (events id (before ++ asked ∷ between)) bytes room readings result out so ms place u others said up there brings.brought reads joins last.1) in
        handed (events id (before ++ asked ∷ between)) bytes room readings result out so ms place u others said up there brings.brought reads joins ((after ≡ []) × (count_in result ≡ suc (length ms))) document ends
