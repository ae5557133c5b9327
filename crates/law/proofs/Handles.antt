-- The messages of a handle, one after another.
use Rattle.std.proofs.Common.{◌≡◌, ℕ, suc, ◌+◌, ◌-◌, Bool, true, false, List, [], ◌∷◌, ◌++◌, take, length, Ok, Err, Result, sym, refl, ap, ◌∙◌, subst, append-nil, append_assoc, arith}
use Rattle.message.specs.Message.{Said}
use Rattle.message.specs.Messages.{Ending, ended, cut, refused, messages}
use Rattle.document.specs.Kind.{Kind}
use Rattle.calls.specs.declared.fault.Fault.{Fault}
use Rattle.calls.specs.Handling.{Hub, Handling, Sofar, next_reading, after_reading, at_end, onward, each, one, handle}
use Rattle.law.specs.Events.{Event, said_events, is_presence, first_of, rest_if, events_in, left_after, count_in}
use Rattle.law.specs.Answers.{MessageAnswered, Done, said_of, replies_of, length_told, Ends, HandleAnswered}
use Rattle.law.proofs.Messages.{Kept, outcome, Leaves, one_so}

-- the front of a list that was put together
pub front_is : {X : Type 0} (xs ys : List X) → take (length xs) (xs ++ ys) ≡ xs
front_is [] ys = refl
front_is (x ∷ xs) ys = ap (λ l. x ∷ l) (front_is xs ys)

pub said_length : (ds : List Done) → length (said_of ds) ≡ length ds
said_length [] = refl
said_length (d ∷ ds) = let h = said_length ds in omega arith

module _ (k : Kind) (limit : ℕ) (accepts : Said → Bool) where
  next_is : (ns : List ℕ) → next_reading k limit accepts ns ≡ first_of ns
  next_is [] = refl
  next_is (n ∷ ns) = refl

  pub after_is : (b : Bool) (ns : List ℕ) → after_reading k limit accepts b ns ≡ rest_if b ns
  after_is false ns = refl
  after_is true [] = refl
  after_is true (n ∷ ns) = refl

  pub next_first : (ns : List ℕ) → next_reading k limit accepts ns ≡ first_of ns
  next_first ns = next_is ns

  -- what a row of messages comes to, after so many messages with such replies, with these readings to come
  pub record Row (own : ℕ) (ds : List Event) (room size : ℕ) (end : Ending) (count : ℕ) (outs : List ℕ) (ns : List ℕ) (ms : List (ℕ × Said)) (x : Handling k limit accepts) : Type 0 where
    pub dones : List Done
    pub rest : List (ℕ × Said)
    pub all : ms ≡ said_of dones ++ rest
    pub counted : count_in x.answer ≡ count + length dones
    pub replies : x.replies ≡ outs ++ replies_of dones
    pub long : length_told x.answer ≡ length x.replies
    pub each_so : (before : List Done) (d : Done) (after : List Done) → dones ≡ before ++ d ∷ after
        → MessageAnswered k limit accepts own (ds ++ events_in ns (said_of before)) (room - length (outs ++ replies_of before)) d.message.1 (Ok d.reply)
    pub ends : Ends k limit accepts own (ds ++ events_in ns (said_of dones)) (room - length (outs ++ replies_of dones)) size end rest x.answer
    pub kept : Kept k limit accepts own (ds ++ events_in ns (said_of dones)) x.hub
    pub left : x.left ≡ left_after ns (said_of dones)

  module _ (own room size : ℕ) (end : Ending) where
    -- no message is left
    none_before : (before : List Done) (d : Done) (after : List Done) → [] ≡ before ++ d ∷ after → ⊥
    none_before [] d after is = cc
    none_before (b ∷ before) d after is = cc

    -- nothing is done any more
    stops : (ds : List Event) (count : ℕ) (outs ns : List ℕ) (ms : List (ℕ × Said)) (x : Handling k limit accepts)
        → Kept k limit accepts own ds x.hub → count_in x.answer ≡ count → x.replies ≡ outs → length_told x.answer ≡ length x.replies → x.left ≡ ns
        → Ends k limit accepts own ds (room - length outs) size end ms x.answer
        → Row own ds room size end count outs ns ms x
    stops ds count outs ns ms x kept counted replies long left ends = record {
      dones = [];
      rest = ms;
      all = refl;
      counted = omega arith;
      replies = replies ∙ sym (append-nil outs);
      long = long;
      each_so = λ before d after is. absurd (none_before before d after is);
      ends =
          subst (λ l. Ends k limit accepts own l (room - length (outs ++ [])) size end ms x.answer) (sym (append-nil ds))
          (subst (λ l. Ends k limit accepts own ds (room - length l) size end ms x.answer) (sym (append-nil outs)) ends);
      kept = subst (λ l. Kept k limit accepts own l x.hub) (sym (append-nil ds)) kept;
      left = left;
    }

  module _ (own room size : ℕ) where
    at_its_end : (end : Ending) (ds : List Event) (s : Sofar k limit accepts) → Kept k limit accepts own ds s.hub → Row own ds room size end s.count s.replies s.readings [] (at_end k limit accepts size s end)
    at_its_end ended ds s was = stops own room size ended ds s.count s.replies s.readings [] (at_end k limit accepts size s ended) was refl refl refl refl refl
    at_its_end (cut place) ds s was = stops own room size (cut place) ds s.count s.replies s.readings [] (at_end k limit accepts size s (cut place)) was refl refl refl refl refl
    at_its_end (refused place f) ds s was = stops own room size (refused place f) ds s.count s.replies s.readings [] (at_end k limit accepts size s (refused place f)) was refl refl refl refl (f, refl, refl)

  module _ (own room size : ℕ) (end : Ending) where
    -- a message more in front
    module _ (ds : List Event) (count : ℕ) (outs ns : List ℕ) (m : ℕ × Said) (reply : List ℕ) (ms : List (ℕ × Said)) (x : Handling k limit accepts)
        (here : MessageAnswered k limit accepts own ds (room - length outs) m.1 (Ok reply))
        (r : Row own (ds ++ said_events (first_of ns) m.1) room size end (suc count) (outs ++ reply) (rest_if (is_presence m.1) ns) ms x) where
      abbrev first_done : Done
      first_done = record { message = m; reply = reply }

      events_on : (before : List Done) → (ds ++ said_events (first_of ns) m.1) ++ events_in (rest_if (is_presence m.1) ns) (said_of before) ≡ ds ++ events_in ns (said_of (first_done ∷ before))
      events_on before = append_assoc ds (said_events (first_of ns) m.1) (events_in (rest_if (is_presence m.1) ns) (said_of before))

      replies_on : (before : List Done) → (outs ++ reply) ++ replies_of before ≡ outs ++ replies_of (first_done ∷ before)
      replies_on before = append_assoc outs reply (replies_of before)

      each_done : (before : List Done) (d : Done) (after : List Done) → first_done ∷ r.dones ≡ before ++ d ∷ after
          → MessageAnswered k limit accepts own (ds ++ events_in ns (said_of before)) (room - length (outs ++ replies_of before)) d.message.1 (Ok d.reply)
      each_done [] d after is =
          let same : first_done ≡ d = cc in
          subst (λ (e : Done). MessageAnswered k limit accepts own (ds ++ []) (room - length (outs ++ [])) e.message.1 (Ok e.reply)) same
          (subst (λ l. MessageAnswered k limit accepts own l (room - length (outs ++ [])) m.1 (Ok reply)) (sym (append-nil ds))
          (subst (λ l. MessageAnswered k limit accepts own ds (room - length l) m.1 (Ok reply)) (sym (append-nil outs)) here))
      each_done (b ∷ before) d after is =
          let same : first_done ≡ b = cc in
          let more : r.dones ≡ before ++ d ∷ after = cc in
          subst (λ (e : Done). MessageAnswered k limit accepts own (ds ++ events_in ns (said_of (e ∷ before))) (room - length (outs ++ replies_of (e ∷ before))) d.message.1 (Ok d.reply)) same
          (subst (λ l. MessageAnswered k limit accepts own l (room - length (outs ++ replies_of (first_done ∷ before))) d.message.1 (Ok d.reply)) (events_on before)
          (subst (λ l. MessageAnswered k limit accepts own ((ds ++ said_events (first_of ns) m.1) ++ events_in (rest_if (is_presence m.1) ns) (said_of before)) (room - length l) d.message.1 (Ok d.reply)) (replies_on before)
          (r.each_so before d after more)))

      goes_on : Row own ds room size end count outs ns (m ∷ ms) x
      goes_on = record {
        dones = first_done ∷ r.dones;
        rest = r.rest;
        all = ap (λ l. m ∷ l) r.all;
        counted = let h = r.counted in omega arith;
        replies = r.replies ∙ replies_on r.dones;
        long = r.long;
        each_so = each_done;
        ends =
            subst (λ l. Ends k limit accepts own l (room - length (outs ++ replies_of (first_done ∷ r.dones))) size end r.rest x.answer) (events_on r.dones)
            (subst (λ l. Ends k limit accepts own ((ds ++ said_events (first_of ns) m.1) ++ events_in (rest_if (is_presence m.1) ns) (said_of r.dones)) (room - length l) size end r.rest x.answer) (replies_on r.dones)
            r.ends);
        kept = subst (λ l. Kept k limit accepts own l x.hub) (events_on r.dones) r.kept;
        left = r.left;
      }

    onward_so : (ds : List Event) (s : Sofar k limit accepts) (m : ℕ × Said) (ms : List (ℕ × Said)) (go : Sofar k limit accepts → Handling k limit accepts)
        → ((es : List Event) (t : Sofar k limit accepts) → Kept k limit accepts own es t.hub → Row own es room size end t.count t.replies t.readings ms (go t))
        → (v : Result (Unit {0}) Fault) (hub : Hub k) (reply : List ℕ) (reads : Bool)
        → MessageAnswered k limit accepts own ds (room - length s.replies) m.1 (outcome k limit accepts v reply)
        → Leaves k limit accepts own ds (first_of s.readings) m.1 v hub reads
        → Row own ds room size end s.count s.replies s.readings (m ∷ ms) (onward k limit accepts go s m.0 (record { verdict = v; hub = hub; reply = reply; reads = reads }))
    onward_so ds s m ms go later (Ok u) hub reply reads answered leaves =
        let t : Sofar k limit accepts = record { count = suc s.count; hub = hub; replies = s.replies ++ reply; readings = after_reading k limit accepts reads s.readings } in
        let r = later (ds ++ said_events (first_of s.readings) m.1) t leaves.0 in
        let ns : after_reading k limit accepts reads s.readings ≡ rest_if (is_presence m.1) s.readings = after_is reads s.readings ∙ ap (λ b. rest_if b s.readings) leaves.1 in
        goes_on ds s.count s.replies s.readings m reply ms (go t) answered (subst (λ l. Row own (ds ++ said_events (first_of s.readings) m.1) room size end (suc s.count) (s.replies ++ reply) l ms (go t)) ns r)
    onward_so ds s m ms go later (Err f) hub reply reads answered leaves =
        stops own room size end ds s.count s.replies s.readings (m ∷ ms) (record { answer = Err (record { fault = f; message = s.count; place = m.0; replies = length s.replies }); hub = hub; replies = s.replies; left = s.readings })
        leaves refl refl refl refl (refl, answered)

    row_so : (ms : List (ℕ × Said)) (ds : List Event) (s : Sofar k limit accepts) → Kept k limit accepts own ds s.hub → Row own ds room size end s.count s.replies s.readings ms (each k limit accepts room size end ms s)
    row_so [] ds s was = at_its_end own room size end ds s was
    row_so (m ∷ ms) ds s was =
        let step = one k limit accepts (room - length s.replies) (next_reading k limit accepts s.readings) s.hub m.1 in
        let so = one_so k limit accepts own ds s.hub was (room - length s.replies) (next_reading k limit accepts s.readings) m.1 in
        onward_so ds s m ms (each k limit accepts room size end ms) (row_so ms) step.verdict step.hub step.reply step.reads
        so.answered
        (subst (λ n. Leaves k limit accepts own ds n m.1 step.verdict step.hub step.reads) (next_is s.readings) so.leaves)

  module _ (own : ℕ) (ds : List Event) (h : Hub k) (was : Kept k limit accepts own ds h) (room : ℕ) (ns bytes : List ℕ) where
    abbrev handling : Handling k limit accepts
    handling = handle k limit accepts room ns h bytes

    pub all_so : Row own ds room (length bytes) (messages bytes).end 0 [] ns (messages bytes).said handling
    all_so = row_so own room (length bytes) (messages bytes).end (messages bytes).said ds (record { count = 0; hub = h; replies = []; readings = ns }) was

    -- what it tells
    pub handle_answered : HandleAnswered k limit accepts own ds bytes room ns handling.answer handling.replies
    handle_answered = record {
      dones = all_so.dones;
      rest = all_so.rest;
      all = all_so.all;
      counted = let c = all_so.counted in omega arith;
      replies = all_so.replies;
      long = all_so.long;
      each = all_so.each_so;
      ends = all_so.ends;
    }

    -- the messages that are done, by their number
    pub dones_are : take (count_in handling.answer) (messages bytes).said ≡ said_of all_so.dones
    dones_are =
        let c : count_in handling.answer ≡ length (said_of all_so.dones) = let h = all_so.counted in omega (arith, said_length all_so.dones) in
        ap (λ n. take n (messages bytes).said) c ∙ ap (take (length (said_of all_so.dones))) all_so.all ∙ front_is (said_of all_so.dones) all_so.rest
