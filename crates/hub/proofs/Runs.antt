-- A run, call after call: what is told so far stays told, and one call more is told past it.
use Rattle.std.proofs.Common.{◌≡◌, ℕ, ◌+◌, ◌-◌, ◌≤◌, ◌<◌, Bool, ◌&&◌, List, [], ◌∷◌, ◌++◌, take, drop, set, get_or, length, sym, refl, ap, ◌∙◌, subst, arith, append-nil, length-append, length-take, length-drop}
use Rattle.std.specs.Prelude.{nat_le}
use borrow.Rule.Slice.PartMut.{mid_of, put_mid}
use Rattle.std.proofs.Math.Seq.{take-append_seam, drop-append_seam, drop-length}
use Rattle.std.proofs.lemmas.List.{drop-drop, take-take, drop-take, drop-set-lt, length-set, take_more, take_more_set, take_all}
use Rattle.message.specs.Message.{Said}
use Rattle.awareness.specs.declared.summary.AwarenessUpdateSummary.{AwarenessUpdateSummary}
use Rattle.document.specs.Kind.{Kind, Lawful}
use Rattle.calls.specs.Handling.{Hub}
use Rattle.law.specs.Words.{Told, History, handle, apply, step1, start, list, handled, applied, written}
use Rattle.law.specs.Law.{Law}
use Rattle.law.proofs.Keeping.{same_verdicts_same_law}
use Rattle.hub.specs.declared.run.Answer.{Answer}
use Rattle.hub.specs.declared.run.Answer.TheVariants.{Handled as HandledSo, Applied, Done, Written, Shown, Refused}
use Rattle.hub.specs.declared.run.Call.{Call}
use Rattle.hub.specs.declared.run.Call.TheVariants.{Handle, Apply, Set, Clean, Remove, Step1, Start, Show, List as ListOf}
use Rattle.hub.specs.Lawful.{Keeps}
use Rattle.hub.specs.Running.{Places, Ran, no_clients, bytes_in, clients_in, past, after, asked, told_answer, CallTold, AllTold, BeyondOf, Beyond, all_bytes, more_clients, all_clients}
use Rattle.hub.proofs.Called.{untouched}

-- one list
module _ {X : Type 0} where
  -- it has as many as before, and so many at the front are the same
  pub record Front (n : ℕ) (here there : List X) : Type 0 where
    pub long : length there ≡ length here
    pub same : take n there ≡ take n here

  front_less : (n m : ℕ) (here there : List X) → Front (n + m) here there → Front n here there
  front_less n m here there f = record {
    long = f.long;
    same = sym (take-take n (n + m) there (omega arith)) ∙ ap (take n) f.same ∙ take-take n (n + m) here (omega arith);
  }

  front_past : (n m : ℕ) (here there : List X) → Front (n + m) here there → Front m (drop n here) (drop n there)
  front_past n m here there f = record {
    long = length-drop n there ∙ ap (λ l. l - n) f.long ∙ sym (length-drop n here);
    same = sym (drop-take n m there) ∙ ap (drop n) f.same ∙ drop-take n m here;
  }

  -- where only what is past n was changed
  module _ (n : ℕ) (here there part : List X) (fits : n ≤ length here) (is : there ≡ take n here ++ part) where
    front_long : length (take n here) ≡ n
    front_long = let t = length-take n here in omega (arith, t, fits)

    pub past_is : drop n there ≡ part
    past_is = ap (drop n) is ∙ ap (λ i. drop i (take n here ++ part)) (sym front_long) ∙ drop-append_seam (take n here) part

    pub front_kept : length part ≡ length (drop n here) → Front n here there
    front_kept long = record {
      long = (let a = ap length is in let b = length-append (take n here) part in let d = length-drop n here in let t = front_long in omega (arith, a, b, d, t, fits, long));
      same = ap (take n) is ∙ ap (λ i. take i (take n here ++ part)) (sym front_long) ∙ take-append_seam (take n here) part;
    }

  -- past what was told so far, and past what is told now, all is as it was
  pub beyond_more : (n m : ℕ) (old here there part : List X) → BeyondOf n old here → there ≡ take n here ++ part → BeyondOf m (drop n here) part → BeyondOf (n + m) old there
  beyond_more n m old here there part b is p =
      let fits : n ≤ length here = let l = b.long in let f = b.fits in omega arith in
      record {
        fits = (let l = b.long in let f = p.fits in let g = b.fits in let d = length-drop n here in omega arith);
        same = sym (drop-drop m n there) ∙ ap (drop m) (past_is n here there part fits is) ∙ p.same ∙ ap (drop m) b.same ∙ drop-drop m n old;
        long = (front_kept n here there part fits is p.long).long ∙ b.long;
      }

-- all places
pub record FrontAll (n : ℕ) (c : AwarenessUpdateSummary) (here there : Places) : Type 0 where
  pub bytes : Front n here.bytes there.bytes
  pub added : Front c.added here.lists.added there.lists.added
  pub updated : Front c.updated here.lists.updated there.lists.updated
  pub changed : Front c.changed here.lists.changed there.lists.changed
  pub removed : Front c.removed here.lists.removed there.lists.removed

all_less : (n m : ℕ) (c d : AwarenessUpdateSummary) (here there : Places) → FrontAll (n + m) (more_clients c d) here there → FrontAll n c here there
all_less n m c d here there f = record {
  bytes = front_less n m here.bytes there.bytes f.bytes;
  added = front_less c.added d.added here.lists.added there.lists.added f.added;
  updated = front_less c.updated d.updated here.lists.updated there.lists.updated f.updated;
  changed = front_less c.changed d.changed here.lists.changed there.lists.changed f.changed;
  removed = front_less c.removed d.removed here.lists.removed there.lists.removed f.removed;
}

all_past : (n m : ℕ) (c d : AwarenessUpdateSummary) (here there : Places) → FrontAll (n + m) (more_clients c d) here there → FrontAll m d (past n c here) (past n c there)
all_past n m c d here there f = record {
  bytes = front_past n m here.bytes there.bytes f.bytes;
  added = front_past c.added d.added here.lists.added there.lists.added f.added;
  updated = front_past c.updated d.updated here.lists.updated there.lists.updated f.updated;
  changed = front_past c.changed d.changed here.lists.changed there.lists.changed f.changed;
  removed = front_past c.removed d.removed here.lists.removed there.lists.removed f.removed;
}

pub places_same : (l m : Places) → l.bytes ≡ m.bytes → l.lists.added ≡ m.lists.added → l.lists.updated ≡ m.lists.updated → l.lists.changed ≡ m.lists.changed → l.lists.removed ≡ m.lists.removed → l ≡ m
places_same l m a b c d e =
    ap (λ x. record { bytes = x; lists = l.lists }) a
    ∙ ap (λ x. record { bytes = m.bytes; lists = record { added = x; updated = l.lists.updated; changed = l.lists.changed; removed = l.lists.removed } }) b
    ∙ ap (λ x. record { bytes = m.bytes; lists = record { added = m.lists.added; updated = x; changed = l.lists.changed; removed = l.lists.removed } }) c
    ∙ ap (λ x. record { bytes = m.bytes; lists = record { added = m.lists.added; updated = m.lists.updated; changed = x; removed = l.lists.removed } }) d
    ∙ ap (λ x. record { bytes = m.bytes; lists = record { added = m.lists.added; updated = m.lists.updated; changed = m.lists.changed; removed = x } }) e

past_past : (n m : ℕ) (c d : AwarenessUpdateSummary) (l : Places) → past m d (past n c l) ≡ past (n + m) (more_clients c d) l
past_past n m c d l = places_same (past m d (past n c l)) (past (n + m) (more_clients c d) l) (drop-drop m n l.bytes) (drop-drop d.added c.added l.lists.added) (drop-drop d.updated c.updated l.lists.updated) (drop-drop d.changed c.changed l.lists.changed) (drop-drop d.removed c.removed l.lists.removed)

-- what is asked depends on the lengths alone
asked_front : (n : ℕ) (s : AwarenessUpdateSummary) (c : Call) (here there : Places) → FrontAll n s here there → asked c there ≡ asked c here
asked_front n s (Handle bytes) here there f = ap (handle bytes.now) f.bytes.long
asked_front n s (Apply update) here there f =
    ap (λ i. apply update.now (nat_le 64 i && (nat_le 64 (length there.lists.updated) && (nat_le 64 (length there.lists.changed) && nat_le 64 (length there.lists.removed))))) f.added.long
    ∙ ap (λ i. apply update.now (nat_le 64 (length here.lists.added) && (nat_le 64 i && (nat_le 64 (length there.lists.changed) && nat_le 64 (length there.lists.removed))))) f.updated.long
    ∙ ap (λ i. apply update.now (nat_le 64 (length here.lists.added) && (nat_le 64 (length here.lists.updated) && (nat_le 64 i && nat_le 64 (length there.lists.removed))))) f.changed.long
    ∙ ap (λ i. apply update.now (nat_le 64 (length here.lists.added) && (nat_le 64 (length here.lists.updated) && (nat_le 64 (length here.lists.changed) && nat_le 64 i)))) f.removed.long
asked_front n s (Set text) here there f = refl
asked_front n s Clean here there f = refl
asked_front n s (Remove client) here there f = refl
asked_front n s Step1 here there f = ap step1 f.bytes.long
asked_front n s Start here there f = ap start f.bytes.long
asked_front n s (Show client) here there f = refl
asked_front n s (ListOf clients) here there f = ap (list clients.now) f.bytes.long

-- and what is told on what stands at the front
told_front : (a : Answer) (here there : Places) → FrontAll (bytes_in a) (clients_in a) here there → told_answer a there ≡ told_answer a here
told_front (HandledSo r) here there f = ap (handled r) f.bytes.same
told_front (Applied n) here there f =
    ap (λ x. applied (record { added = x; updated = take n.updated there.lists.updated; changed = take n.changed there.lists.changed; removed = take n.removed there.lists.removed })) f.added.same
    ∙ ap (λ x. applied (record { added = take n.added here.lists.added; updated = x; changed = take n.changed there.lists.changed; removed = take n.removed there.lists.removed })) f.updated.same
    ∙ ap (λ x. applied (record { added = take n.added here.lists.added; updated = take n.updated here.lists.updated; changed = x; removed = take n.removed there.lists.removed })) f.changed.same
    ∙ ap (λ x. applied (record { added = take n.added here.lists.added; updated = take n.updated here.lists.updated; changed = take n.changed here.lists.changed; removed = x })) f.removed.same
told_front Done here there f = refl
told_front (Written n) here there f = ap written f.bytes.same
told_front (Shown o) here there f = refl
told_front (Refused x) here there f = refl

module _ {C : Type 0} (next : C → ℕ) (leads : C → C → Type 0) where
  -- what is told stays told while the front stays
  pub all_told_front : (cs : List Call) (answers : List Answer) (here there : Places) (k : C) (h : History) (m : C) → FrontAll (all_bytes answers) (all_clients answers) here there → AllTold next leads cs answers here k h m → AllTold next leads cs answers there k h m
  all_told_front [] [] here there k h m f t = t
  all_told_front [] (a ∷ more) here there k h m f t = t
  all_told_front (c ∷ cs) [] here there k h m f t = t
  all_told_front (c ∷ cs) (a ∷ more) here there k h m f (t, middle, rest, is, one, others) =
      let front : FrontAll (bytes_in a) (clients_in a) here there = all_less (bytes_in a) (all_bytes more) (clients_in a) (all_clients more) here there f in (
        t,
        middle,
        rest,
        is,
        record { call = one.call ∙ sym (asked_front (bytes_in a) (clients_in a) c here there front); answer = one.answer ∙ sym (told_front a here there front); readings = one.readings },
        all_told_front cs more (after a here) (after a there) middle rest m (all_past (bytes_in a) (all_bytes more) (clients_in a) (all_clients more) here there f) others,
      )

  -- one call more is told past what was told so far
  pub all_told_more : (cs : List Call) (answers : List Answer) (l : Places) (k : C) (h : History) (m : C) (c : Call) (a : Answer) (then : C) (t : Told)
      → AllTold next leads cs answers l k h m → CallTold next leads c a (past (all_bytes answers) (all_clients answers) l) m then t
      → AllTold next leads (cs ++ c ∷ []) (answers ++ a ∷ []) l k (h ++ t ∷ []) then
  all_told_more [] [] l k h m c a then t told one = (t, then, [], ap (λ x. x ++ t ∷ []) told.0, subst (λ x. CallTold next leads c a l x then t) told.1 one, (refl, refl))
  all_told_more [] (b ∷ more) l k h m c a then t told one = absurd told
  all_told_more (d ∷ cs) [] l k h m c a then t told one = absurd told
  all_told_more (d ∷ cs) (b ∷ more) l k h m c a then t (u, middle, rest, is, first, others) one = (
    u,
    middle,
    rest ++ t ∷ [],
    ap (λ x. x ++ t ∷ []) is,
    first,
    all_told_more cs more (after b l) middle rest m c a then t others (subst (λ p. CallTold next leads c a p m then t) (sym (past_past (bytes_in b) (all_bytes more) (clients_in b) (all_clients more) l)) one),
  )

summary_same : (a b : AwarenessUpdateSummary) → a.added ≡ b.added → a.updated ≡ b.updated → a.changed ≡ b.changed → a.removed ≡ b.removed → a ≡ b
summary_same a b w x y z =
    ap (λ i. record { added = i; updated = a.updated; changed = a.changed; removed = a.removed }) w
    ∙ ap (λ i. record { added = b.added; updated = i; changed = a.changed; removed = a.removed }) x
    ∙ ap (λ i. record { added = b.added; updated = b.updated; changed = i; removed = a.removed }) y
    ∙ ap (λ i. record { added = b.added; updated = b.updated; changed = b.changed; removed = i }) z

-- how much belongs to one answer more
pub bytes_more : (answers : List Answer) (a : Answer) → all_bytes (answers ++ a ∷ []) ≡ all_bytes answers + bytes_in a
bytes_more [] a = omega arith
bytes_more (b ∷ more) a = let r = bytes_more more a in omega arith

pub clients_more : (answers : List Answer) (a : Answer) → all_clients (answers ++ a ∷ []) ≡ more_clients (all_clients answers) (clients_in a)
clients_more [] a = summary_same (more_clients (clients_in a) no_clients) (more_clients no_clients (clients_in a)) (omega arith) (omega arith) (omega arith) (omega arith)
clients_more (b ∷ more) a =
    ap (more_clients (clients_in b)) (clients_more more a)
    ∙ summary_same (more_clients (clients_in b) (more_clients (all_clients more) (clients_in a))) (more_clients (more_clients (clients_in b) (all_clients more)) (clients_in a)) (omega arith) (omega arith) (omega arith) (omega arith)

module _ {C : Type 0} (next : C → ℕ) (leads : C → C → Type 0) (k : Kind) (limit : ℕ) (first : Said → Bool) (own : ℕ) (calls : List Call) (clock : C) (empty : List Answer) (old : Places) where
  -- the first calls of a run are made: the law holds of what is told, and so much belongs to it
  pub record Sofar (i n : ℕ) (c : AwarenessUpdateSummary) (answers : List Answer) (here : Places) (hub : Hub k) (now : C) (accepts : Said → Bool) : Type 0 where
    pub ran : Ran next leads k limit accepts own (take i calls) clock (take i answers) old here hub now
    pub same : (m : Said) → accepts m ≡ first m
    pub bytes : n ≡ all_bytes (take i answers)
    pub clients : c ≡ all_clients (take i answers)
    pub left : drop i answers ≡ drop i empty
    pub long : length answers ≡ length empty

  -- none is made yet
  pub none_made : (hub : Hub k) → Law k limit first own [] hub → Sofar 0 0 no_clients empty old hub clock first
  none_made hub law = record {
    ran = record { history = []; told = (refl, refl); law = law; beyond = record { bytes = untouched old.bytes; added = untouched old.lists.added; updated = untouched old.lists.updated; changed = untouched old.lists.changed; removed = untouched old.lists.removed } };
    same = λ m. refl;
    bytes = refl;
    clients = refl;
    left = refl;
    long = refl;
  }

  -- one call more
  module _ (i n : ℕ) (c : AwarenessUpdateSummary) (answers : List Answer) (here : Places) (hub : Hub k) (now : C) (accepts : Said → Bool) (s : Sofar i n c answers here hub now accepts)
      (call : Call) (a : Answer) (there part : Places) (hub_then : Hub k) (then : C) (also : Said → Bool)
      (made : Keeps k limit accepts also (CallTold next leads call a part now then) hub hub_then)
      (beyond : Beyond (bytes_in a) (clients_in a) (past n c here) part)
      (bytes_are : there.bytes ≡ take n here.bytes ++ part.bytes)
      (added_are : there.lists.added ≡ take c.added here.lists.added ++ part.lists.added)
      (updated_are : there.lists.updated ≡ take c.updated here.lists.updated ++ part.lists.updated)
      (changed_are : there.lists.changed ≡ take c.changed here.lists.changed ++ part.lists.changed)
      (removed_are : there.lists.removed ≡ take c.removed here.lists.removed ++ part.lists.removed) where
    abbrev before : List Answer
    before = take i answers

    b : Beyond n c old here
    b = subst (λ d. Beyond n d old here) (sym s.clients) (subst (λ m. Beyond m (all_clients before) old here) (sym s.bytes) s.ran.beyond)

    fits_of : {X : Type 0} (m : ℕ) (was xs : List X) → BeyondOf m was xs → m ≤ length xs
    fits_of m was xs x = let l = x.long in let f = x.fits in omega arith

    front : FrontAll n c here there
    front = record {
      bytes = front_kept n here.bytes there.bytes part.bytes (fits_of n old.bytes here.bytes b.bytes) bytes_are beyond.bytes.long;
      added = front_kept c.added here.lists.added there.lists.added part.lists.added (fits_of c.added old.lists.added here.lists.added b.added) added_are beyond.added.long;
      updated = front_kept c.updated here.lists.updated there.lists.updated part.lists.updated (fits_of c.updated old.lists.updated here.lists.updated b.updated) updated_are beyond.updated.long;
      changed = front_kept c.changed here.lists.changed there.lists.changed part.lists.changed (fits_of c.changed old.lists.changed here.lists.changed b.changed) changed_are beyond.changed.long;
      removed = front_kept c.removed here.lists.removed there.lists.removed part.lists.removed (fits_of c.removed old.lists.removed here.lists.removed b.removed) removed_are beyond.removed.long;
    }

    part_is : past n c there ≡ part
    part_is = places_same (past n c there) part
        (past_is n here.bytes there.bytes part.bytes (fits_of n old.bytes here.bytes b.bytes) bytes_are)
        (past_is c.added here.lists.added there.lists.added part.lists.added (fits_of c.added old.lists.added here.lists.added b.added) added_are)
        (past_is c.updated here.lists.updated there.lists.updated part.lists.updated (fits_of c.updated old.lists.updated here.lists.updated b.updated) updated_are)
        (past_is c.changed here.lists.changed there.lists.changed part.lists.changed (fits_of c.changed old.lists.changed here.lists.changed b.changed) changed_are)
        (past_is c.removed here.lists.removed there.lists.removed part.lists.removed (fits_of c.removed old.lists.removed here.lists.removed b.removed) removed_are)

    then_beyond : Beyond (n + bytes_in a) (more_clients c (clients_in a)) old there
    then_beyond = record {
      bytes = beyond_more n (bytes_in a) old.bytes here.bytes there.bytes part.bytes b.bytes bytes_are beyond.bytes;
      added = beyond_more c.added (clients_in a).added old.lists.added here.lists.added there.lists.added part.lists.added b.added added_are beyond.added;
      updated = beyond_more c.updated (clients_in a).updated old.lists.updated here.lists.updated there.lists.updated part.lists.updated b.updated updated_are beyond.updated;
      changed = beyond_more c.changed (clients_in a).changed old.lists.changed here.lists.changed there.lists.changed part.lists.changed b.changed changed_are beyond.changed;
      removed = beyond_more c.removed (clients_in a).removed old.lists.removed here.lists.removed there.lists.removed part.lists.removed b.removed removed_are beyond.removed;
    }

    told_then : AllTold next leads (take i calls ++ call ∷ []) (before ++ a ∷ []) there clock (s.ran.history ++ made.told ∷ []) then
    told_then =
        all_told_more next leads (take i calls) before there clock s.ran.history now call a then made.told
        (all_told_front next leads (take i calls) before here there clock s.ran.history now (subst (λ d. FrontAll (all_bytes before) d here there) s.clients (subst (λ m. FrontAll m c here there) s.bytes front)) s.ran.told)
        (subst (λ p. CallTold next leads call a p now then made.told) (sym part_is ∙ ap (λ m. past m c there) s.bytes ∙ ap (λ d. past (all_bytes before) d there) s.clients) made.tells)

    bytes_then : n + bytes_in a ≡ all_bytes (before ++ a ∷ [])
    bytes_then = ap (λ m. m + bytes_in a) s.bytes ∙ sym (bytes_more before a)

    clients_then : more_clients c (clients_in a) ≡ all_clients (before ++ a ∷ [])
    clients_then = ap (λ d. more_clients d (clients_in a)) s.clients ∙ sym (clients_more before a)

    -- the answer is noted at its place
    pub one_more_made : (d : Call) → i < length calls → get_or calls i d ≡ call → i < length answers → ((m : Said) → also m ≡ accepts m) → (noted : List Answer) → noted ≡ set answers i a → (j : ℕ) → j ≡ i + 1 → Sofar j (n + bytes_in a) (more_clients c (clients_in a)) noted there hub_then then also
    one_more_made d below is place verdicts noted noted_is j j_is = subst (λ x. Sofar x (n + bytes_in a) (more_clients c (clients_in a)) noted there hub_then then also) (sym j_is) (subst (λ x. Sofar (i + 1) (n + bytes_in a) (more_clients c (clients_in a)) x there hub_then then also) (sym noted_is) made_so) where
      calls_are : take i calls ++ call ∷ [] ≡ take (i + 1) calls
      calls_are = ap (λ x. take i calls ++ x ∷ []) (sym is) ∙ sym (take_more calls i d below)

      answers_are : before ++ a ∷ [] ≡ take (i + 1) (set answers i a)
      answers_are = sym (take_more_set answers i a place)

      made_so : Sofar (i + 1) (n + bytes_in a) (more_clients c (clients_in a)) (set answers i a) there hub_then then also
      made_so = record {
        ran = record {
          history = s.ran.history ++ made.told ∷ [];
          told = subst (λ x. AllTold next leads x (take (i + 1) (set answers i a)) there clock (s.ran.history ++ made.told ∷ []) then) calls_are (subst (λ x. AllTold next leads (take i calls ++ call ∷ []) x there clock (s.ran.history ++ made.told ∷ []) then) answers_are told_then);
          law = made.goes_on own s.ran.history s.ran.law;
          beyond = subst (λ x. Beyond (all_bytes x) (all_clients x) old there) answers_are (subst (λ x. Beyond (all_bytes (before ++ a ∷ [])) x old there) clients_then (subst (λ m. Beyond m (more_clients c (clients_in a)) old there) bytes_then then_beyond));
        };
        same = λ m. verdicts m ∙ s.same m;
        bytes = bytes_then ∙ ap all_bytes answers_are;
        clients = clients_then ∙ ap all_clients answers_are;
        left = drop-set-lt (i + 1) answers i a (omega arith) ∙ sym (drop-drop 1 i answers) ∙ ap (drop 1) s.left ∙ drop-drop 1 i empty;
        long = length-set answers i a ∙ s.long;
      }

  -- all are made
  pub all_made : (i n : ℕ) (c : AwarenessUpdateSummary) (answers : List Answer) (there : Places) (hub : Hub k) (then : C) (accepts : Said → Bool) → Lawful k limit → i ≡ length calls → Sofar i n c answers there hub then accepts
      → Ran next leads k limit first own calls clock (take (length calls) answers) old there hub then
  all_made i n c answers there hub then accepts lawful all s =
      subst (λ x. Ran next leads k limit first own x clock (take (length calls) answers) old there hub then) (take_all (length calls) calls (omega arith))
      (subst (λ x. Ran next leads k limit first own (take x calls) clock (take x answers) old there hub then) all
      (record { history = s.ran.history; told = s.ran.told; law = same_verdicts_same_law k limit accepts first own s.ran.history hub (λ m. sym (s.same m)) s.ran.law; beyond = s.ran.beyond }))

-- a slice from a place on, as it is lent and given back
module _ {X : Type 0} (n : ℕ) (xs : List X) where
  pub lent_part : mid_of n (length xs - n) xs ≡ drop n xs
  lent_part = take_all (length xs - n) (drop n xs) (let d = length-drop n xs in omega (arith, d))

  pub given_part : (ys : List X) → put_mid n (length xs - n) xs ys ≡ take n xs ++ ys
  given_part ys = ap (λ d. take n xs ++ (ys ++ d)) (ap (λ k. drop k (drop n xs)) (sym (length-drop n xs)) ∙ drop-length (drop n xs)) ∙ ap (λ l. take n xs ++ l) (append-nil ys)

-- the places, of which parts were lent to a call and given back
abbrev parts_lent : ℕ → AwarenessUpdateSummary → Places → Places
parts_lent n c here = record {
  bytes = mid_of n (length here.bytes - n) here.bytes;
  lists = record {
    added = mid_of c.added (length here.lists.added - c.added) here.lists.added;
    updated = mid_of c.updated (length here.lists.updated - c.updated) here.lists.updated;
    changed = mid_of c.changed (length here.lists.changed - c.changed) here.lists.changed;
    removed = mid_of c.removed (length here.lists.removed - c.removed) here.lists.removed;
  };
}

abbrev parts_given : ℕ → AwarenessUpdateSummary → Places → Places → Places
parts_given n c here part = record {
  bytes = put_mid n (length here.bytes - n) here.bytes part.bytes;
  lists = record {
    added = put_mid c.added (length here.lists.added - c.added) here.lists.added part.lists.added;
    updated = put_mid c.updated (length here.lists.updated - c.updated) here.lists.updated part.lists.updated;
    changed = put_mid c.changed (length here.lists.changed - c.changed) here.lists.changed part.lists.changed;
    removed = put_mid c.removed (length here.lists.removed - c.removed) here.lists.removed part.lists.removed;
  };
}

parts_past : (n : ℕ) (c : AwarenessUpdateSummary) (here : Places) → parts_lent n c here ≡ past n c here
parts_past n c here = places_same (parts_lent n c here) (past n c here) (lent_part n here.bytes) (lent_part c.added here.lists.added) (lent_part c.updated here.lists.updated) (lent_part c.changed here.lists.changed) (lent_part c.removed here.lists.removed)

-- one turn of a run's loop
module _ {C : Type 0} (next : C → ℕ) (leads : C → C → Type 0) (k : Kind) (limit : ℕ) (first : Said → Bool) (own : ℕ) (calls : List Call) (clock : C) (empty : List Answer) (old : Places) where
  pub record Turned (i n : ℕ) (c : AwarenessUpdateSummary) (answers : List Answer) (there : Places) (hub : Hub k) (now : C) (accepts : Said → Bool) : Type 0 where
    pub so_far : Sofar next leads k limit first own calls clock empty old i n c answers there hub now accepts
    pub bytes : n ≤ length there.bytes
    pub added : c.added ≤ length there.lists.added
    pub updated : c.updated ≤ length there.lists.updated
    pub changed : c.changed ≤ length there.lists.changed
    pub removed : c.removed ≤ length there.lists.removed

  turned : (i n : ℕ) (c : AwarenessUpdateSummary) (answers : List Answer) (there : Places) (hub : Hub k) (now : C) (accepts : Said → Bool) → Sofar next leads k limit first own calls clock empty old i n c answers there hub now accepts → Turned i n c answers there hub now accepts
  turned i n c answers there hub now accepts s =
      let b : Beyond n c old there = subst (λ d. Beyond n d old there) (sym s.clients) (subst (λ m. Beyond m (all_clients (take i answers)) old there) (sym s.bytes) s.ran.beyond) in
      record {
        so_far = s;
        bytes = (let f = b.bytes.fits in let l = b.bytes.long in omega arith);
        added = (let f = b.added.fits in let l = b.added.long in omega arith);
        updated = (let f = b.updated.fits in let l = b.updated.long in omega arith);
        changed = (let f = b.changed.fits in let l = b.changed.long in omega arith);
        removed = (let f = b.removed.fits in let l = b.removed.long in omega arith);
      }

  pub turn : (i n : ℕ) (c : AwarenessUpdateSummary) (answers : List Answer) (here : Places) (hub : Hub k) (now : C) (accepts : Said → Bool) → Sofar next leads k limit first own calls clock empty old i n c answers here hub now accepts
      → (d : Call) (a : Answer) (part : Places) (hub_then : Hub k) (then : C) (also : Said → Bool)
      → Keeps k limit accepts also (CallTold next leads (get_or calls i d) a part now then) hub hub_then
      → Beyond (bytes_in a) (clients_in a) (parts_lent n c here) part
      → ((m : Said) → also m ≡ accepts m) → i < length calls → i < length answers
      → (b : ℕ) → b ≡ bytes_in a → (l : AwarenessUpdateSummary) → l ≡ clients_in a
      → Turned (i + 1) (n + b) (more_clients c l) (set answers i a) (parts_given n c here part) hub_then then also
  turn i n c answers here hub now accepts s d a part hub_then then also made beyond verdicts below place b b_is l l_is =
      subst (λ x. Turned (i + 1) (n + x) (more_clients c l) (set answers i a) (parts_given n c here part) hub_then then also) (sym b_is)
      (subst (λ x. Turned (i + 1) (n + bytes_in a) (more_clients c x) (set answers i a) (parts_given n c here part) hub_then then also) (sym l_is)
      (turned (i + 1) (n + bytes_in a) (more_clients c (clients_in a)) (set answers i a) (parts_given n c here part) hub_then then also
      (one_more_made next leads k limit first own calls clock empty old i n c answers here hub now accepts s (get_or calls i d) a (parts_given n c here part) part hub_then then also made
      (subst (λ p. Beyond (bytes_in a) (clients_in a) p part) (parts_past n c here) beyond)
      (given_part n here.bytes part.bytes) (given_part c.added here.lists.added part.lists.added) (given_part c.updated here.lists.updated part.lists.updated) (given_part c.changed here.lists.changed part.lists.changed) (given_part c.removed here.lists.removed part.lists.removed)
      d below refl place verdicts (set answers i a) refl (i + 1) refl)))
