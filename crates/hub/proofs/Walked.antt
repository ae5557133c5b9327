-- Handling messages in a loop: what was done so far, and what is still to be done.
use Rattle.std.proofs.Common.{◌≡◌, ℕ, suc, ◌+◌, ◌-◌, ◌≤◌, Bool, true, false, cond, eqb, ◌&&◌, List, [], ◌∷◌, ◌++◌, length, is_ok, Ok, Err, Result, sym, refl, ap, ◌∙◌, subst, append_assoc, arith, length-append}
use Rattle.std.specs.Result.{result_and}
use Rattle.std.proofs.lemmas.List.{nil_from_length}
use Rattle.encoding.specs.declared.fault.WireFault.{WireFault}
use Rattle.encoding.specs.declared.fault.WireFault.TheVariants.{InvalidVarInt, EndOfBuffer, UnexpectedValue, InvalidClientId, TooManyEntries, TextTooLong}
use Rattle.encoding.specs.Fault.{wire_number}
use Rattle.encoding.specs.TwoSinks.{stood}
use Rattle.encoding.proofs.Fillings.{length_stood}
use Rattle.message.specs.Message.{Said, message}
use Rattle.message.proofs.Contents.{message_shorter}
use Rattle.awareness.specs.Calls.{ReadIf}
use Rattle.document.specs.Kind.{Kind}
use Rattle.calls.specs.declared.answer.Handled.{Handled as Done}
use Rattle.calls.specs.declared.answer.Refusal.{Refusal}
use Rattle.calls.specs.declared.fault.Fault.{Fault}
use Rattle.calls.specs.declared.fault.Fault.TheVariants.{Wire}
use Rattle.calls.specs.Handling.{Step, Handling, Sofar, Reads, one, handle, onward, next_reading, after_reading}
use Rattle.hub.specs.Steps.{State, Stepped, Handles}
use Rattle.hub.proofs.Replies.{stood_then, stood_none}
use Rattle.hub.proofs.Onemore.{timely, reads_is, reply_same, reply_room, reply_none, one_same}
use Rattle.hub.proofs.Walks.{walk, walk_all, walk_one, walk_cut, walk_refused, walk_end}

-- readings one after another
reads_more : {C : Type 0} (next : C → ℕ) (leads : C → C → Type 0) (c : C) (ns : List ℕ) (d e : C) → Reads next leads c ns d → leads d e → Reads next leads c (ns ++ next d ∷ []) e
reads_more next leads c [] d e r l = (e, ap next r, subst (λ x. leads x e) r l, refl)
reads_more next leads c (n ∷ ns) d e (m, i, j, r) l = (m, i, j, reads_more next leads m ns d e r l)

-- a verdict that let a message pass
ok_parts : (v : Result (Unit {0}) Fault) (x n : ℕ) → ◌≡◌ {A = Result ℕ Fault} (Ok n) (result_and v (Ok x)) → (v ≡ Ok tt) × (n ≡ x)
ok_parts (Ok tt) x n e = (refl, cc)
ok_parts (Err f) x n e = absurd (never e) where
  never : ◌≡◌ {A = Result ℕ Fault} (Ok n) (Err f) → ⊥
  never z = cc

err_parts : (v : Result (Unit {0}) Fault) (x : ℕ) (f : Fault) → ◌≡◌ {A = Result ℕ Fault} (Err f) (result_and v (Ok x)) → v ≡ Err f
err_parts (Ok u) x f e = absurd (never e) where
  never : ◌≡◌ {A = Result ℕ Fault} (Err f) (Ok x) → ⊥
  never z = cc
err_parts (Err g) x f e = cc

-- the same of an equal answer
pub handles_as : {C : Type 0} (next : C → ℕ) (leads : C → C → Type 0) (k : Kind) (limit : ℕ) (accepted : Said → Bool) (bytes : List ℕ) (old new : State k C) (r q : Result Done Refusal) → q ≡ r → Handles next leads k limit accepted bytes old new r → Handles next leads k limit accepted bytes old new q
handles_as next leads k limit accepted bytes old new r q e h = subst (λ x. Handles next leads k limit accepted bytes old new x) (sym e) h

module _ {C : Type 0} (next : C → ℕ) (leads : C → C → Type 0) (k : Kind) (limit : ℕ) (accepted : Said → Bool) where
  -- of the bytes so much was handled, with these readings and replies, and the rest is to come
  pub record Walked (bytes : List ℕ) (start : State k C) (done : Done) (rest : List ℕ) (here : State k C) : Type 0 where
    pub readings : List ℕ
    pub replies : List ℕ
    pub read : Reads next leads start.clock readings here.clock
    pub goes : (later : List ℕ) → handle k limit accepted (length start.buffer) (readings ++ later) start.hub bytes
        ≡ walk k limit accepted (length start.buffer) (length bytes) done.place rest (record { count = done.messages; hub = here.hub; replies = replies; readings = later })
    pub told : done.replies ≡ length replies
    pub stand : here.buffer ≡ stood start.buffer 0 replies
    pub fits : length replies ≤ length start.buffer
    pub place : done.place ≡ length bytes - length rest
    pub within : length rest ≤ length bytes
    pub few : done.messages + length rest ≤ length bytes

  pub walked_start : (bytes : List ℕ) (start : State k C) → Walked bytes start (record { messages = 0; place = 0; replies = 0 }) bytes start
  walked_start bytes start = record {
    readings = [];
    replies = [];
    read = refl;
    goes = λ later. walk_all k limit accepted (length start.buffer) later start.hub bytes;
    told = refl;
    stand = sym (stood_none start.buffer 0);
    fits = omega arith;
    place = omega arith;
    within = omega arith;
    few = omega arith;
  }

  module _ (bytes : List ℕ) (start : State k C) (done : Done) (rest : List ℕ) (here : State k C) (w : Walked bytes start done rest here) where
    long : length here.buffer ≡ length start.buffer
    long = ap length w.stand ∙ length_stood start.buffer 0 w.replies (let f = w.fits in omega arith)

    abbrev so : List ℕ → Sofar k limit accepted
    so later = record { count = done.messages; hub = here.hub; replies = w.replies; readings = later }

    -- reading ended
    ended_by : (r : Result Done Refusal) → ((later : List ℕ) → walk k limit accepted (length start.buffer) (length bytes) done.place rest (so later) ≡ record { answer = r; hub = here.hub; replies = w.replies; left = later }) → Handles next leads k limit accepted bytes start here r
    ended_by r e = record { readings = w.readings; read = w.read; replies = w.replies; does = λ later. w.goes later ∙ e later; stand = w.stand }

    told_so : (p : ℕ) → p ≡ done.place → ◌≡◌ {A = Result Done Refusal} (Ok (record { messages = done.messages; place = p; replies = length w.replies })) (Ok done)
    told_so p e = ap (λ n. Ok (record { messages = done.messages; place = n; replies = length w.replies })) e ∙ ap (λ n. Ok (record { messages = done.messages; place = done.place; replies = n })) (sym w.told)

    pub walked_end : length rest ≡ 0 → Handles next leads k limit accepted bytes start here (Ok done)
    walked_end z =
        let none : rest ≡ [] = nil_from_length rest z in
        ended_by (Ok done) (λ later. walk_end k limit accepted (length start.buffer) (length bytes) done.place rest (so later) none
        ∙ ap (λ r. record { answer = r; hub = here.hub; replies = w.replies; left = later }) (told_so (length bytes) (omega (arith, w.place, w.within, z))))

    pub walked_cut : (length rest ≡ 0 → ⊥) → message rest ≡ Err EndOfBuffer → Handles next leads k limit accepted bytes start here (Ok done)
    walked_cut nz e =
        ended_by (Ok done) (λ later. walk_cut k limit accepted (length start.buffer) (length bytes) done.place rest (so later) (omega (arith, nz)) e
        ∙ ap (λ r. record { answer = r; hub = here.hub; replies = w.replies; left = later }) (told_so done.place refl))

    pub walked_refused : (f : WireFault) → (length rest ≡ 0 → ⊥) → message rest ≡ Err f → (wire_number f ≡ 2 → ⊥) → Handles next leads k limit accepted bytes start here (Err (record { fault = Wire f; message = done.messages; place = done.place; replies = done.replies }))
    walked_refused f nz e ne =
        ended_by (Err (record { fault = Wire f; message = done.messages; place = done.place; replies = done.replies })) (λ later. walk_refused k limit accepted (length start.buffer) (length bytes) done.place rest f (so later) (omega (arith, nz)) e ne
        ∙ ap (λ n. record { answer = Err (record { fault = Wire f; message = done.messages; place = done.place; replies = n }); hub = here.hub; replies = w.replies; left = later }) (sym w.told))

    -- as the fault says where reading ended
    pub walked_stopped : (f : WireFault) (r : Result Done Refusal) → (length rest ≡ 0 → ⊥) → message rest ≡ Err f → r ≡ cond (eqb (wire_number f) 2) (Ok done) (Err (record { fault = Wire f; message = done.messages; place = done.place; replies = done.replies })) → Handles next leads k limit accepted bytes start here r
    walked_stopped EndOfBuffer r nz e is = handles_as next leads k limit accepted bytes start here (Ok done) r is (walked_cut nz e)
    walked_stopped InvalidVarInt r nz e is = handles_as next leads k limit accepted bytes start here _ r is (walked_refused InvalidVarInt nz e (λ n. omega (arith, n)))
    walked_stopped UnexpectedValue r nz e is = handles_as next leads k limit accepted bytes start here _ r is (walked_refused UnexpectedValue nz e (λ n. omega (arith, n)))
    walked_stopped InvalidClientId r nz e is = handles_as next leads k limit accepted bytes start here _ r is (walked_refused InvalidClientId nz e (λ n. omega (arith, n)))
    walked_stopped TooManyEntries r nz e is = handles_as next leads k limit accepted bytes start here _ r is (walked_refused TooManyEntries nz e (λ n. omega (arith, n)))
    walked_stopped TextTooLong r nz e is = handles_as next leads k limit accepted bytes start here _ r is (walked_refused TextTooLong nz e (λ n. omega (arith, n)))

    -- one message of the bytes, as it was handled here
    module _ (m : Said) (after : List ℕ) (first : message rest ≡ Ok (m, after)) (other : Said → Bool) (same : other m ≡ accepted m) (r : Result ℕ Fault) (then : State k C) (st : Stepped next leads k limit other done.replies m here then r) where
      abbrev room : ℕ
      room = length here.buffer - done.replies

      abbrev does : ℕ → Step k
      does now = one k limit accepted room now here.hub m

      is_one : (now : ℕ) → one k limit other room now here.hub m ≡ does now
      is_one now = one_same k limit accepted other room now here.hub m same

      answered : (now : ℕ) → r ≡ result_and (does now).verdict (Ok (length (does now).reply))
      answered now = st.answer now ∙ ap (λ (s : Step k). result_and s.verdict (Ok (length s.reply))) (is_one now)

      room_is : length start.buffer - length w.replies ≡ room
      room_is = omega (arith, long, w.told)

      -- the row goes on with it
      goes_on : (later : List ℕ) → handle k limit accepted (length start.buffer) (w.readings ++ later) start.hub bytes
          ≡ onward k limit accepted (walk k limit accepted (length start.buffer) (length bytes) (length bytes - length after) after) (record { count = done.messages; hub = here.hub; replies = w.replies; readings = later }) done.place (does (next_reading k limit accepted later))
      goes_on later =
          let sofar : Sofar k limit accepted = record { count = done.messages; hub = here.hub; replies = w.replies; readings = later } in
          let l = message_shorter rest after m first in
          w.goes later ∙ walk_one k limit accepted (length start.buffer) (length bytes) done.place rest after m sofar first
          ∙ ap (λ p. onward k limit accepted (walk k limit accepted (length start.buffer) (length bytes) p after) sofar done.place (one k limit accepted (length start.buffer - length w.replies) (next_reading k limit accepted later) here.hub m)) (omega (arith, w.place, w.within))
          ∙ ap (λ n. onward k limit accepted (walk k limit accepted (length start.buffer) (length bytes) (length bytes - length after) after) sofar done.place (one k limit accepted n (next_reading k limit accepted later) here.hub m)) room_is

      -- the message passed
      module _ (n : ℕ) (ok : r ≡ Ok n) where
        passes : (now : ℕ) → (does now).verdict ≡ Ok tt
        passes now = (ok_parts (does now).verdict (length (does now).reply) n (sym ok ∙ answered now)).0

        reads_so : (now : ℕ) → (does now).reads ≡ timely m
        reads_so now = reads_is k limit accepted room here.hub now m ∙ ap (λ v. timely m && is_ok v) (passes now) ∙ and_true (timely m) where
          and_true : (b : Bool) → (b && true) ≡ b
          and_true true = refl
          and_true false = refl

        reply : List ℕ
        reply = (does (next here.clock)).reply

        reply_long : n ≡ length (does (next here.clock)).reply
        reply_long = (ok_parts (does (next here.clock)).verdict (length (does (next here.clock)).reply) n (sym ok ∙ answered (next here.clock))).1

        has_room : length (does (next here.clock)).reply ≤ room
        has_room = reply_room k limit accepted room here.hub (next here.clock) m

        passed_on : (step : Step k) (sofar : Sofar k limit accepted) (go : Sofar k limit accepted → Handling k limit accepted) → step.verdict ≡ Ok tt → onward k limit accepted go sofar done.place step ≡ go (record { count = suc sofar.count; hub = step.hub; replies = sofar.replies ++ step.reply; readings = after_reading k limit accepted step.reads sofar.readings })
        passed_on step sofar go e = ap (λ v. onward k limit accepted go sofar done.place (record { verdict = v; hub = step.hub; reply = step.reply; reads = step.reads })) e

        goes_then : (later rest_of : List ℕ) → after_reading k limit accepted (timely m) later ≡ rest_of → then.hub ≡ (does (next_reading k limit accepted later)).hub → handle k limit accepted (length start.buffer) (w.readings ++ later) start.hub bytes
            ≡ walk k limit accepted (length start.buffer) (length bytes) (length bytes - length after) after (record { count = done.messages + 1; hub = then.hub; replies = w.replies ++ (does (next here.clock)).reply; readings = rest_of })
        goes_then later rest_of a h =
            let now = next_reading k limit accepted later in
            let sofar : Sofar k limit accepted = record { count = done.messages; hub = here.hub; replies = w.replies; readings = later } in
            let go = walk k limit accepted (length start.buffer) (length bytes) (length bytes - length after) after in
            goes_on later ∙ passed_on (does now) sofar go (passes now)
            ∙ ap (λ c. go (record { count = c; hub = (does now).hub; replies = w.replies ++ (does now).reply; readings = after_reading k limit accepted (does now).reads later })) (omega arith)
            ∙ ap (λ x. go (record { count = done.messages + 1; hub = x; replies = w.replies ++ (does now).reply; readings = after_reading k limit accepted (does now).reads later })) (sym h)
            ∙ ap (λ x. go (record { count = done.messages + 1; hub = then.hub; replies = w.replies ++ x; readings = after_reading k limit accepted (does now).reads later })) (reply_same k limit accepted room here.hub now (next here.clock) m)
            ∙ ap (λ b. go (record { count = done.messages + 1; hub = then.hub; replies = w.replies ++ (does (next here.clock)).reply; readings = after_reading k limit accepted b later })) (reads_so now)
            ∙ ap (λ l. go (record { count = done.messages + 1; hub = then.hub; replies = w.replies ++ (does (next here.clock)).reply; readings = l })) a

        stands_then : then.buffer ≡ stood start.buffer 0 (w.replies ++ (does (next here.clock)).reply)
        stands_then =
            st.reply (next here.clock) ∙ ap (λ (s : Step k). stood here.buffer done.replies s.reply) (is_one (next here.clock)) ∙ ap (λ b. stood b done.replies (does (next here.clock)).reply) w.stand
            ∙ ap (λ i. stood (stood start.buffer 0 w.replies) i (does (next here.clock)).reply) (omega (arith, w.told)) ∙ stood_then start.buffer w.replies (does (next here.clock)).reply 0 (let f = w.fits in omega arith)

        clock_then : (b : Bool) → timely m ≡ b → ReadIf leads b here.clock then.clock
        clock_then b e = subst (λ x. ReadIf leads x here.clock then.clock) (ap (λ (s : Step k). s.reads) (is_one (next here.clock)) ∙ reads_so (next here.clock) ∙ e) (st.clock (next here.clock))

        pub walked_on : Walked bytes start (record { messages = done.messages + 1; place = length bytes - length after; replies = done.replies + n }) after then
        walked_on = by (timely m) refl where
          by : (b : Bool) → timely m ≡ b → Walked bytes start (record { messages = done.messages + 1; place = length bytes - length after; replies = done.replies + n }) after then
          by true e = record {
            readings = w.readings ++ next here.clock ∷ [];
            replies = w.replies ++ (does (next here.clock)).reply;
            read = reads_more next leads start.clock w.readings here.clock then.clock w.read (clock_then true e);
            goes = λ later. ap (λ ns. handle k limit accepted (length start.buffer) ns start.hub bytes) (append_assoc w.readings (next here.clock ∷ []) later)
                ∙ goes_then (next here.clock ∷ later) later (ap (λ b. after_reading k limit accepted b (next here.clock ∷ later)) e) (st.hub ∙ ap (λ (s : Step k). s.hub) (is_one (next here.clock)));
            told = omega (arith, w.told, reply_long, length-append w.replies (does (next here.clock)).reply);
            stand = stands_then;
            fits = omega (arith, has_room, long, w.told, w.fits, length-append w.replies (does (next here.clock)).reply);
            place = refl;
            within = (let l = message_shorter rest after m first in let v = w.within in omega arith);
            few = (let l = message_shorter rest after m first in let v = w.few in omega arith);
          }
          by false e = record {
            readings = w.readings;
            replies = w.replies ++ (does (next here.clock)).reply;
            read = subst (λ c. Reads next leads start.clock w.readings c) (sym (clock_then false e)) w.read;
            goes = λ later. goes_then later later (ap (λ b. after_reading k limit accepted b later) e)
                (st.hub_unread (next_reading k limit accepted later) (ap (λ (s : Step k). s.reads) (is_one (next_reading k limit accepted later)) ∙ reads_so (next_reading k limit accepted later) ∙ e) ∙ ap (λ (s : Step k). s.hub) (is_one (next_reading k limit accepted later)));
            told = omega (arith, w.told, reply_long, length-append w.replies (does (next here.clock)).reply);
            stand = stands_then;
            fits = omega (arith, has_room, long, w.told, w.fits, length-append w.replies (does (next here.clock)).reply);
            place = refl;
            within = (let l = message_shorter rest after m first in let v = w.within in omega arith);
            few = (let l = message_shorter rest after m first in let v = w.few in omega arith);
          }

      -- or it was refused
      module _ (f : Fault) (no : r ≡ Err f) where
        fails : (now : ℕ) → (does now).verdict ≡ Err f
        fails now = err_parts (does now).verdict (length (does now).reply) f (sym no ∙ answered now)

        unread : (now : ℕ) → (does now).reads ≡ false
        unread now = reads_is k limit accepted room here.hub now m ∙ ap (λ v. timely m && is_ok v) (fails now) ∙ and_false (timely m) where
          and_false : (b : Bool) → (b && false) ≡ false
          and_false true = refl
          and_false false = refl

        hub_now : (now : ℕ) → then.hub ≡ (does now).hub
        hub_now now = st.hub_unread now (ap (λ (s : Step k). s.reads) (is_one now) ∙ unread now) ∙ ap (λ (s : Step k). s.hub) (is_one now)

        ends_so : (later : List ℕ) → handle k limit accepted (length start.buffer) (w.readings ++ later) start.hub bytes ≡ record { answer = Err (record { fault = f; message = done.messages; place = done.place; replies = done.replies }); hub = then.hub; replies = w.replies; left = later }
        ends_so later =
            let now = next_reading k limit accepted later in
            goes_on later
            ∙ ap (λ v. onward k limit accepted (walk k limit accepted (length start.buffer) (length bytes) (length bytes - length after) after) (so later) done.place (record { verdict = v; hub = (does now).hub; reply = (does now).reply; reads = (does now).reads })) (fails now)
            ∙ ap (λ n. record { answer = Err (record { fault = f; message = done.messages; place = done.place; replies = n }); hub = (does now).hub; replies = w.replies; left = later }) (sym w.told)
            ∙ ap (λ h. record { answer = Err (record { fault = f; message = done.messages; place = done.place; replies = done.replies }); hub = h; replies = w.replies; left = later }) (sym (hub_now now))

        pub walked_off : Handles next leads k limit accepted bytes start then (Err (record { fault = f; message = done.messages; place = done.place; replies = done.replies }))
        walked_off = record {
          readings = w.readings;
          read = subst (λ c. Reads next leads start.clock w.readings c) (sym (subst (λ x. ReadIf leads x here.clock then.clock) (ap (λ (s : Step k). s.reads) (is_one 0) ∙ unread 0) (st.clock 0))) w.read;
          replies = w.replies;
          does = ends_so;
          stand = st.reply 0 ∙ ap (λ (s : Step k). stood here.buffer done.replies s.reply) (is_one 0) ∙ ap (λ b. stood here.buffer done.replies b) (reply_none k limit accepted room here.hub 0 m f (fails 0)) ∙ stood_none here.buffer done.replies ∙ w.stand;
        }
