-- What the contract of each call gives: the call was made, so that it carries the law on.
use Rattle.std.proofs.Common.{◌≡◌, ℕ, Bool, true, false, ◌&&◌, List, [], ◌∷◌, ◌++◌, is_ok, is_none, Result, sym, refl, ap, ◌∙◌, subst}
use Rattle.message.specs.Message.{Said}
use Rattle.message.specs.Presence.{presence}
use Rattle.awareness.specs.Calls.{Settled, apply as applied_to, set as set_to, remove as removed_from}
use Rattle.awareness.specs.Record.{Record, held_of}
use Rattle.document.specs.Kind.{Kind, Lawful}
use Rattle.calls.specs.declared.answer.Handled.{Handled}
use Rattle.calls.specs.declared.answer.Refusal.{Refusal}
use Rattle.calls.specs.Handling.{Hub, Handling, next_reading, after_reading, handle as handled_by}
use Rattle.law.specs.Words.{Call, handle, apply, set, Answer, handled, applied, done, Told, told}
use Rattle.law.specs.Model.{lists_of, told_by, looked, settled, removing, perform, readings_if, Made}
use Rattle.law.specs.Law.{Law}
use Rattle.law.specs.Promises.{GoesOn}
use Rattle.law.proofs.Keeping.{law_next}

-- a call that was made carries the law on
pub goes_on : (k : Kind) (limit : ℕ) → Lawful k limit → (accepts also : Said → Bool) → ((m : Said) → also m ≡ accepts m) → (hub : Hub k) (t : Told) (then : Hub k) → Made k limit accepts hub t then → GoesOn k limit accepts also hub t then
goes_on k limit lawful accepts also same hub t then made id history law =
    subst (λ f. Law k limit f id (history ++ t ∷ []) then) (λ i m. sym (same m) i) (law_next k limit lawful accepts id history hub t then law made)

module _ (k : Kind) (limit : ℕ) (accepts : Said → Bool) (h : Hub k) where
  abbrev with_rows : List Record → Hub k
  with_rows rows = record { own = h.own; rows = rows; document = h.document }

  -- a handle, by what it came to with the readings that it took and a later one
  pub made_handle : (bytes : List ℕ) (room : ℕ) (ns : List ℕ) (later : ℕ) (answer : Result Handled Refusal) (then : Hub k) (out : List ℕ)
      → handled_by k limit accepts room (ns ++ later ∷ []) h bytes ≡ record { answer = answer; hub = then; replies = out; left = later ∷ [] }
      → Made k limit accepts h (told (handle bytes room) (handled answer out) ns) then
  made_handle bytes room ns later answer then out is = record { later = later; is = ap (λ (x : Handling k limit accepts). record { answer = handled x.answer x.replies; hub = x.hub; left = x.left }) is }

  module _ (next : ℕ) where
    abbrev later_if : Bool → ℕ
    later_if true = 0
    later_if false = next

    abbrev these : Bool → List ℕ
    these b = readings_if k limit accepts b next ++ later_if b ∷ []

    next_is : (b : Bool) → next_reading k limit accepts (these b) ≡ next
    next_is true = refl
    next_is false = refl

    left_is : (b : Bool) → after_reading k limit accepts b (these b) ≡ later_if b ∷ []
    left_is true = refl
    left_is false = refl

    -- a call that comes to records, by what it came to at the next reading
    made_by : (s : ℕ → Settled) (a : Settled → Answer) (reads : Settled → Bool) (call : Call)
        → ((ns : List ℕ) → perform k limit accepts h ns call ≡ (let x = s (next_reading k limit accepts ns) in settled k limit accepts h x (a x) (reads x) ns))
        → Made k limit accepts h (told call (told_by (s next).answer (a (s next))) (readings_if k limit accepts (reads (s next)) next)) (with_rows (s next).rows)
    made_by s a reads call is =
        let b : Bool = reads (s next) in
        record {
          later = later_if b;
          is =
              is (these b)
              ∙ ap (λ n. settled k limit accepts h (s n) (a (s n)) (reads (s n)) (these b)) (next_is b)
              ∙ ap (λ l. record { answer = told_by (s next).answer (a (s next)); hub = with_rows (s next).rows; left = l }) (left_is b);
        }

    -- an apply
    pub made_apply : (bytes : List ℕ) (enough : Bool)
        → let s = applied_to enough h.own next h.rows (presence bytes) in
        Made k limit accepts h (told (apply bytes enough) (told_by s.answer (applied (lists_of s.changes))) (readings_if k limit accepts (is_ok s.answer) next)) (with_rows s.rows)
    made_apply bytes enough = made_by (λ n. applied_to enough h.own n h.rows (presence bytes)) (λ s. applied (lists_of s.changes)) (λ s. is_ok s.answer) (apply bytes enough) (λ ns. refl)

    -- a set
    pub made_set : (bytes : List ℕ)
        → let s = set_to h.own next h.rows bytes in
        Made k limit accepts h (told (set bytes) (told_by s.answer done) (readings_if k limit accepts (is_ok s.answer) next)) (with_rows s.rows)
    made_set bytes = made_by (λ n. set_to h.own n h.rows bytes) (λ _. done) (λ s. is_ok s.answer) (set bytes) (λ ns. refl)

    -- a removal, by the call that asks for it
    pub made_removal : (c : ℕ) (call : Call) → ((ns : List ℕ) → perform k limit accepts h ns call ≡ removing k limit accepts h c ns)
        → let s = removed_from c next h.rows in
        Made k limit accepts h (told call (told_by s.answer done) (readings_if k limit accepts (is_ok s.answer && is_none (held_of c h.rows)) next)) (with_rows s.rows)
    made_removal c call is = made_by (λ n. removed_from c n h.rows) (λ _. done) (λ s. is_ok s.answer && is_none (held_of c h.rows)) call is

  -- a call that only looks
  pub made_look : (call : Call) (a : Answer) → ((ns : List ℕ) → perform k limit accepts h ns call ≡ looked k h ns a) → Made k limit accepts h (told call a []) h
  made_look call a is = record { later = 0; is = is (0 ∷ []) }
