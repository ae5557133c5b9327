-- What each call of a hub adds to its history, and that the law goes on with it.
--   Keeps      a call was made as it is told, and the law goes on
--   HandleTold   what a handle tells
--   ToldAs     what any other call tells
--   apply_answer, done_answer, shown_answer, written_answer   the answers of the other calls, by what they return and what stands in the caller's places
use Rattle.std.specs.Prelude.{◌≡◌, ℕ, Bool, List, take, length, Ok, Err, Option, Result}
use Rattle.encoding.specs.TwoSinks.{stood}
use Rattle.message.specs.Message.{Said}
use Rattle.awareness.specs.declared.summary.AwarenessUpdateSummary.{AwarenessUpdateSummary}
use Rattle.awareness.specs.declared.summary.ChangeLists.{ChangeLists}
use Rattle.awareness.specs.Record.{Record}
use Rattle.document.specs.Kind.{Kind}
use Rattle.calls.specs.declared.answer.Handled.{Handled}
use Rattle.calls.specs.declared.answer.Refusal.{Refusal}
use Rattle.calls.specs.Handling.{Hub, Reads}
use Rattle.law.specs.Words.{Answer, Call, Told, handle, handled, applied, done, shown, written, refused}
use Rattle.law.specs.Model.{Made}
use Rattle.law.specs.Promises.{GoesOn}

-- a call was made as it is told, and the law goes on from any history to that history with this call
pub record Keeps (k : Kind) (limit : ℕ) (accepts also : Said → Bool) (Tells : Told → Type 0) (old new : Hub k) : Type 0 where
  pub told : Told
  pub tells : Tells told
  pub made : Made k limit accepts old told new
  pub goes_on : GoesOn k limit accepts also old told new

-- a handle tells its answer, and the bytes of the replies, which stand in the buffer; its readings are those that the clock gave
pub record HandleTold {C : Type 0} (next : C → ℕ) (leads : C → C → Type 0) (bytes old new : List ℕ) (clock then : C) (r : Result Handled Refusal) (t : Told) : Type 0 where
  pub replies : List ℕ
  pub call : t.call ≡ handle bytes (length old)
  pub answer : t.answer ≡ handled r replies
  pub stand : new ≡ stood old 0 replies
  pub readings : Reads next leads clock t.readings then

-- any other call tells this answer, and the clock gave its readings
pub record ToldAs {C : Type 0} (next : C → ℕ) (leads : C → C → Type 0) (call : Call) (answer : Answer) (clock then : C) (t : Told) : Type 0 where
  pub asked : t.call ≡ call
  pub answered : t.answer ≡ answer
  pub readings : Reads next leads clock t.readings then

-- of an apply: the four lists, as far as their lengths tell
abbrev pub apply_answer : Result AwarenessUpdateSummary Refusal → ChangeLists → Answer
apply_answer (Ok n) l = applied (record { added = take n.added l.added.now; updated = take n.updated l.updated.now; changed = take n.changed l.changed.now; removed = take n.removed l.removed.now })
apply_answer (Err x) l = refused x.fault

-- of a call that is done or refused
abbrev pub done_answer : Result (Unit {0}) Refusal → Answer
done_answer (Ok u) = done
done_answer (Err x) = refused x.fault

-- of a call that shows what is held
abbrev pub shown_answer : Result (Option Record) Refusal → Answer
shown_answer (Ok o) = shown o
shown_answer (Err x) = refused x.fault

-- of a call that writes: the bytes at the front of the buffer, as far as their length tells
abbrev pub written_answer : Result ℕ Refusal → List ℕ → Answer
written_answer (Ok n) buffer = written (take n buffer)
written_answer (Err x) buffer = refused x.fault
