-- What messages leave alone that do not concern it.
use Rattle.std.proofs.Common.{◌≡◌, ℕ, ◌+◌, ◌-◌, Bool, true, false, not, List, length, Ok, Err, Result, sym, refl, ap, ◌∙◌, subst}
use Rattle.std.specs.Result.{result_and}
use Rattle.std.proofs.lemmas.Bool.{and_parts, true≢false}
use Rattle.encoding.specs.declared.fault.WireFault.{WireFault}
use Rattle.message.specs.Message.{Said, step1, step2, update, awareness, denied, granted, query, custom, message, contents}
use Rattle.message.specs.Messages.{Messages, judged, messages}
use Rattle.message.specs.Reader.{row_from}
use Rattle.message.proofs.Rows.{row_start, row_whole}
use Rattle.document.specs.Kind.{Kind}
use Rattle.calls.specs.declared.fault.Fault.{Fault}
use Rattle.calls.specs.Handling.{Step}
use Rattle.hub.specs.Steps.{State, Stepped, updates, for_policy, none_of}
use Rattle.hub.proofs.Walks.{holds_not, next_held}

-- the buffer of a message that concerns the host or the policy needs to hold nothing
abbrev HoldsNothing : (Said → Bool) → Type 0
HoldsNothing picks = (m : Said) → picks m ≡ true → contents m ≡ Ok tt

pub updates_hold : HoldsNothing updates
updates_hold (step1 part) e = cc
updates_hold (step2 part) e = refl
updates_hold (update part) e = refl
updates_hold (awareness part) e = cc
updates_hold (denied reason) e = refl
updates_hold granted e = refl
updates_hold query e = refl
updates_hold (custom tag part) e = refl

pub policies_hold : HoldsNothing for_policy
policies_hold (step1 part) e = cc
policies_hold (step2 part) e = refl
policies_hold (update part) e = refl
policies_hold (awareness part) e = cc
policies_hold (denied reason) e = refl
policies_hold granted e = refl
policies_hold query e = refl
policies_hold (custom tag part) e = refl

-- where none is picked, the first is not, and none of the others is
with_first : (picks : Said → Bool) (place : ℕ) (s rest : List ℕ) (m : Said) → message s ≡ Ok (m, rest) → contents m ≡ Ok tt → none_of picks (row_from place s).said ≡ true → (picks m ≡ false) × (none_of picks (row_from (place + (length s - length rest)) rest).said ≡ true)
with_first picks place s rest m e c n =
    let w = next_held s rest m e ∙ ap (λ v. judged v m rest) c in
    let p = and_parts (not (picks m)) (none_of picks (row_from (place + (length s - length rest)) rest).said) (sym (ap (λ (ms : Messages). none_of picks ms.said) (row_whole place s rest m w)) ∙ n) in
    (not_so (picks m) p.0, p.1)
  where
    not_so : (b : Bool) → not b ≡ true → b ≡ false
    not_so false q = refl
    not_so true q = absurd (true≢false (sym q))

pub first_not : (picks : Said → Bool) → HoldsNothing picks → (place : ℕ) (s rest : List ℕ) (m : Said) → message s ≡ Ok (m, rest) → none_of picks (row_from place s).said ≡ true → picks m ≡ false
first_not picks hold place s rest m e n = by (picks m) refl where
  by : (b : Bool) → picks m ≡ b → picks m ≡ false
  by false q = q
  by true q = (with_first picks place s rest m e (hold m q) n).0

-- a message that was done held what it has to
pub done_held : {C : Type 0} (next_is : C → ℕ) (leads : C → C → Type 0) (k : Kind) (limit : ℕ) (accepted : Said → Bool) (at : ℕ) (m : Said) (old new : State k C) (r : Result ℕ Fault) (n : ℕ) → Stepped next_is leads k limit accepted at m old new r → r ≡ Ok n → contents m ≡ Ok tt
done_held next_is leads k limit accepted at m old new r n st ok = by (contents m) refl where
  by : (v : Result (Unit {0}) WireFault) → contents m ≡ v → contents m ≡ Ok tt
  by (Ok tt) q = q
  by (Err f) q = absurd (never (sym ok ∙ st.answer 0 ∙ ap (λ (s : Step k). result_and s.verdict (Ok (length s.reply))) (holds_not k limit accepted (length old.buffer - at) 0 old.hub m f q))) where
    never : {x : Fault} → ◌≡◌ {A = Result ℕ Fault} (Ok n) (Err x) → ⊥
    never z = cc

-- so far the value was left alone, if no message of the bytes is picked
pub record Alone {X : Type 0} (picks : Said → Bool) (bytes : List ℕ) (start : X) (place : ℕ) (rest : List ℕ) (here : X) : Type 0 where
  pub left : none_of picks (messages bytes).said ≡ true → none_of picks (row_from place rest).said ≡ true
  pub same : none_of picks (messages bytes).said ≡ true → here ≡ start

pub alone_start : {X : Type 0} (picks : Said → Bool) (bytes : List ℕ) (start : X) → Alone picks bytes start 0 bytes start
alone_start picks bytes start = record { left = λ n. sym (ap (λ (ms : Messages). none_of picks ms.said) (row_start bytes)) ∙ n; same = λ n. refl }

module _ {X : Type 0} (picks : Said → Bool) (hold : HoldsNothing picks) (bytes : List ℕ) (start : X) (place : ℕ) (rest : List ℕ) (here : X) (a : Alone picks bytes start place rest here) (after : List ℕ) (m : Said) (first : message rest ≡ Ok (m, after)) (then : X) (kept : picks m ≡ false → then ≡ here) where
  -- after a message it still is
  pub alone_then : none_of picks (messages bytes).said ≡ true → then ≡ start
  alone_then n = kept (first_not picks hold place rest after m first (a.left n)) ∙ a.same n

  pub alone_on : contents m ≡ Ok tt → (next_place : ℕ) → next_place ≡ place + (length rest - length after) → Alone picks bytes start next_place after then
  alone_on c next_place is = record {
    left = λ n. subst (λ p. none_of picks (row_from p after).said ≡ true) (sym is) (with_first picks place rest after m first c (a.left n)).1;
    same = alone_then;
  }
