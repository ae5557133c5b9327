-- A record that always takes its place, and whether it can be held.
use Rattle.std.proofs.Common.{◌≡◌, ℕ, ◌+◌, ◌^◌, ◌≤◌, ◌<◌, Bool, true, false, cond, leb, List, length, is_some, Some, None, Ok, Err, Option, Result, sym, refl, ap, ◌∙◌, subst, arith}
use Rattle.std.specs.Result.{result_and}
use Rattle.state_vector.specs.Tables.{always, ascends, raised}
use Rattle.state_vector.proofs.Entering.{held_own}
use Rattle.awareness.specs.declared.fault.PresenceFault.{PresenceFault}
use Rattle.awareness.specs.declared.fault.PresenceFault.TheVariants.{TooManyClients, ClockAtEnd}
use Rattle.awareness.specs.Calls.{judged, rise_for}
use Rattle.awareness.specs.Record.{Record, client_of, held_of}
use Rattle.awareness.specs.Taking.{stored}
use Rattle.awareness.proofs.Entered.{length_then}
use Rattle.awareness.proofs.Newcomers.{room_passes, room_fails}

module _ (c : ℕ) (rows : List Record) (r : Record) (mine : r.client ≡ c) (up : ascends client_of rows ≡ true) where
  always_is : (o : Option Record) → raised always o r ≡ r
  always_is None = refl
  always_is (Some h) = refl

  pub held_stored_own : held_of c (stored rows r) ≡ Some r
  held_stored_own = subst (λ n. held_of n (stored rows r) ≡ Some r) mine (held_own client_of always rows r up ∙ ap Some (always_is (held_of r.client rows)))

  long : length (stored rows r) ≡ cond (is_some (held_of c rows)) (length rows) (length rows + 1)
  long = length_then client_of always rows r up ∙ ap (λ n. cond (is_some (held_of n rows)) (length rows) (length rows + 1)) mine

  -- with room, the clock decides
  fits : {X : Type 0} (x : Result X PresenceFault) → length (stored rows r) ≤ 64 → result_and (judged c (stored rows r)) x ≡ cond (leb (2 ^ 32) r.clock) (Err ClockAtEnd) x
  fits x l = ap (λ v. result_and (result_and v (rise_for (held_of c (stored rows r)))) x) (sym (room_passes (stored rows r) l)) ∙ ap (λ o. result_and (rise_for o) x) held_stored_own ∙ by (leb (2 ^ 32) r.clock) where
    by : (b : Bool) → result_and {T = Unit {0}} (cond b (Err ClockAtEnd) (Ok (tt {0}))) x ≡ cond b (Err ClockAtEnd) x
    by true = refl
    by false = refl

  pub next_held : {X : Type 0} (x : Result X PresenceFault) (h : Record) → held_of c rows ≡ Some h → length rows ≤ 64 → result_and (judged c (stored rows r)) x ≡ cond (leb (2 ^ 32) r.clock) (Err ClockAtEnd) x
  next_held x h is l = fits x (omega (arith, long ∙ ap (λ o. cond (is_some o) (length rows) (length rows + 1)) is))

  pub next_new : {X : Type 0} (x : Result X PresenceFault) → held_of c rows ≡ None → length rows < 64 → result_and (judged c (stored rows r)) x ≡ cond (leb (2 ^ 32) r.clock) (Err ClockAtEnd) x
  next_new x is l = fits x (omega (arith, long ∙ ap (λ o. cond (is_some o) (length rows) (length rows + 1)) is))

  pub next_full : {X : Type 0} (x : Result X PresenceFault) → held_of c rows ≡ None → 64 ≤ length rows → result_and (judged c (stored rows r)) x ≡ Err TooManyClients
  next_full x is l = ap (λ v. result_and (result_and v (rise_for (held_of c (stored rows r)))) x) (sym (room_fails (stored rows r) (omega (arith, long ∙ ap (λ o. cond (is_some o) (length rows) (length rows + 1)) is))))

  pub long_held : (h : Record) → held_of c rows ≡ Some h → length (stored rows r) ≡ length rows
  long_held h is = long ∙ ap (λ o. cond (is_some o) (length rows) (length rows + 1)) is

  pub long_new : held_of c rows ≡ None → length (stored rows r) ≡ length rows + 1
  long_new is = long ∙ ap (λ o. cond (is_some o) (length rows) (length rows + 1)) is
