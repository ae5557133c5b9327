-- What one message does, whatever the time is.
use Rattle.std.proofs.Common.{◌≡◌, ℕ, ◌≤◌, Bool, true, false, cond, leb, ◌&&◌, List, [], map, filter, length, is_ok, Ok, Err, Result, refl, ap, arith}
use Rattle.std.proofs.lemmas.Bool.{leb-true}
use Rattle.encoding.specs.declared.fault.WireFault.{WireFault}
use Rattle.encoding.specs.Writing.{Row}
use Rattle.state_vector.specs.declared.vector.VectorEntry.{VectorEntry}
use Rattle.state_vector.specs.Vector.{vector}
use Rattle.message.specs.Message.{Said, step1, step2, update, awareness, denied, granted, query, custom}
use Rattle.message.specs.Presence.{presence}
use Rattle.message.specs.Writing.{message_out, awareness as told_awareness, step2 as told_step2}
use Rattle.awareness.specs.declared.fault.AwarenessFault.{AwarenessFault}
use Rattle.awareness.specs.Calls.{applied}
use Rattle.awareness.specs.Record.{entry_of, live}
use Rattle.document.specs.Kind.{Kind}
use Rattle.calls.specs.declared.fault.Fault.{Fault}
use Rattle.calls.specs.declared.fault.Fault.TheVariants.{Buffer, Policy}
use Rattle.calls.specs.declared.fault.PolicyFault.TheVariants.{PermissionDenied, Unsupported}
use Rattle.calls.specs.Handling.{Hub, judged, fits, replied, asked, of_presence, one}

-- whether a message reads the clock where it is accepted
abbrev pub timely : Said → Bool
timely (awareness part) = true
timely (step1 part) = false
timely (step2 part) = false
timely (update part) = false
timely (denied reason) = false
timely granted = false
timely query = false
timely (custom tag part) = false

module _ (k : Kind) where
  abbrev live_row : Hub k → Row
  live_row h = message_out (told_awareness (map entry_of (filter live h.rows)))

  replied_unread : (h : Hub k) (r : Result (List ℕ) Fault) → (replied k h r).reads ≡ false
  replied_unread h (Ok bs) = refl
  replied_unread h (Err f) = refl

  asked_unread : (room : ℕ) (h : Hub k) (r : Result (List VectorEntry) WireFault) → (asked k room h r).reads ≡ false
  asked_unread room h (Ok v) = replied_unread h (fits k room (message_out (told_step2 (k.update h.document v))))
  asked_unread room h (Err f) = refl

  is_ok_presence : (v : Result (Unit {0}) AwarenessFault) → is_ok v ≡ is_ok (of_presence k v)
  is_ok_presence (Ok u) = refl
  is_ok_presence (Err f) = refl

  -- a reply has the room that it needs
  fits_room : (room : ℕ) (h : Hub k) (row : Row) → length (replied k h (fits k room row)).reply ≤ room
  fits_room room h (Err f) = omega arith
  fits_room room h (Ok bs) = by (leb (length bs) room) refl where
    by : (b : Bool) → leb (length bs) room ≡ b → length (replied k h (cond b (Ok bs) (Err Buffer))).reply ≤ room
    by true e = leb-true (length bs) room e
    by false e = omega arith

  asked_room : (room : ℕ) (h : Hub k) (r : Result (List VectorEntry) WireFault) → length (asked k room h r).reply ≤ room
  asked_room room h (Ok v) = fits_room room h (message_out (told_step2 (k.update h.document v)))
  asked_room room h (Err f) = omega arith

  replied_nothing : (h : Hub k) (r : Result (List ℕ) Fault) (f : Fault) → (replied k h r).verdict ≡ Err f → (replied k h r).reply ≡ []
  replied_nothing h (Ok bs) f e = cc
  replied_nothing h (Err g) f e = refl

  asked_nothing : (room : ℕ) (h : Hub k) (r : Result (List VectorEntry) WireFault) (f : Fault) → (asked k room h r).verdict ≡ Err f → (asked k room h r).reply ≡ []
  asked_nothing room h (Ok v) f e = replied_nothing h (fits k room (message_out (told_step2 (k.update h.document v)))) f e
  asked_nothing room h (Err g) f e = refl

  module _ (limit : ℕ) (accepted : Said → Bool) (room : ℕ) (h : Hub k) where
    -- the clock is read for what reads it and is accepted
    pub reads_is : (now : ℕ) (m : Said) → (one k limit accepted room now h m).reads ≡ (timely m && is_ok (one k limit accepted room now h m).verdict)
    reads_is now (step1 part) = asked_unread room h (vector part)
    reads_is now (step2 part) = refl
    reads_is now (update part) = refl
    reads_is now (awareness part) = is_ok_presence (applied h.own now h.rows (presence part)).answer
    reads_is now (denied reason) = refl
    reads_is now granted = refl
    reads_is now query = replied_unread h (fits k room (live_row h))
    reads_is now (custom tag part) = refl

    -- a reply does not depend on the time
    pub reply_same : (now then : ℕ) (m : Said) → (one k limit accepted room now h m).reply ≡ (one k limit accepted room then h m).reply
    reply_same now then (step1 part) = refl
    reply_same now then (step2 part) = refl
    reply_same now then (update part) = refl
    reply_same now then (awareness part) = refl
    reply_same now then (denied reason) = refl
    reply_same now then granted = refl
    reply_same now then query = refl
    reply_same now then (custom tag part) = refl

    -- it has room
    pub reply_room : (now : ℕ) (m : Said) → length (one k limit accepted room now h m).reply ≤ room
    reply_room now (step1 part) = asked_room room h (vector part)
    reply_room now (step2 part) = omega arith
    reply_room now (update part) = omega arith
    reply_room now (awareness part) = omega arith
    reply_room now (denied reason) = omega arith
    reply_room now granted = omega arith
    reply_room now query = fits_room room h (live_row h)
    reply_room now (custom tag part) = omega arith

    -- and a refused message has none
    pub reply_none : (now : ℕ) (m : Said) (f : Fault) → (one k limit accepted room now h m).verdict ≡ Err f → (one k limit accepted room now h m).reply ≡ []
    reply_none now (step1 part) f e = asked_nothing room h (vector part) f e
    reply_none now (step2 part) f e = refl
    reply_none now (update part) f e = refl
    reply_none now (awareness part) f e = refl
    reply_none now (denied reason) f e = refl
    reply_none now granted f e = refl
    reply_none now query f e = replied_nothing h (fits k room (live_row h)) f e
    reply_none now (custom tag part) f e = refl

  -- only the policy's verdict on the message counts
  pub one_same : (limit : ℕ) (accepted other : Said → Bool) (room now : ℕ) (h : Hub k) (m : Said) → other m ≡ accepted m → one k limit other room now h m ≡ one k limit accepted room now h m
  one_same limit accepted other room now h (step1 part) e = refl
  one_same limit accepted other room now h (step2 part) e = refl
  one_same limit accepted other room now h (update part) e = refl
  one_same limit accepted other room now h (awareness part) e = refl
  one_same limit accepted other room now h (denied reason) e = ap (λ b. judged k h (cond b (Ok tt) (Err (Policy PermissionDenied)))) e
  one_same limit accepted other room now h granted e = ap (λ b. judged k h (cond b (Ok tt) (Err (Policy PermissionDenied)))) e
  one_same limit accepted other room now h query e = refl
  one_same limit accepted other room now h (custom tag part) e = ap (λ b. judged k h (cond b (Ok tt) (Err (Policy Unsupported)))) e
