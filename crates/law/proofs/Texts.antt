-- Nothing received makes a live own text null.
use Rattle.std.proofs.Common.{◌≡◌, ℕ, ◌-◌, suc, Bool, true, false, List, [], ◌∷◌, ◌++◌, length, Ok, Err, Result, sym, refl, subst}
use Rattle.encoding.specs.declared.fault.WireFault.{WireFault}
use Rattle.encoding.specs.Reading.{Reading}
use Rattle.state_vector.specs.declared.vector.VectorEntry.{VectorEntry}
use Rattle.state_vector.specs.Tables.{ascends}
use Rattle.state_vector.specs.Vector.{vector}
use Rattle.message.specs.Message.{Said, step1, step2, update, awareness, denied, granted, query, custom}
use Rattle.message.specs.Messages.{Ending, ended, cut, refused, messages}
use Rattle.message.specs.Presence.{Entry, presence}
use Rattle.message.specs.Writing.{step2 as told_step2, message_out}
use Rattle.awareness.specs.declared.change.Change.{Change}
use Rattle.awareness.specs.declared.fault.PresenceFault.{PresenceFault}
use Rattle.awareness.specs.Calls.{settled_at, applied, judged as judged_records, apply}
use Rattle.awareness.specs.Changes.{changes}
use Rattle.awareness.specs.Newest.{Live}
use Rattle.awareness.specs.Record.{Record, client_of, held_of}
use Rattle.awareness.specs.Taking.{taken}
use Rattle.awareness.proofs.Own.{own_texts_stay}
use Rattle.awareness.proofs.Received.{ascends_taken}
use Rattle.document.specs.Kind.{Kind}
use Rattle.calls.specs.declared.fault.Fault.{Fault}
use Rattle.calls.specs.Handling.{Hub, Step, Handling, Sofar, fits, replied, asked, next_reading, after_reading, at_end, onward, each, one}
use Rattle.law.specs.Promises.{OwnTextsStay}

-- records that ascend, with a live own text
pub record Shines (own : ℕ) (rows : List Record) : Type 0 where
  pub up : ascends client_of rows ≡ true
  pub live : Live (held_of own rows)

settled_shines : (own now : ℕ) (rows : List Record) (es : List Entry) (v : Result (Unit {0}) PresenceFault) (xs : List (ℕ × Change)) → Shines own rows → Shines own (settled_at v rows (taken own now rows es) xs).rows
settled_shines own now rows es (Ok u) xs s = record { up = ascends_taken own now rows es s.up; live = own_texts_stay own now rows es s.up s.live }
settled_shines own now rows es (Err f) xs s = s

applied_shines : (own now : ℕ) (rows : List Record) (p : Reading (List Entry)) → Shines own rows → Shines own (applied own now rows p).rows
applied_shines own now rows (Ok p) s = settled_shines own now rows p.0 (judged_records own (taken own now rows p.0)) (changes own now rows p.0) s
applied_shines own now rows (Err f) s = s

apply_shines : (enough : Bool) (own now : ℕ) (rows : List Record) (p : Reading (List Entry)) → Shines own rows → Shines own (apply enough own now rows p).rows
apply_shines true own now rows p s = applied_shines own now rows p s
apply_shines false own now rows p s = s

module _ (k : Kind) (limit : ℕ) (accepts : Said → Bool) (own : ℕ) where
  -- the same of a hub with this id
  pub record HubShines (h : Hub k) : Type 0 where
    pub is : h.own ≡ own
    pub shines : Shines own h.rows

  replied_shines : (h : Hub k) (r : Result (List ℕ) Fault) → HubShines h → HubShines (replied k h r).hub
  replied_shines h (Ok bs) s = s
  replied_shines h (Err f) s = s

  asked_shines : (room : ℕ) (h : Hub k) (v : Result (List VectorEntry) WireFault) → HubShines h → HubShines (asked k room h v).hub
  asked_shines room h (Ok v) s = replied_shines h (fits k room (message_out (told_step2 (k.update h.document v)))) s
  asked_shines room h (Err f) s = s

  one_shines : (room now : ℕ) (h : Hub k) (m : Said) → HubShines h → HubShines (one k limit accepts room now h m).hub
  one_shines room now h (step1 part) s = asked_shines room h (vector part) s
  one_shines room now h (step2 part) s = record { is = s.is; shines = s.shines }
  one_shines room now h (update part) s = record { is = s.is; shines = s.shines }
  one_shines room now h (awareness part) s = record { is = s.is; shines = subst (λ o. Shines o (applied h.own now h.rows (presence part)).rows) s.is (applied_shines h.own now h.rows (presence part) (subst (λ o. Shines o h.rows) (sym s.is) s.shines)) }
  one_shines room now h (denied reason) s = s
  one_shines room now h granted s = s
  one_shines room now h query s = replied_shines h _ s
  one_shines room now h (custom tag part) s = s

  end_shines : (size : ℕ) (s : Sofar k limit accepts) (end : Ending) → HubShines s.hub → HubShines (at_end k limit accepts size s end).hub
  end_shines size s ended h = h
  end_shines size s (cut place) h = h
  end_shines size s (refused place f) h = h

  onward_shines : (go : Sofar k limit accepts → Handling k limit accepts) → ((t : Sofar k limit accepts) → HubShines t.hub → HubShines (go t).hub) → (s : Sofar k limit accepts) (place : ℕ) (v : Result (Unit {0}) Fault) (hub : Hub k) (reply : List ℕ) (reads : Bool)
      → HubShines hub → HubShines (onward k limit accepts go s place (record { verdict = v; hub = hub; reply = reply; reads = reads })).hub
  onward_shines go later s place (Ok u) hub reply reads h = later (record { count = suc s.count; hub = hub; replies = s.replies ++ reply; readings = after_reading k limit accepts reads s.readings }) h
  onward_shines go later s place (Err f) hub reply reads h = h

  each_shines : (room size : ℕ) (end : Ending) (ms : List (ℕ × Said)) (s : Sofar k limit accepts) → HubShines s.hub → HubShines (each k limit accepts room size end ms s).hub
  each_shines room size end [] s h = end_shines size s end h
  each_shines room size end (m ∷ ms) s h =
      let step : Step k = one k limit accepts (room - length s.replies) (next_reading k limit accepts s.readings) s.hub m.1 in
      onward_shines (each k limit accepts room size end ms) (each_shines room size end ms) s m.0 step.verdict step.hub step.reply step.reads
      (one_shines (room - length s.replies) (next_reading k limit accepts s.readings) s.hub m.1 h)

pub own_texts_stay_live : (k : Kind) (limit : ℕ) → OwnTextsStay k limit
own_texts_stay_live k limit = record {
  of_a_message = λ accepts room now hub m up live. (one_shines k limit accepts hub.own room now hub m (record { is = refl; shines = record { up = up; live = live } })).shines.live;
  of_a_handle = λ accepts room readings hub bytes up live.
      (each_shines k limit accepts hub.own room (length bytes) (messages bytes).end (messages bytes).said (record { count = 0; hub = hub; replies = []; readings = readings }) (record { is = refl; shines = record { up = up; live = live } })).shines.live;
  of_an_apply = λ enough own now rows bytes up live. (apply_shines enough own now rows (presence bytes) (record { up = up; live = live })).live;
}
