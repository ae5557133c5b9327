-- Every call can be made: where each reading is 0, so many of them are taken.
use Rattle.std.proofs.Common.{◌≡◌, ℕ, zero, suc, ◌-◌, Bool, true, false, ◌&&◌, List, [], ◌∷◌, ◌++◌, length, is_ok, is_none, Ok, Err, Result, sym, refl, ap, ◌∙◌}
use Rattle.message.specs.Message.{Said}
use Rattle.message.specs.Messages.{Ending, ended, cut, refused, messages}
use Rattle.message.specs.Presence.{presence}
use Rattle.awareness.specs.Calls.{apply as applied_to, set as set_to, remove as removed_from}
use Rattle.awareness.specs.Record.{held_of}
use Rattle.document.specs.Kind.{Kind}
use Rattle.calls.specs.declared.fault.Fault.{Fault}
use Rattle.calls.specs.Handling.{Hub, Step, Handling, Sofar, next_reading, after_reading, at_end, onward, each, one}
use Rattle.law.specs.Words.{Call, handle, apply, set, clean, remove, step1, start, show, list}
use Rattle.law.specs.Model.{removing, perform}
use Rattle.law.specs.Promises.{EveryCallCanBeMade}

-- so many readings, each 0, before others
abbrev padded : ℕ → List ℕ → List ℕ
padded zero ns = ns
padded (suc n) ns = 0 ∷ padded n ns

abbrev zeros : ℕ → List ℕ
zeros n = padded n []

padded_is : (n : ℕ) (ns : List ℕ) → padded n ns ≡ zeros n ++ ns
padded_is zero ns = refl
padded_is (suc n) ns = ap (λ l. 0 ∷ l) (padded_is n ns)

-- of readings that are each 0 so many are taken
record Taken (go : List ℕ → List ℕ) : Type 0 where
  pub many : ℕ
  pub left : (m : ℕ) → go (padded many (zeros m)) ≡ zeros m

none_taken : Taken (λ ns. ns)
none_taken = record { many = 0; left = λ m. refl }

module _ (k : Kind) (limit : ℕ) (accepts : Said → Bool) where
  zero_next : (n m : ℕ) → next_reading k limit accepts (padded n (zeros m)) ≡ 0
  zero_next zero zero = refl
  zero_next zero (suc m) = refl
  zero_next (suc n) m = refl

  -- where the next reading makes a difference, it is 0
  at_zero : (go : ℕ → List ℕ → List ℕ) → Taken (go 0) → Taken (λ ns. go (next_reading k limit accepts ns) ns)
  at_zero go t = record { many = t.many; left = λ m. ap (λ n. go n (padded t.many (zeros m))) (zero_next t.many m) ∙ t.left m }

  after_taken : (b : Bool) → Taken (after_reading k limit accepts b)
  after_taken false = none_taken
  after_taken true = record { many = 1; left = λ m. refl }

  abbrev sofar : ℕ → Hub k → List ℕ → List ℕ → Sofar k limit accepts
  sofar count hub replies readings = record { count = count; hub = hub; replies = replies; readings = readings }

  end_taken : (size count : ℕ) (hub : Hub k) (replies : List ℕ) (end : Ending) → Taken (λ ns. (at_end k limit accepts size (sofar count hub replies ns) end).left)
  end_taken size count hub replies ended = none_taken
  end_taken size count hub replies (cut place) = none_taken
  end_taken size count hub replies (refused place f) = none_taken

  module _ (go : Sofar k limit accepts → Handling k limit accepts) (later : (count : ℕ) (hub : Hub k) (replies : List ℕ) → Taken (λ ns. (go (sofar count hub replies ns)).left)) where
    onward_taken : (count : ℕ) (hub : Hub k) (replies : List ℕ) (place : ℕ) (v : Result (Unit {0}) Fault) (then : Hub k) (reply : List ℕ) (reads : Bool)
        → Taken (λ ns. (onward k limit accepts go (sofar count hub replies ns) place (record { verdict = v; hub = then; reply = reply; reads = reads })).left)
    onward_taken count hub replies place (Ok u) then reply false = let t = later (suc count) then (replies ++ reply) in record { many = t.many; left = t.left }
    onward_taken count hub replies place (Ok u) then reply true = let t = later (suc count) then (replies ++ reply) in record { many = suc t.many; left = t.left }
    onward_taken count hub replies place (Err f) then reply reads = none_taken

  each_taken : (room size : ℕ) (end : Ending) (ms : List (ℕ × Said)) (count : ℕ) (hub : Hub k) (replies : List ℕ) → Taken (λ ns. (each k limit accepts room size end ms (sofar count hub replies ns)).left)
  each_taken room size end [] count hub replies = end_taken size count hub replies end
  each_taken room size end (m ∷ ms) count hub replies =
      let step : Step k = one k limit accepts (room - length replies) 0 hub m.1 in
      at_zero (λ n ns. (onward k limit accepts (each k limit accepts room size end ms) (sofar count hub replies ns) m.0 (one k limit accepts (room - length replies) n hub m.1)).left)
      (onward_taken (each k limit accepts room size end ms) (each_taken room size end ms) count hub replies m.0 step.verdict step.hub step.reply step.reads)

  module _ (h : Hub k) where
    removal_taken : (c : ℕ) → Taken (λ ns. (removing k limit accepts h c ns).left)
    removal_taken c = at_zero (λ n ns. after_reading k limit accepts (is_ok (removed_from c n h.rows).answer && is_none (held_of c h.rows)) ns) (after_taken (is_ok (removed_from c 0 h.rows).answer && is_none (held_of c h.rows)))

    call_taken : (call : Call) → Taken (λ ns. (perform k limit accepts h ns call).left)
    call_taken (handle bytes room) = each_taken room (length bytes) (messages bytes).end (messages bytes).said 0 h []
    call_taken (apply bytes enough) = at_zero (λ n ns. after_reading k limit accepts (is_ok (applied_to enough h.own n h.rows (presence bytes)).answer) ns) (after_taken (is_ok (applied_to enough h.own 0 h.rows (presence bytes)).answer))
    call_taken (set bytes) = at_zero (λ n ns. after_reading k limit accepts (is_ok (set_to h.own n h.rows bytes).answer) ns) (after_taken (is_ok (set_to h.own 0 h.rows bytes).answer))
    call_taken clean = removal_taken h.own
    call_taken (remove c) = removal_taken c
    call_taken (step1 room) = none_taken
    call_taken (start room) = none_taken
    call_taken (show c) = none_taken
    call_taken (list cs room) = none_taken

pub every_call_can_be_made : (k : Kind) (limit : ℕ) → EveryCallCanBeMade k limit
every_call_can_be_made k limit accepts hub call =
    let t = call_taken k limit accepts hub call in
    let offered : List ℕ = zeros t.many ++ 0 ∷ [] in
    let step = perform k limit accepts hub offered call in
    let left : step.left ≡ 0 ∷ [] = ap (λ ns. (perform k limit accepts hub ns call).left) (sym (padded_is t.many (0 ∷ []))) ∙ t.left 1 in
    (record { call = call; answer = step.answer; readings = zeros t.many }, step.hub, refl, record { later = 0; is = ap (λ l. record { answer = step.answer; hub = step.hub; left = l }) left })
