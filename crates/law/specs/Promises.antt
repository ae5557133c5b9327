-- What is promised of the law.
--   EveryRunKeepsTheLaw      from a fresh hub on
--   OneCallMoreKeepsTheLaw   from any history on
--   GoesOn                a call carries the law on, from any history
--   TheLawLeavesNothingOpen   one history leaves one hub
--   WhatHappenedIsHeld       of each client
--   SameVerdictsSameLaw      nothing else of the policy matters
--   EveryCallCanBeMade       so that there is a run for every row of calls
--   OwnTextsStay           nothing received makes a live own text null
use Rattle.std.specs.Prelude.{◌≡◌, ℕ, Bool, true, List, [], ◌∷◌, ◌++◌}
use Rattle.state_vector.specs.Tables.{ascends}
use Rattle.message.specs.Message.{Said}
use Rattle.message.specs.Presence.{presence}
use Rattle.awareness.specs.Calls.{apply}
use Rattle.awareness.specs.Newest.{Live}
use Rattle.awareness.specs.Record.{Record, client_of, held_of}
use Rattle.document.specs.Kind.{Kind}
use Rattle.calls.specs.Handling.{Hub, one, handle}
use Rattle.law.specs.Words.{Call, Told, History}
use Rattle.law.specs.Model.{Runs, Made}
use Rattle.law.specs.Events.{events}
use Rattle.law.specs.Shown.{Holds}
use Rattle.law.specs.Law.{Law}

module _ (k : Kind) (limit : ℕ) where
  -- every run of calls from a fresh hub on keeps the law, whatever the policy's verdicts and the readings of the clock are
  abbrev pub EveryRunKeepsTheLaw : Type 0
  EveryRunKeepsTheLaw = (accepts : Said → Bool) (id : ℕ) (history : History) (hub : Hub k) → Runs k limit accepts id history hub → Law k limit accepts id history hub

  -- a hub that keeps the law after a history keeps it after one call more
  abbrev pub OneCallMoreKeepsTheLaw : Type 0
  OneCallMoreKeepsTheLaw = (accepts : Said → Bool) (id : ℕ) (history : History) (hub : Hub k) (t : Told) (then : Hub k) → Law k limit accepts id history hub → Made k limit accepts hub t then → Law k limit accepts id (history ++ t ∷ []) then

  -- a call carries the law on: whatever the history was, a hub that had the law has it with this call too; its policy may have changed, but not its verdicts
  abbrev pub GoesOn : (Said → Bool) → (Said → Bool) → Hub k → Told → Hub k → Type 0
  GoesOn accepts also hub t then = (id : ℕ) (history : History) → Law k limit accepts id history hub → Law k limit also id (history ++ t ∷ []) then

  -- the law leaves nothing open: two hubs that keep it with one history hold the same
  abbrev pub TheLawLeavesNothingOpen : Type 0
  TheLawLeavesNothingOpen = (accepts : Said → Bool) (id : ℕ) (history : History) (one other : Hub k) → Law k limit accepts id history one → Law k limit accepts id history other → one ≡ other

  -- what happened is what is held: of each client that which show, list and the reply to a query tell
  abbrev pub WhatHappenedIsHeld : Type 0
  WhatHappenedIsHeld = (accepts : Said → Bool) (id : ℕ) (history : History) (hub : Hub k) → Law k limit accepts id history hub → (c : ℕ) → Holds id (events id history) c (held_of c hub.rows)

  -- a policy with the same verdicts leaves the same law
  abbrev pub SameVerdictsSameLaw : Type 0
  SameVerdictsSameLaw = (accepts also : Said → Bool) (id : ℕ) (history : History) (hub : Hub k) → ((m : Said) → also m ≡ accepts m) → Law k limit accepts id history hub → Law k limit also id history hub

  -- every call can be made on every hub
  abbrev pub EveryCallCanBeMade : Type 0
  EveryCallCanBeMade = (accepts : Said → Bool) (hub : Hub k) (call : Call) → (t : Told) × (then : Hub k) × (t.call ≡ call) × Made k limit accepts hub t then

  -- nothing received makes a live own text null, said of the hub before and after
  pub record OwnTextsStay : Type 0 where
    -- each message
    pub of_a_message : (accepts : Said → Bool) (room now : ℕ) (hub : Hub k) (m : Said) → ascends client_of hub.rows ≡ true → Live (held_of hub.own hub.rows) → Live (held_of hub.own (one k limit accepts room now hub m).hub.rows)
    -- a handle
    pub of_a_handle : (accepts : Said → Bool) (room : ℕ) (readings : List ℕ) (hub : Hub k) (bytes : List ℕ) → ascends client_of hub.rows ≡ true → Live (held_of hub.own hub.rows) → Live (held_of hub.own (handle k limit accepts room readings hub bytes).hub.rows)
    -- and an apply
    pub of_an_apply : (enough : Bool) (own now : ℕ) (rows : List Record) (bytes : List ℕ) → ascends client_of rows ≡ true → Live (held_of own rows) → Live (held_of own (apply enough own now rows (presence bytes)).rows)
