-- Presence as it is kept and written.
--   kept_text      a presence text, or why it is none
--   judged         whether a state can be kept
--   owned_state    a state that can be kept, or why it can't
--   state_text     the text that says a state on the wire
--   owned_entry    an entry that can be kept, or why it can't
use Rattle.std.specs.Prelude.{ℕ, List, Some, None, Ok, codes, Option, Result}
use Rattle.std.specs.Result.{result_and}
use Rattle.encoding.specs.declared.fault.WireFault.{WireFault}
use Rattle.encoding.specs.Fields.{client_id, presence_text}
use Rattle.message.specs.Presence.{Entry}

-- a presence text, or why it is none
abbrev pub kept_text : List ℕ → Result (List ℕ) WireFault
kept_text bs = result_and (presence_text bs) (Ok bs)

-- whether a state can be kept: none can, and a text that can be a presence text
abbrev pub judged : Option (List ℕ) → Result (Unit {0}) WireFault
judged None = Ok tt
judged (Some bs) = presence_text bs

-- a state that can be kept, or why it can't
abbrev pub owned_state : Option (List ℕ) → Result (Option (List ℕ)) WireFault
owned_state s = result_and (judged s) (Ok s)

-- the text that says a state on the wire
abbrev pub state_text : Option (List ℕ) → List ℕ
state_text None = codes "null"
state_text (Some bs) = bs

-- an entry that can be kept, or why it can't: its id is judged, then its text
abbrev pub owned_entry : Entry → Result Entry WireFault
owned_entry e = result_and (client_id e.client) (result_and (judged e.state) (Ok e))
