-- Presence updates.
--   Entry           what one client says of itself
--   state_of         a text that spells null is none
--   presence_entry   a client id, a clock of 32 bits, then a presence text
--   presence        a count of 64 bits, then so many entries
--   entry_is         what a borrowed entry means
use Rattle.std.specs.Prelude.{ℕ, ◌-◌, ◌^◌, cond, List, Some, None, codes, Option}
use Rattle.std.specs.Option.{option_copied}
use Rattle.std.specs.Str.{bytes_eq}
use Rattle.encoding.specs.Entries.{entries}
use Rattle.encoding.specs.Fields.{client_id_in, count_in, presence_text_in}
use Rattle.encoding.specs.Reading.{Reading, thence, named}
use Rattle.encoding.specs.VarUint.{var_uint}
use Rattle.message.specs.declared.presence.PresenceEntry.{PresenceEntry}

-- what one client says of itself
pub record Entry : Type 0 where
  pub client : ℕ
  pub clock : ℕ
  -- what it shows: none, or a text
  pub state : Option (List ℕ)

-- a text that spells null is none
abbrev pub state_of : List ℕ → Option (List ℕ)
state_of bs = cond (bytes_eq bs (codes "null")) None (Some bs)

-- a client id, a clock of 32 bits, then a presence text
abbrev pub presence_entry : List ℕ → Reading Entry
presence_entry s = thence (client_id_in s) (λ id rest. thence (var_uint (2 ^ 32 - 1) rest) (λ n after. named (λ bs. record { client = id; clock = n; state = state_of bs }) (presence_text_in after)))

-- a count of 64 bits, then so many entries; bytes after the last are not looked at
unfoldable pub presence : List ℕ → Reading (List Entry)
presence s = thence (count_in 64 s) (entries presence_entry)

-- what a borrowed entry means
abbrev pub entry_is : PresenceEntry → Entry
entry_is e = record { client = e.client; clock = e.clock; state = option_copied e.state }
