-- Messages, as the sync protocol lays them out.
--   Said       what a message says, by the bytes of its parts
--   means      what a borrowed message says
--   ReadAsMade   a part that was read, and the message that was made of it
--   byte_wide   a number of 8 bits
--   kinded     after a kind of sync
--   sync       after tag 0: a kind, then a buffer
--   flagged    after a flag of auth
--   auth       after tag 2: a flag, and a reason where it denies
--   body       what follows a tag
--   message    a tag, then its body
--   contents   whether what a message's buffer has to hold is there
use Rattle.std.specs.Prelude.{◌≡◌, ℕ, ◌-◌, ◌^◌, cond, List, Ok, Err, Result, ◌==◌}
use Rattle.std.specs.Borrow.{Bor}
use Rattle.encoding.specs.declared.fault.WireFault.{WireFault}
use Rattle.encoding.specs.declared.fault.WireFault.TheVariants.{UnexpectedValue}
use Rattle.encoding.specs.Entries.{verdict}
use Rattle.encoding.specs.Fields.{buffer, text}
use Rattle.encoding.specs.Reading.{Reading, thence, named}
use Rattle.encoding.specs.VarUint.{var_uint}
use Rattle.state_vector.specs.Vector.{vector_entries}
use Rattle.message.specs.declared.message.Message.{Message}
use Rattle.message.specs.declared.message.Message.TheVariants.{SyncStep1, SyncStep2, Update, Awareness, AuthDenied, AuthGranted, AwarenessQuery, Custom}
use Rattle.message.specs.Presence.{presence}

-- what a message says, by the bytes of its parts
pub data Said : Type 0 where
  step1 : List ℕ → Said
  step2 : List ℕ → Said
  update : List ℕ → Said
  awareness : List ℕ → Said
  denied : List ℕ → Said
  granted : Said
  query : Said
  custom : ℕ → List ℕ → Said

-- what a borrowed message says
abbrev pub means : Message → Said
means (SyncStep1 part) = step1 part.now
means (SyncStep2 part) = step2 part.now
means (Update part) = update part.now
means (Awareness part) = awareness part.now
means (AuthDenied reason) = denied reason.now
means AuthGranted = granted
means AwarenessQuery = query
means (Custom tag part) = custom tag part.now

-- a part that was read and the message that was made of it, or the fault of the part
abbrev pub ReadAsMade : (Bor (List ℕ) → Message → Type 0) → Result (Message × Bor (List ℕ)) WireFault → Reading (List ℕ) → Type 0
ReadAsMade Made (Ok p) part = (b : Bor (List ℕ)) × Made b p.0 × (part ≡ Ok (b.now, p.1.now))
ReadAsMade Made (Err f) part = part ≡ Err f

-- a number of 8 bits
abbrev pub byte_wide : List ℕ → Reading ℕ
byte_wide = var_uint (2 ^ 8 - 1)

-- after a kind: 0 step 1, 1 step 2, 2 an update, each with a buffer
abbrev pub kinded : ℕ → List ℕ → Reading Said
kinded kind s = cond (kind == 0) (named step1 (buffer s)) (cond (kind == 1) (named step2 (buffer s)) (cond (kind == 2) (named update (buffer s)) (Err UnexpectedValue)))

-- after tag 0: a kind, then a buffer
abbrev pub sync : List ℕ → Reading Said
sync s = thence (byte_wide s) kinded

-- after a flag: 0 denied with a text as its reason, any other granted
abbrev pub flagged : ℕ → List ℕ → Reading Said
flagged flag s = cond (flag == 0) (named denied (text s)) (Ok (granted, s))

-- after tag 2: a flag, and a reason where it denies
abbrev pub auth : List ℕ → Reading Said
auth s = thence (byte_wide s) flagged

-- what follows a tag: 0 sync, 1 awareness with a buffer, 2 auth, 3 the query with nothing, any other custom with a buffer
abbrev pub body : ℕ → List ℕ → Reading Said
body tag s = cond (tag == 0) (sync s) (cond (tag == 1) (named awareness (buffer s)) (cond (tag == 2) (auth s) (cond (tag == 3) (Ok (query, s)) (named (custom tag) (buffer s)))))

-- a tag of 8 bits, then its body
unfoldable pub message : List ℕ → Reading Said
message s = thence (byte_wide s) body

-- whether what a message's buffer has to hold is there: a vector in step 1, a presence update in awareness
abbrev pub contents : Said → Result (Unit {0}) WireFault
contents (step1 part) = verdict (vector_entries part)
contents (awareness part) = verdict (presence part)
contents (step2 part) = Ok tt
contents (update part) = Ok tt
contents (denied reason) = Ok tt
contents granted = Ok tt
contents query = Ok tt
contents (custom tag part) = Ok tt
