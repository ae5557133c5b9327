-- Which call a line is. Index:
--   Told, told    what a message in words says, by the bytes of its parts
--   Asked, heard  what a call says, by the bytes of its parts
--   told_as, heard_as   an answer, by what it says
--   made          a call of what was read, or its fault
--   alone         what nothing may follow
--   tagged, worded      a message in words
--   shown, ruled, clocked   after the names that take words of their own
--   named         a call by its name, and what follows the name
--   call_of       the call that a line is
use Rattle.std.specs.Prelude.{ℕ, ◌^◌, ◌==◌, ◌||◌, if◌then◌else◌, List, length, get_or, nat_lt, codes, Ok, Err, Result}
use Rattle.std.specs.Str.{bytes_eq}
use Rattle.call_line.specs.declared.call.Board.{Board}
use Rattle.call_line.specs.declared.call.Board.TheVariants as board
use Rattle.call_line.specs.declared.call.Rules.{Rules}
use Rattle.call_line.specs.declared.call.Rules.TheVariants as rules
use Rattle.call_line.specs.declared.call.Call.{Call}
use Rattle.call_line.specs.declared.call.Call.TheVariants as call
use Rattle.call_line.specs.declared.fault.LineFault.{LineFault}
use Rattle.call_line.specs.declared.fault.LineFault.TheVariants.{UnknownCall, NotANumber, UnknownWord, WordsLeft}
use Rattle.call_line.specs.declared.message.MessageWords.{MessageWords}
use Rattle.call_line.specs.declared.message.MessageWords.TheVariants as words
use Rattle.call_line.specs.Words.{trimmed, first_word, after_word, numbered}

-- what a message in words says, by the bytes of its parts
pub data Told : Type 0 where
  step1 : List ℕ → Told
  step2 : List ℕ → Told
  update : List ℕ → Told
  awareness : List ℕ → Told
  denied : List ℕ → Told
  granted : Told
  query : Told
  custom : ℕ → List ℕ → Told

abbrev pub told : MessageWords → Told
told (words.Step1 part) = step1 part.now
told (words.Step2 part) = step2 part.now
told (words.Update part) = update part.now
told (words.Awareness part) = awareness part.now
told (words.Denied part) = denied part.now
told words.Granted = granted
told words.Query = query
told (words.Custom tag part) = custom tag part.now

-- what a call says, by the bytes of its parts
pub data Asked : Type 0 where
  nothing : Asked
  own : ℕ → Asked
  host : Board → Asked
  policy : Rules → Asked
  clock : ℕ → Asked
  clock_step : ℕ → Asked
  room : ℕ → Asked
  places : ℕ → Asked
  handle : List ℕ → Asked
  apply : List ℕ → Asked
  set : List ℕ → Asked
  clean : Asked
  remove : ℕ → Asked
  step1 : Asked
  start : Asked
  show : ℕ → Asked
  list : List ℕ → Asked
  write : Told → Asked
  records : Asked
  document : Asked
  help : Asked

abbrev pub heard : Call → Asked
heard call.Nothing = nothing
heard (call.Own n) = own n
heard (call.Host b) = host b
heard (call.Policy p) = policy p
heard (call.Clock n) = clock n
heard (call.ClockStep n) = clock_step n
heard (call.Room n) = room n
heard (call.Places n) = places n
heard (call.Handle part) = handle part.now
heard (call.Apply part) = apply part.now
heard (call.Set part) = set part.now
heard call.Clean = clean
heard (call.Remove n) = remove n
heard call.Step1 = step1
heard call.Start = start
heard (call.Show n) = show n
heard (call.List part) = list part.now
heard (call.Write m) = write (told m)
heard call.Records = records
heard call.Document = document
heard call.Help = help

-- a call of what was read, or its fault
abbrev pub made : {X Y : Type 0} → (X → Y) → Result X LineFault → Result Y LineFault
made f (Ok x) = Ok (f x)
made f (Err e) = Err e

-- an answer, by what it says
abbrev pub told_as : Result MessageWords LineFault → Result Told LineFault
told_as r = made told r

abbrev pub heard_as : Result Call LineFault → Result Asked LineFault
heard_as r = made heard r

-- what nothing may follow
abbrev pub alone : {X : Type 0} → X → List ℕ → Result X LineFault
alone x rest = if length rest == 0 then Ok x else Err WordsLeft

-- a tag of 8 bits
abbrev pub tag_of : ℕ → List ℕ → Result Told LineFault
tag_of n bytes = if nat_lt n (2 ^ 8) then Ok (custom n bytes) else Err NotANumber

abbrev pub tag_said : Result ℕ LineFault → List ℕ → Result Told LineFault
tag_said (Ok n) bytes = tag_of n bytes
tag_said (Err e) bytes = Err e

-- after `custom`: a tag of 8 bits, then bytes
abbrev pub tagged : List ℕ → Result Told LineFault
tagged rest = tag_said (numbered (first_word rest)) (after_word rest)

-- a message by the word for its kind
abbrev pub kinded : List ℕ → List ℕ → Result Told LineFault
kinded kind rest =
    if bytes_eq kind (codes "step1") then Ok (step1 rest)
    else if bytes_eq kind (codes "step2") then Ok (step2 rest)
    else if bytes_eq kind (codes "update") then Ok (update rest)
    else if bytes_eq kind (codes "awareness") then Ok (awareness rest)
    else if bytes_eq kind (codes "denied") then Ok (denied rest)
    else if bytes_eq kind (codes "granted") then alone granted rest
    else if bytes_eq kind (codes "query") then alone query rest
    else if bytes_eq kind (codes "custom") then tagged rest
    else Err UnknownWord

-- after `write`: the word for a kind, then its parts
abbrev pub worded : List ℕ → Result Told LineFault
worded line = kinded (first_word line) (after_word line)

-- after `document`: nothing, where it is to be shown, or a board
abbrev pub shown : List ℕ → Result Asked LineFault
shown rest =
    if length rest == 0 then Ok document
    else if bytes_eq rest (codes "count") then Ok (host board.Count)
    else if bytes_eq rest (codes "slot") then Ok (host board.Slot)
    else Err UnknownWord

-- after `policy`: its name
abbrev pub ruled : List ℕ → Result Asked LineFault
ruled rest =
    if bytes_eq rest (codes "default") then Ok (policy rules.Default)
    else if bytes_eq rest (codes "ranges") then Ok (policy rules.Ranges)
    else Err UnknownWord

-- after `clock`: a reading, or `step` and the first reading
abbrev pub clocked : List ℕ → Result Asked LineFault
clocked rest = if bytes_eq (first_word rest) (codes "step") then made clock_step (numbered (after_word rest)) else made clock (numbered rest)

-- a call by its name, and what follows the name
abbrev pub named : List ℕ → List ℕ → Result Asked LineFault
named name rest =
    if bytes_eq name (codes "own") then made own (numbered rest)
    else if bytes_eq name (codes "document") then shown rest
    else if bytes_eq name (codes "policy") then ruled rest
    else if bytes_eq name (codes "clock") then clocked rest
    else if bytes_eq name (codes "room") then made room (numbered rest)
    else if bytes_eq name (codes "places") then made places (numbered rest)
    else if bytes_eq name (codes "handle") then Ok (handle rest)
    else if bytes_eq name (codes "apply") then Ok (apply rest)
    else if bytes_eq name (codes "set") then Ok (set rest)
    else if bytes_eq name (codes "clean") then alone clean rest
    else if bytes_eq name (codes "remove") then made remove (numbered rest)
    else if bytes_eq name (codes "step1") then alone step1 rest
    else if bytes_eq name (codes "start") then alone start rest
    else if bytes_eq name (codes "show") then made show (numbered rest)
    else if bytes_eq name (codes "list") then Ok (list rest)
    else if bytes_eq name (codes "write") then made write (worded rest)
    else if bytes_eq name (codes "records") then alone records rest
    else if bytes_eq name (codes "help") then alone help rest
    else Err UnknownCall

-- the call of a line without blanks at its ends: nothing where it is empty or begins with #
abbrev pub called : List ℕ → Result Asked LineFault
called s = if length s == 0 || get_or s 0 0 == 35 then Ok nothing else named (first_word s) (after_word s)

-- the call that a line is
abbrev pub call_of : List ℕ → Result Asked LineFault
call_of line = called (trimmed line)
