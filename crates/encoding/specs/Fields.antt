-- Fields: what stands between the numbers and the messages.
--   part             the next so many bytes
--   buffer           a 32-bit length, then that many bytes
--   plain_text        whether bytes can be a text
--   text             a text, read
--   client_id         whether a number can be a client id
--   client_id_in       a client id, read
--   count            whether so many entries may be declared
--   count_in          a count of a width, read
--   presence_text     whether bytes can be a presence text
--   presence_text_in   a presence text, read
use Rattle.std.specs.Prelude.{ℕ, ◌-◌, ◌^◌, cond, List, length, take, drop, Ok, Err, Result, nat_le, nat_lt}
use Rattle.encoding.specs.declared.fault.WireFault.{WireFault}
use Rattle.encoding.specs.declared.fault.WireFault.TheVariants.{EndOfBuffer, UnexpectedValue, InvalidClientId, TooManyEntries, TextTooLong}
use Rattle.encoding.specs.Reading.{Reading, thence, passed}
use Rattle.encoding.specs.Utf8.{is_text}
use Rattle.encoding.specs.VarUint.{var_uint}

-- the next n bytes
abbrev pub part : ℕ → List ℕ → Reading (List ℕ)
part n s = cond (nat_le n (length s)) (Ok (take n s, drop n s)) (Err EndOfBuffer)

-- a 32-bit length, then that many bytes
abbrev pub buffer : List ℕ → Reading (List ℕ)
buffer s = thence (var_uint (2 ^ 32 - 1) s) part

-- whether bytes can be a text: they are UTF-8
abbrev pub plain_text : List ℕ → Result (Unit {0}) WireFault
plain_text bs = cond (is_text bs) (Ok tt) (Err UnexpectedValue)

-- a text, read: a buffer that can be one
abbrev pub text : List ℕ → Reading (List ℕ)
text s = thence (buffer s) (λ bs rest. passed (plain_text bs) bs rest)

-- whether a number can be a client id: it is below 2^53
abbrev pub client_id : ℕ → Result (Unit {0}) WireFault
client_id n = cond (nat_lt n (2 ^ 53)) (Ok tt) (Err InvalidClientId)

-- a client id, read: a number of 64 bits that can be one
abbrev pub client_id_in : List ℕ → Reading ℕ
client_id_in s = thence (var_uint (2 ^ 64 - 1) s) (λ n rest. passed (client_id n) n rest)

-- whether so many entries may be declared: 64 at most
abbrev pub count : ℕ → Result (Unit {0}) WireFault
count n = cond (nat_le n 64) (Ok tt) (Err TooManyEntries)

-- a count of a width, read
abbrev pub count_in : ℕ → List ℕ → Reading ℕ
count_in width s = thence (var_uint (2 ^ width - 1) s) (λ n rest. passed (count n) n rest)

-- whether bytes can be a presence text: UTF-8 first, then 256 bytes at most
abbrev pub presence_text : List ℕ → Result (Unit {0}) WireFault
presence_text bs = cond (is_text bs) (cond (nat_le (length bs) 256) (Ok tt) (Err TextTooLong)) (Err UnexpectedValue)

-- a presence text, read: a buffer that can be one
abbrev pub presence_text_in : List ℕ → Reading (List ℕ)
presence_text_in s = thence (buffer s) (λ bs rest. passed (presence_text bs) bs rest)
