-- Tables: lists of entries that ascend by their keys, and what an entry that comes to one leaves.
--   all_above   each key is above a number
--   all_below   each key is below a number
--   ascends    each entry's key is above those of all before it
--   place      how many entries come before a key
--   held       the entry of a key
--   Found      what a search knows of the place where it met the key
--   Missing    what it knows of the place where the key would go
--   better     of a newcomer and the held entry, the one that stays
--   raised     the same where perhaps nothing was held
--   always     every newcomer stands above
--   AnswersBy   each answer of a closure is what stands above what
--   entered    the table after an entry came in
--   full       whether a table turns an entry away
--   offered    the table after an offer, where it has so many places
--   updated    the table after an entry that always takes its place
--   answer     what is answered to an entry that comes in at a place, or finds one held
--   outcome    what is answered to an offer
--   row        the table after a row of entries came in
--   offers     the table after a row of offers, where it has so many places
--   Room       a table has a place for each key of a row
--   latest_or   the last of a row's entries of a key, or else what was there before
--   latest     the last of a row's entries of a key
--   Order      what stands above what is an order
--   Agree      two rows have the same entries
--   TiesAgree  entries of one key that tie are equal
--   ToldByLookUps   two tables whose look-ups agree are equal
--   OffersKeepTheHighest   what a row of offers leaves
--   OrdersAgree       rows with the same entries leave the same table
--   UpdatesKeepTheLatest   what a row of entries leaves that always take their place
use Rattle.std.specs.Prelude.{◌≡◌, ℕ, suc, ◌<◌, ◌≤◌, Bool, true, false, cond, ◌&&◌, ◌||◌, List, [], ◌∷◌, find, length, is_some, Some, None, Ok, Err, Option, Result, ◌==◌, nat_le, nat_lt, slice_index_or}
use Rattle.std.specs.Borrow.{Bor}
use Rattle.std.specs.List.{ContainsAt as Has, list_all}
use Rattle.state_vector.specs.declared.keyed.Outcome.{Outcome}
use Rattle.state_vector.specs.declared.keyed.Outcome.TheVariants.{Inserted, Replaced, Kept}
use Rattle.state_vector.specs.declared.keyed.TableFull.{TableFull}

-- each key is above n
abbrev pub all_above : {E : Type 0} → (E → ℕ) → ℕ → List E → Bool
all_above key n xs = list_all (λ x. nat_lt n (key x)) xs

-- each key is below n
abbrev pub all_below : {E : Type 0} → (E → ℕ) → ℕ → List E → Bool
all_below key n xs = list_all (λ x. nat_lt (key x) n) xs

-- each entry's key is above those of all before it
abbrev pub ascends : {E : Type 0} → (E → ℕ) → List E → Bool
ascends key [] = true
ascends key (x ∷ xs) = all_above key (key x) xs && ascends key xs

-- how many entries come before the key c
abbrev pub place : {E : Type 0} → (E → ℕ) → ℕ → List E → ℕ
place key c [] = 0
place key c (x ∷ xs) = cond (nat_lt (key x) c) (suc (place key c xs)) 0

-- the entry of the key c
abbrev pub held : {E : Type 0} → (E → ℕ) → ℕ → List E → Option E
held key c xs = find (λ x. key x == c) xs

-- what a search knows of the place where it met the key
abbrev pub Found : {E : Type 0} → (E → ℕ) → ℕ → List E → ℕ → Type 0
Found {E} key c xs i = (i ≡ place key c xs) × (i < length xs) × ((d : E) → held key c xs ≡ Some (slice_index_or xs i d)) × ((d : E) → key (slice_index_or xs i d) ≡ c)

-- what it knows of the place where the key would go
abbrev pub Missing : {E : Type 0} → (E → ℕ) → ℕ → List E → ℕ → Type 0
Missing key c xs i = (i ≡ place key c xs) × (i ≤ length xs) × (held key c xs ≡ None)

-- of a newcomer e and the held entry x, the one that stays
abbrev pub better : {E : Type 0} → (E → E → Bool) → E → E → E
better above e x = cond (above e x) e x

-- the same where perhaps nothing was held
abbrev pub raised : {E : Type 0} → (E → E → Bool) → Option E → E → E
raised above None e = e
raised above (Some x) e = better above e x

-- every newcomer stands above
abbrev pub always : {E : Type 0} → E → E → Bool
always e x = true

-- each answer to a newcomer and a held entry is what above gives
abbrev pub AnswersBy : {E : Type 0} → (Bor E → Bor E → Bool → Type 0) → (E → E → Bool) → Type 0
AnswersBy {E} answers above = (x y : Bor E) (b : Bool) → answers x y b → b ≡ above x.now y.now

-- the table after e came in: inserted where its key is absent, in the place of the held one where it stands above that
abbrev pub entered : {E : Type 0} → (E → ℕ) → (E → E → Bool) → List E → E → List E
entered key above [] e = e ∷ []
entered key above (x ∷ xs) e = cond (nat_lt (key x) (key e)) (x ∷ entered key above xs e) (cond (key x == key e) (better above e x ∷ xs) (e ∷ x ∷ xs))

-- whether a table of cap places turns e away: its key is absent, and no place is left
abbrev pub full : {E : Type 0} → (E → ℕ) → ℕ → List E → E → Bool
full key cap xs e = cond (is_some (held key (key e) xs)) false (nat_le cap (length xs))

-- the table of cap places after e was offered
abbrev pub offered : {E : Type 0} → (E → ℕ) → (E → E → Bool) → ℕ → List E → E → List E
offered key above cap xs e = cond (full key cap xs e) xs (entered key above xs e)

-- the table of cap places after e, which always takes its place
abbrev pub updated : {E : Type 0} → (E → ℕ) → ℕ → List E → E → List E
updated key = offered key always

-- what is answered to e where nothing or an entry is held, and perhaps no place is left
abbrev pub answer : {E : Type 0} → (E → E → Bool) → Bool → Option E → E → Result Outcome TableFull
answer above none None e = cond none (Err (record {})) (Ok Inserted)
answer above none (Some h) e = Ok (cond (above e h) Replaced Kept)

-- what a table of cap places answers to an offer
abbrev pub outcome : {E : Type 0} → (E → ℕ) → (E → E → Bool) → ℕ → List E → E → Result Outcome TableFull
outcome key above cap xs e = answer above (nat_le cap (length xs)) (held key (key e) xs) e

-- the table after a row of entries came in, one after another
abbrev pub row : {E : Type 0} → (E → ℕ) → (E → E → Bool) → List E → List E → List E
row key above xs [] = xs
row key above xs (e ∷ es) = row key above (entered key above xs e) es

-- the table of cap places after a row of offers, one after another
abbrev pub offers : {E : Type 0} → (E → ℕ) → (E → E → Bool) → ℕ → List E → List E → List E
offers key above cap xs [] = xs
offers key above cap xs (e ∷ es) = offers key above cap (offered key above cap xs e) es

-- an empty table of cap places has one for each key of the row
abbrev pub Room : {E : Type 0} → (E → ℕ) → (E → E → Bool) → ℕ → List E → Type 0
Room key above cap es = length (row key above [] es) ≤ cap

-- the last of a row's entries of the key c, or else what was there before
abbrev pub latest_or : {E : Type 0} → (E → ℕ) → ℕ → Option E → List E → Option E
latest_or key c o [] = o
latest_or key c o (e ∷ es) = latest_or key c (cond (key e == c) (Some e) o) es

-- the last of a row's entries of the key c
abbrev pub latest : {E : Type 0} → (E → ℕ) → ℕ → List E → Option E
latest key c es = latest_or key c None es

-- what stands above what is an order: none above itself, no two above each other, and a third is below the first or above the second
pub record Order {E : Type 0} (above : E → E → Bool) : Type 0 where
  pub irreflexive : (x : E) → above x x ≡ false
  pub asymmetric : (x y : E) → above x y ≡ true → above y x ≡ false
  pub third : (x y z : E) → above x y ≡ true → (above x z || above z y) ≡ true

-- two rows have the same entries, in any order and as often as they like
abbrev pub Agree : {E : Type 0} → List E → List E → Type 0
Agree {E} es fs = (z : E) → (Has es z → Has fs z) × (Has fs z → Has es z)

-- entries of one key that tie are equal
abbrev pub TiesAgree : {E : Type 0} → (E → ℕ) → (E → E → Bool) → List E → Type 0
TiesAgree {E} key above es = (x y : E) → Has es x → Has es y → key x ≡ key y → above x y ≡ false → above y x ≡ false → x ≡ y

-- two tables whose look-ups agree for every key are equal
abbrev pub ToldByLookUps : {E : Type 0} → (E → ℕ) → Type 0
ToldByLookUps {E} key = (xs ys : List E) → ascends key xs ≡ true → ascends key ys ≡ true → ((c : ℕ) → held key c xs ≡ held key c ys) → xs ≡ ys

-- what a row of offers to an empty table with room leaves
pub record OffersKeepTheHighest {E : Type 0} (key : E → ℕ) (above : E → E → Bool) : Type 0 where
  -- it ascends
  pub ascending : (cap : ℕ) (es : List E) → ascends key (offers key above cap [] es) ≡ true
  -- a key is held where an entry of it was offered
  pub offered_is_held : (cap : ℕ) (es : List E) → Room key above cap es → (z : E) → Has es z → is_some (held key (key z) (offers key above cap [] es)) ≡ true
  -- and only there: what is held was offered, under its own key
  pub held_was_offered : (cap : ℕ) (es : List E) → Room key above cap es → (c : ℕ) (h : E) → held key c (offers key above cap [] es) ≡ Some h → Has es h × (key h ≡ c)
  -- nothing that was offered for the key stands above it
  pub none_stands_above : (cap : ℕ) (es : List E) → Room key above cap es → (c : ℕ) (h z : E) → held key c (offers key above cap [] es) ≡ Some h → Has es z → key z ≡ c → above z h ≡ false
  -- a table with a place for each offer has room
  pub room : (cap : ℕ) (es : List E) → length es ≤ cap → Room key above cap es

-- two rows with the same entries, where entries of one key that tie are equal, leave the same table, and where one has room the other has
abbrev pub OrdersAgree : {E : Type 0} → (E → ℕ) → (E → E → Bool) → Type 0
OrdersAgree {E} key above = (cap : ℕ) (es fs : List E) → Agree es fs → TiesAgree key above es → Room key above cap es → Room key above cap fs × (offers key above cap [] es ≡ offers key above cap [] fs)

-- what a row of entries leaves that always take their place: under each key the last
pub record UpdatesKeepTheLatest {E : Type 0} (key : E → ℕ) : Type 0 where
  -- it ascends
  pub ascending : (es : List E) → ascends key (row key always [] es) ≡ true
  -- under each key the last of the row is held
  pub latest_is_held : (es : List E) (c : ℕ) → held key c (row key always [] es) ≡ latest key c es
  -- a row that ascends is the table that it makes
  pub ascending_stays : (es : List E) → ascends key es ≡ true → row key always [] es ≡ es
