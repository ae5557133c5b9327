-- Tables as documents: two join into the table that has of each client the entry that stands highest.
--   passing    a value for which a test has to pass, or else another
--   sound      a table that ascends and whose entries pass
--   Sound      the tables that are sound
--   admit      a table where it is sound, or else another
--   none       the empty table
--   enter      a table after one entry came, where it is sound then
--   gather     a table after a row of entries came
--   joined     a table after all entries of another came
--   table      the table with these entries
--   gathered   a table after what was read came, if it could be read
--   Decided    entries of one client that tie are equal
--   JoinsAreLawful   the laws of joining
--   Covers     what a choice among the entries leaves out brings nothing new
--   ChoicesBringAll  joining what was chosen is joining all
use Rattle.std.specs.Prelude.{◌≡◌, ℕ, Bool, true, false, ◌&&◌, T, List, [], ◌∷◌, Some, None, Ok, Err, filter, Option, Result}
use Rattle.std.specs.List.{list_all}
use Rattle.encoding.specs.declared.fault.WireFault.{WireFault}
use Rattle.state_vector.specs.Tables.{ascends, entered, held}

-- the value where the test passes, or else the other
abbrev pub passing : {A : Type 0} (test : Bool) → (T test → A) → A → A
passing true yes-so other = yes-so tt
passing false yes-so other = other

-- the entries ascend, and each passes
abbrev pub sound : {E : Type 0} → (E → ℕ) → (E → Bool) → List E → Bool
sound key fine xs = ascends key xs && list_all fine xs

-- the tables that are sound
abbrev pub Sound : {E : Type 0} → (E → ℕ) → (E → Bool) → Type 0
Sound {E} key fine = (xs : List E) × T (sound key fine xs)

-- entries of one client that tie are equal
abbrev pub Decided : {E : Type 0} → (E → ℕ) → (E → E → Bool) → Type 0
Decided {E} key above = (x y : E) → key x ≡ key y → above x y ≡ false → above y x ≡ false → x ≡ y

module _ {E : Type 0} (key : E → ℕ) (above : E → E → Bool) (fine : E → Bool) where
  -- the table where it is sound, or else the other
  abbrev pub admit : List E → Sound key fine → Sound key fine
  admit xs other = passing (sound key fine xs) (λ t. (xs, t)) other

  -- the empty table
  abbrev pub none : Sound key fine
  none = ([], tt)

  -- the table after an entry came: as it was, where the entry would leave it unsound
  abbrev pub enter : Sound key fine → E → Sound key fine
  enter d e = admit (entered key above d.0 e) d

  -- the table after a row of entries came, one after another
  abbrev pub gather : Sound key fine → List E → Sound key fine
  gather d [] = d
  gather d (e ∷ es) = gather (enter d e) es

  -- the table after all entries of the other came
  abbrev pub joined : Sound key fine → Sound key fine → Sound key fine
  joined d u = gather d u.0

  -- the laws of joining
  pub record JoinsAreLawful : Type 0 where
    pub associative : (x y z : Sound key fine) → joined (joined x y) z ≡ joined x (joined y z)
    pub commutative : (x y : Sound key fine) → joined x y ≡ joined y x
    pub idempotent : (x : Sound key fine) → joined x x ≡ x
    pub neutral : (x : Sound key fine) → joined none x ≡ x

  -- an entry that is held and does not fall below the newcomer
  abbrev pub HeldOff : E → Option E → Type 0
  HeldOff e None = ⊥
  HeldOff e (Some h) = above e h ≡ false

  -- what the choice leaves out of d is held off by e
  abbrev pub Covers : (E → Bool) → Sound key fine → Sound key fine → Type 0
  Covers choice d e = (c : ℕ) (x : E) → held key c d.0 ≡ Some x → choice x ≡ false → HeldOff x (held key c e.0)

  -- a choice among the entries of d is a table of its own; joined to what covers the rest, it does what all of d does
  pub record ChoicesBringAll : Type 0 where
    pub gathered : (choice : E → Bool) (d : Sound key fine) → (gather none (filter choice d.0)).0 ≡ filter choice d.0
    pub enough : (choice : E → Bool) (d e : Sound key fine) → Covers choice d e → joined e (gather none (filter choice d.0)) ≡ joined e d

  -- the table after what was read came; as it was, where it could not be read
  abbrev pub gathered : Sound key fine → Result (List E) WireFault → Sound key fine
  gathered d (Ok es) = gather d es
  gathered d (Err f) = d

  -- the table with these entries, where they are sound
  abbrev pub table : List E → Sound key fine
  table xs = admit xs none
