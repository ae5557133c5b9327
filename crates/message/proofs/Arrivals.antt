-- Entries that were read once, walked through again.
use Rattle.std.proofs.Common.{◌≡◌, ℕ, zero, suc, ◌-◌, ◌^◌, ◌≤◌, Bool, true, false, cond, leb, List, ◌∷◌, length, is_ok, None, Ok, Err, Result, sym, refl, ap, ◌∙◌, subst, arith}
use Rattle.std.proofs.lemmas.Bool.{leb-true}
use Rattle.std.specs.Borrow.{Bor}
use Rattle.encoding.specs.declared.fault.WireFault.{WireFault}
use Rattle.encoding.specs.Entries.{entries, past, past_of}
use Rattle.encoding.specs.declared.fault.WireFault.TheVariants.{TooManyEntries}
use Rattle.encoding.specs.Fields.{buffer, client_id_in, count, count_in, presence_text, presence_text_in}
use Rattle.encoding.specs.Reading.{Reading, thence, named, read_as}
use Rattle.encoding.specs.VarUint.{var_uint}
use Rattle.encoding.proofs.Exacts.{ok_is, never, came, named_came, tested}
use Rattle.message.specs.declared.presence.PresenceEntry.{PresenceEntry}
use Rattle.message.specs.Arrived.{passed_entry, listed, due, alone, single}
use Rattle.message.specs.Owned.{state_text}
use Rattle.message.specs.Presence.{Entry, entry_is, state_of, presence_entry, presence}
use Rattle.message.specs.Writing.{Readable}
use Rattle.message.proofs.Contents.{exact_presence_entry, state_says}

abbrev made : ℕ → ℕ → List ℕ → Entry
made id n bs = record { client = id; clock = n; state = state_of bs }

abbrev from_text : ℕ → ℕ → List ℕ → Reading Entry
from_text id n s = named (made id n) (presence_text_in s)

abbrev from_clock : ℕ → List ℕ → Reading Entry
from_clock id s = thence (var_uint (2 ^ 32 - 1) s) (from_text id)

abbrev passed_clock : ℕ → List ℕ → Reading Entry
passed_clock id s = thence (var_uint (2 ^ 32 - 1) s) (λ n after. named (made id n) (buffer after))

-- an entry that was read is read again without judging its text, and can be written
pub passes_again : (s rest : List ℕ) (e : Entry) → presence_entry s ≡ Ok (e, rest) → (passed_entry s ≡ Ok (e, rest)) × Readable e
passes_again s rest e h =
    let (id, mid, r, k) = came client_id_in from_clock s e rest (client_id_in s) refl h in
    let (n, after, t, l) = came (var_uint (2 ^ 32 - 1)) (from_text id) mid e rest (var_uint (2 ^ 32 - 1) mid) refl k in
    let (bs, q, is) = named_came (made id n) presence_text_in after e rest (presence_text_in after) refl l in
    let (b, good) = tested presence_text buffer after bs rest (buffer after) refl q in
    let (spelling, front, (a, c, d, text, i, known, narrow, short, shows)) = exact_presence_entry.taken_is_spelt s e rest h in (
      ap (λ v. thence v passed_clock) r ∙ ap (λ v. thence v (λ n after. named (made id n) (buffer after))) t ∙ ap (named (made id n)) b ∙ ap (λ x. Ok (x, rest)) is,
      (known.1, omega (arith, narrow.2), subst (λ x. presence_text (state_text x.state) ≡ Ok tt) is (subst (λ bs. presence_text bs ≡ Ok tt) (sym (state_says bs)) good)),
    )

-- so many entries that were read are a first one, and the others after it
module _ {X : Type 0} (one : List ℕ → Reading X) where
  pub record First (n : ℕ) (s : List ℕ) : Type 0 where
    pub head : X
    pub rest : List ℕ
    pub reads : one s ≡ Ok (head, rest)
    pub others : is_ok (entries one n rest) ≡ true
    pub are : listed (entries one (suc n) s) ≡ head ∷ listed (entries one n rest)

  with_others : (n : ℕ) (s rest : List ℕ) (x : X) (v : Reading (List X)) → one s ≡ Ok (x, rest) → entries one n rest ≡ v → is_ok (named (λ xs. x ∷ xs) v) ≡ true → First n s
  with_others n s rest x (Ok p) h i k = record {
    head = x;
    rest = rest;
    reads = h;
    others = ap is_ok i;
    are = ap (λ r. listed (thence r (λ y after. named (λ xs. y ∷ xs) (entries one n after)))) h ∙ ap (λ r. listed (named (λ xs. x ∷ xs) r)) i ∙ sym (ap (λ r. x ∷ listed r) i);
  }
  with_others n s rest x (Err f) h i k = cc

  with_first : (n : ℕ) (s : List ℕ) (v : Reading X) → one s ≡ v → is_ok (thence v (λ y after. named (λ xs. y ∷ xs) (entries one n after))) ≡ true → First n s
  with_first n s (Ok p) h k = with_others n s p.1 p.0 (entries one n p.1) h refl k
  with_first n s (Err f) h k = cc

  pub first_of : (n : ℕ) (s : List ℕ) → is_ok (entries one (suc n) s) ≡ true → First n s
  first_of n s k = with_first n s (one s) refl k

  -- as many were read as were declared
  pub length_listed : (n : ℕ) (s : List ℕ) → is_ok (entries one n s) ≡ true → length (listed (entries one n s)) ≡ n
  length_listed zero s k = refl
  length_listed (suc n) s k = let f = first_of n s k in ap length f.are ∙ ap suc (length_listed n f.rest f.others)

-- entries that could be read past are those that were read
pub read_past : {X : Type 0} (b : Bor (List ℕ)) (v : Reading (List X)) → past_of (Ok b) ≡ past v → (is_ok v ≡ true) × (alone v ≡ Ok (listed v))
read_past b (Ok p) h = (refl, refl)
read_past b (Err f) h = absurd (never (sym h))

-- and a fault of reading past them is that of reading them
pub fault_past : {X : Type 0} (f : WireFault) (v : Reading X) → past_of (Err f) ≡ past v → alone v ≡ Err f
fault_past f (Ok p) h = absurd (never h)
fault_past f (Err g) h = cc

-- one step of the walk over so many entries, by what reading without judging answered
pub record Step (n : ℕ) (s : List ℕ) (r : Result (PresenceEntry × Bor (List ℕ)) WireFault) : Type 0 where
  pub reads : is_ok r ≡ true
  pub readable : (p : PresenceEntry × Bor (List ℕ)) → r ≡ Ok p → Readable (entry_is p.0)
  pub others : (p : PresenceEntry × Bor (List ℕ)) → r ≡ Ok p → is_ok (entries presence_entry (n - 1) p.1.now) ≡ true
  pub are : (p : PresenceEntry × Bor (List ℕ)) → r ≡ Ok p → due n s ≡ entry_is p.0 ∷ due (n - 1) p.1.now

answered_so : (r : Result (PresenceEntry × Bor (List ℕ)) WireFault) (e : Entry) (rest : List ℕ) (p : PresenceEntry × Bor (List ℕ)) → read_as entry_is r ≡ Ok (e, rest) → r ≡ Ok p → (entry_is p.0 ≡ e) × (p.1.now ≡ rest)
answered_so r e rest p h i = ok_is (sym (ap (read_as entry_is) i) ∙ h)

answers : (r : Result (PresenceEntry × Bor (List ℕ)) WireFault) (e : Entry) (rest : List ℕ) → read_as entry_is r ≡ Ok (e, rest) → is_ok r ≡ true
answers (Ok p) e rest h = refl
answers (Err f) e rest h = absurd (never h)

pub step_of : (n : ℕ) (s : List ℕ) (r : Result (PresenceEntry × Bor (List ℕ)) WireFault) → (n ≡ 0 → ⊥) → is_ok (entries presence_entry n s) ≡ true → read_as entry_is r ≡ passed_entry s → Step n s r
step_of zero s r h k i = absurd (h refl)
step_of (suc m) s r h k i =
    let f = first_of presence_entry m s k in
    let again = passes_again s f.rest f.head f.reads in
    let is : (p : PresenceEntry × Bor (List ℕ)) → r ≡ Ok p → (entry_is p.0 ≡ f.head) × (p.1.now ≡ f.rest) = λ p. answered_so r f.head f.rest p (i ∙ again.0) in
    let one_less : suc m - 1 ≡ m = omega arith in
    record {
      reads = answers r f.head f.rest (i ∙ again.0);
      readable = λ p j. subst Readable (sym (is p j).0) again.1;
      others = λ p j. subst (λ k. is_ok (entries presence_entry k p.1.now) ≡ true) (sym one_less) (subst (λ l. is_ok (entries presence_entry m l) ≡ true) (sym (is p j).1) f.others);
      are = λ p j. f.are ∙ ap (λ x. x ∷ due m f.rest) (sym (is p j).0) ∙ ap (λ l. entry_is p.0 ∷ due m l) (sym (is p j).1) ∙ ap (λ k. entry_is p.0 ∷ due k p.1.now) (sym one_less);
    }

-- where another number of entries was declared there is no single one
pub not_single : (n : ℕ) (s : List ℕ) → (n ≡ 1 → ⊥) → None ≡ single (entries presence_entry n s)
not_single zero s h = refl
not_single (suc zero) s h = absurd (h refl)
not_single (suc (suc n)) s h = by_first (presence_entry s) where
  by_others : (e f : Entry) (v : Reading (List Entry)) → None ≡ single (named (λ xs. e ∷ xs) (named (λ xs. f ∷ xs) v))
  by_others e f (Ok p) = refl
  by_others e f (Err g) = refl

  by_second : (e : Entry) (r : Reading Entry) → None ≡ single (named (λ xs. e ∷ xs) (thence r (λ f rest. named (λ xs. f ∷ xs) (entries presence_entry n rest))))
  by_second e (Ok p) = by_others e p.0 (entries presence_entry n p.1)
  by_second e (Err g) = refl

  by_first : (r : Reading Entry) → None ≡ single (thence r (λ e rest. named (λ xs. e ∷ xs) (entries presence_entry (suc n) rest)))
  by_first (Ok p) = by_second p.0 (presence_entry p.1)
  by_first (Err g) = refl

-- an update that was read has 64 entries at most
pub few_entries : (s : List ℕ) (es : List Entry) → alone (presence s) ≡ Ok es → length es ≤ 64
unfolding presence
few_entries s es h = by_reading (presence s) refl h where
  small : (b : Bool) → ◌≡◌ {A = Result (Unit {0}) WireFault} (cond b (Ok tt) (Err TooManyEntries)) (Ok tt) → b ≡ true
  small true q = refl
  small false q = cc

  by_reading : (v : Reading (List Entry)) → presence s ≡ v → alone v ≡ Ok es → length es ≤ 64
  by_reading (Ok p) is j =
      let (n, mid, r, k) = came (count_in 64) (entries presence_entry) s p.0 p.1 (count_in 64 s) refl is in
      let (b, good) = tested count (var_uint (2 ^ 64 - 1)) s n mid (var_uint (2 ^ 64 - 1) s) refl r in
      let same : p.0 ≡ es = cc in
      omega (arith, leb-true n 64 (small (leb n 64) good), length_listed presence_entry n mid (ap is_ok k), ap (λ v. length (listed v)) k, ap length same)
  by_reading (Err f) is j = absurd (never j)
