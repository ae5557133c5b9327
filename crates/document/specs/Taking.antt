-- What taking bytes does to a document, and the laws of taking.
--   document_number   the number of a document fault
--   UnreadableWith   bytes that are unreadable, by the number of the fault
--   answer_to         what is answered to a reading
--   after            the document after a reading
--   accepts          what is answered to bytes
--   taken            the document after bytes came
--   TakingTwiceIsTakingOnce    an update that comes again changes nothing
--   EitherOrderGivesOneDocument   two updates, in either order
--   HandedOver      what a host makes of an update meant for it
--   ExchangesJoin   an update for a vector of one's own, even an old one, gives the join
use Rattle.std.specs.Prelude.{◌≡◌, ℕ, ◌≤◌, cond, List, Ok, Err, Result, nat_le}
use Rattle.encoding.specs.declared.fault.WireFault.{WireFault}
use Rattle.encoding.specs.Fault.{wire_number}
use Rattle.document.specs.declared.fault.DocumentFault.{DocumentFault}
use Rattle.document.specs.declared.fault.DocumentFault.TheVariants.{Unreadable, TooLarge}
use Rattle.document.specs.Kind.{Kind}

-- the number under which a document fault is known to users
abbrev pub document_number : DocumentFault → ℕ
document_number (Unreadable f) = 12
document_number TooLarge = 13

-- bytes that are unreadable for a fault with this number
abbrev pub UnreadableWith : Kind → ℕ → List ℕ → Type 0
UnreadableWith k n bytes = (f : WireFault) × (k.reading bytes ≡ Err f) × (wire_number f ≡ n)

module _ (k : Kind) (limit : ℕ) where
  -- what is answered where d stands and the update was read, or was not: unreadable, then too large
  abbrev pub answer_to : k.Document → Result k.Document WireFault → Result (Unit {0}) DocumentFault
  answer_to d (Err f) = Err (Unreadable f)
  answer_to d (Ok u) = cond (nat_le (k.size (k.join d u)) limit) (Ok tt) (Err TooLarge)

  -- the document then: the join where it is within the limit, and else what it was
  abbrev pub after : k.Document → Result k.Document WireFault → k.Document
  after d (Err f) = d
  after d (Ok u) = cond (nat_le (k.size (k.join d u)) limit) (k.join d u) d

  -- what a host with the document d answers to bytes
  abbrev pub accepts : k.Document → List ℕ → Result (Unit {0}) DocumentFault
  accepts d bytes = answer_to d (k.reading bytes)

  -- and its document then
  abbrev pub taken : k.Document → List ℕ → k.Document
  taken d bytes = after d (k.reading bytes)

  -- an update that was accepted is accepted again, and changes nothing more
  abbrev pub TakingTwiceIsTakingOnce : Type 0
  TakingTwiceIsTakingOnce = (d : k.Document) (bytes : List ℕ) → accepts d bytes ≡ Ok tt → (accepts (taken d bytes) bytes ≡ Ok tt) × (taken (taken d bytes) bytes ≡ taken d bytes)

  -- two updates that are accepted in either order give one document
  abbrev pub EitherOrderGivesOneDocument : Type 0
  EitherOrderGivesOneDocument =
      (d : k.Document) (one other : List ℕ) → accepts d one ≡ Ok tt → accepts (taken d one) other ≡ Ok tt → accepts d other ≡ Ok tt → accepts (taken d other) one ≡ Ok tt
      → taken (taken d one) other ≡ taken (taken d other) one

-- a host with the document here and its own limit is handed bytes that another made from the document there
pub record HandedOver (k : Kind) (limit : ℕ) (here there : k.Document) (bytes : List ℕ) : Type 0 where
  -- they are accepted exactly where the join of the two is within the limit
  pub accepted_if_it_fits : k.size (k.join here there) ≤ limit → accepts k limit here bytes ≡ Ok tt
  pub fits_if_accepted : accepts k limit here bytes ≡ Ok tt → k.size (k.join here there) ≤ limit
  -- and then the document is that join
  pub joined : accepts k limit here bytes ≡ Ok tt → taken k limit here bytes ≡ k.join here there

-- the document there, within its limit, made an update for the vector of an old document, which has since become here by joins; the taker has a limit of its own
abbrev pub ExchangesJoin : Kind → ℕ → Type 0
ExchangesJoin k limit = (there old since : k.Document) (own : ℕ) → k.size there ≤ limit → HandedOver k own (k.join old since) there (k.update there (k.vector old))
