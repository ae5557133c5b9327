-- Slots that are made of a client, a clock and bytes.
use Rattle.std.proofs.Common.{◌≡◌, ℕ, ◌^◌, ◌<◌, true, leb, ltb, List, ◌++◌, length, take, drop, replicate, Ok, sym, ap, ◌∙◌, subst}
use Rattle.std.proofs.Math.Seq.{take-append_seam}
use Rattle.std.proofs.lemmas.Bool.{and_from, leb-true, lt-ltb}
use Rattle.std.proofs.lemmas.List.{drop-replicate}
use Rattle.encoding.specs.declared.fault.WireFault.TheVariants.{UnexpectedValue, InvalidClientId, TextTooLong}
use Rattle.encoding.specs.Fields.{client_id}
use Rattle.encoding.proofs.Exacts.{test_passes}
use Rattle.boards.specs.SlotBoard.{keepable, slot_clock, slot_bytes}
use Rattle.boards.specs.SlotLaid.{padded, Laid}

module _ (bs : List ℕ) (room : slot_bytes bs ≡ Ok tt) where
  abbrev places : List ℕ
  places = bs ++ drop (length bs) (replicate 32 0)

  front : take (length bs) places ≡ bs
  front = take-append_seam bs (drop (length bs) (replicate 32 0))

  short : leb (length bs) 32 ≡ true
  short = test_passes TextTooLong (leb (length bs) 32) room

  -- bytes at the front of zeros lie as a slot's
  laid : Laid (length bs) places
  laid = record { short = leb-true _ 32 short; zeros = ap padded front ∙ ap (λ l. bs ++ l) (sym (drop-replicate (length bs) 32 0)) }

  -- and the slot may be held, where its parts have passed
  pub made : (id n : ℕ) → client_id id ≡ Ok tt → slot_clock n ≡ Ok tt → n < 2 ^ 32 → Laid (length bs) places × (keepable (record { client = id; clock = n; bytes = take (length bs) places }) ≡ true)
  made id n known set narrow =
      let fine = and_from _ _ (test_passes InvalidClientId (ltb id (2 ^ 53)) known) (and_from _ _ (test_passes UnexpectedValue (ltb 0 n) set) (and_from _ _ (lt-ltb n (2 ^ 32) narrow) short)) in
      (laid, subst (λ l. keepable (record { client = id; clock = n; bytes = l }) ≡ true) (sym front) fine)
