use Rattle.std.proofs.Common.{◌≡◌}
use Rattle.encoding.specs.Entries.{entries, counted, verdict}
use Rattle.encoding.proofs.entries.check_counted.Given as goal

-- what is due is refused as the whole is
abbrev pub invariant-loop-entry : goal.invariant-loop-entry
invariant-loop-entry g l =
    (goal.iterator-loop-entry g).can_next l.entry-iterator
    × (goal.iterator-loop-entry g).is_finite l.entry-iterator
    × (verdict (counted g.E.Decode.entry g.N.VarInt.BITS l.s) ≡ verdict (entries g.E.Decode.entry l.entry-iterator.left l.entry-iterator.rest.now))
