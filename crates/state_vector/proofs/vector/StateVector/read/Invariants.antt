use Rattle.std.proofs.Common.{◌≡◌, ◌+◌, ◌≤◌, length}
use Rattle.encoding.specs.Entries.{entries}
use Rattle.state_vector.specs.Vector.{vector, vector_entry, tabled_after}
use Rattle.state_vector.proofs.vector.StateVector.read.Given as goal

-- the entries still due have places, and make, beside those held, the whole vector
abbrev pub invariant-loop-e : goal.invariant-loop-e
invariant-loop-e l = (length l.v + l.e-iterator.left ≤ 64) × (vector l.s ≡ tabled_after l.v (entries vector_entry l.e-iterator.left l.e-iterator.rest.now))
