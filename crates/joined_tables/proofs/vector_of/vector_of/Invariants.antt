use Rattle.std.proofs.Common.{◌≡◌, ◌^◌, ◌≤◌, true, map, length, drop}
use Rattle.state_vector.specs.Tables.{all_below, always, row}
use Rattle.state_vector.specs.Vector.{client_of}
use Rattle.joined_tables.proofs.vector_of.vector_of.Given as goal

-- the entries that are left make of the vector what all of them make
abbrev pub invariant-loop-e : goal.invariant-loop-e
invariant-loop-e g l =
    let left = map g.E.InVector.tells (drop l.e-index l.entries) in
    record {
      few : length l.vector ≤ l.e-index;
      known : all_below client_of (2 ^ 53) left ≡ true;
      same : row client_of always l.vector left ≡ map g.E.InVector.tells l.entries;
    }
