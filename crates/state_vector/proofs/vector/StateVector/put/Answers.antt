use Rattle.std.proofs.Common.{rules}
use Rattle.state_vector.proofs.Vectors.{writable_put}
use Rattle.state_vector.proofs.vector.StateVector.put.Goals as goal

pub invariant_of-self-2 : goal.invariant_of-self-2
invariant_of-self-2 c = writable_put c.self.inside.table c.put.new.self c.args.e (search rules) (search rules) c.put.ensures.used c.self.invariant
