use Rattle.std.proofs.Common.{length, sym, ap, ◌∙◌, arith}
use Rattle.message.proofs.Arrivals.{step_of}
use Rattle.message.proofs.arrived.ArrivedEntriesIterator.next.Goals as goal

pub unwrap-requires : goal.unwrap-requires
unwrap-requires c = (step_of c.self.inside.left c.self.inside.rest.now c.read_passed.result c.if-self-eq0.false c.self.invariant c.read_passed.ensures).reads

pub invariant_of-result : goal.invariant_of-result
invariant_of-result c = (step_of c.self.inside.left c.self.inside.rest.now c.read_passed.result c.if-self-eq0.false c.self.invariant c.read_passed.ensures).readable c.unwrap.result c.unwrap.ensures

pub invariant_of-self : goal.invariant_of-self
invariant_of-self c = (step_of c.self.inside.left c.self.inside.rest.now c.read_passed.result c.if-self-eq0.false c.self.invariant c.read_passed.ensures).others c.unwrap.result c.unwrap.ensures

pub returns-clause-steps : goal.returns-clause-steps
returns-clause-steps c = sym c.self.view_is ∙ (step_of c.self.inside.left c.self.inside.rest.now c.read_passed.result c.if-self-eq0.false c.self.invariant c.read_passed.ensures).are c.unwrap.result c.unwrap.ensures

pub returns-clause-goes : goal.returns-clause-goes
returns-clause-goes c = let e = ap length (returns-clause-steps c) in omega arith
