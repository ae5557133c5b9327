use Rattle.std.proofs.Common.{◌≡◌, rules, arith}
use Rattle.document.proofs.laws.exchanges_join.Goals as goal

-- what the update brings to the old document it brings to whatever that became
pub returns : goal.returns
returns g c there old since own small =
    let k = g.H.DocumentHost.kind in
    let laws = g.met.H.DocumentHost.lawful in
    let brings = laws.brings there old small in
    let same : k.join (k.join old since) brings.brought ≡ k.join (k.join old since) there = grind (arith, laws.associative, laws.commutative, brings.enough) in
    record {
      accepted_if_it_fits = rw brings.readable (rw same (search rules));
      fits_if_accepted = rw brings.readable (rw same (search rules));
      joined = rw brings.readable (rw same (search rules));
    }
