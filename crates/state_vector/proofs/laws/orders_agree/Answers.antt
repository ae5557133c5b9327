use Rattle.state_vector.proofs.Rows.{any_order}
use Rattle.state_vector.proofs.laws.orders_agree.Goals as goal

pub returns : goal.returns
returns g c =
    let m = g.met.E.Standing in
    any_order g.E.Keyed.key g.E.Standing.above record { irreflexive = m.irreflexive; asymmetric = m.asymmetric; third = m.third }
