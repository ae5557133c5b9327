-- What a place lends: the hub that lies there, and the place ends with what the borrower left.
use Rattle.std.specs.Borrow.{Fml, Lends, MutBor}
use Rattle.hub_c.specs.Places.{ProductHub, hub_row}
use Rattle.hub_c.specs.declared.place.Place.{Place}
use Rattle.hub_c.specs.contracts.place.Place.{the_row}

abbrev pub LendsHub : MutBor Place → MutBor ProductHub → Fml
LendsHub s r = Lends the_row hub_row s r (λ w. record s.now { hub = w })
