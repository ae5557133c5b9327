use Rattle.encoding.proofs.Shortest.{shortest_is_shortest}
use Rattle.encoding.proofs.laws.shortest_is_shortest.Goals as goal

pub returns : goal.returns
returns c = shortest_is_shortest
