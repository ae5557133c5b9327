use Rattle.std.proofs.Common.{rules, ◌≡◌, ◌<◌, true, length}
use Rattle.state_vector.specs.Tables.{ascends}
use Rattle.state_vector.proofs.Lookups.{held_from}
use Rattle.awareness.specs.Record.{client_of}
use Rattle.awareness.proofs.awareness.Awareness.find_near.Goals as goal

pub returns-in-Some : goal.returns-in-Some
returns-in-Some c =
    let up : ascends client_of c.args.self.now.rows ≡ true = search rules in
    let inside : c.args.near < length c.args.self.now.rows = search rules in
    held_from client_of c.args.client c.args.self.now.rows c.args.near up inside (λ d. search rules)
