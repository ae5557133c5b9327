use Rattle.std.proofs.Common.{rules, ◌≡◌, ◌<◌, ◌≤◌, length, true, [], ◌∷◌, is_some, None, ap, subst, arith}
use Rattle.state_vector.specs.Tables.{ascends, Found}
use Rattle.awareness.specs.Record.{client_of, held_of}
use Rattle.awareness.specs.Taking.{plain}
use Rattle.awareness.proofs.Newcomers.{room_passes, length_most, known_passes, new_fails}
use Rattle.awareness.proofs.awareness.Awareness.judge_place.Goals as goal

pub returns-then-len-lt-MAX_ENTRIES : goal.returns-then-len-lt-MAX_ENTRIES
returns-then-len-lt-MAX_ENTRIES c now =
    let k : length c.args.self.now.rows < 64 = search rules in
    room_passes _ (omega (arith, k, length_most c.args.self.now.own now c.args.self.now.rows (c.args.e.now ∷ [])))

pub returns-in-Ok : goal.returns-in-Ok
returns-in-Ok c now =
    let up = subst (λ a. ascends client_of a.rows ≡ true) c.self.view_is c.self.invariant.1 in
    let few : length c.args.self.now.rows ≤ 64 = search rules in
    let found : Found client_of c.args.e.now.client c.args.self.now.rows c.in-Ok.field-0 = search rules in
    known_passes c.args.self.now.own now c.args.self.now.rows c.args.e.now up (ap is_some (found.2 (plain now c.args.e.now))) few

pub returns-in-Err : goal.returns-in-Err
returns-in-Err c now =
    let up = subst (λ a. ascends client_of a.rows ≡ true) c.self.view_is c.self.invariant.1 in
    let all : 64 ≤ length c.args.self.now.rows = search rules in
    let none : held_of c.args.e.now.client c.args.self.now.rows ≡ None = search rules in
    new_fails c.args.self.now.own now c.args.self.now.rows c.args.e.now up (ap is_some none) all
