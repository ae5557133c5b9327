use Rattle.std.proofs.Common.{rules, ◌≡◌, ◌+◌, ◌≤◌, length, true, is_some, ap, ◌∙◌, subst, arith}
use Rattle.state_vector.specs.Tables.{ascends, Found, Missing}
use Rattle.awareness.specs.Record.{client_of}
use Rattle.awareness.specs.Taking.{plain}
use Rattle.awareness.proofs.Newcomers.{room_passes, length_most, new_ones_start, new_ones_known, new_ones_put, new_ones_none, new_ones_fit, new_ones_fail}
use Rattle.awareness.proofs.awareness.Awareness.judge_room.Goals as goal

pub returns-then-len-le-MAX_ENTRIES : goal.returns-then-len-le-MAX_ENTRIES
returns-then-len-le-MAX_ENTRIES c now = let l = length_most c.args.self.now.own now c.args.self.now.rows c.args.update.now in let k : length c.args.self.now.rows + length c.args.update.now ≤ 64 = search rules in room_passes _ (omega (arith, l, k))

pub loop-e-init : goal.loop-e-init
loop-e-init c now = new_ones_start c.args.self.now.own now c.args.self.now.rows c.args.update.now _ _ (c.into_iter-e-iterator.ensures.into_iter_gives ∙ c.iter-e-items.ensures) c.new-new.ensures (subst (λ a. ascends client_of a.rows ≡ true) c.self.view_is c.self.invariant.1)

pub loop-e-preserved-in-Ok : goal.loop-e-preserved-in-Ok
loop-e-preserved-in-Ok c now =
    let found : Found client_of c.in-Some.e.client c.args.self.now.rows c.in-Ok.at = search rules in
    new_ones_known c.args.self.now.own now c.args.self.now.rows c.args.update.now (c.loop-e.invariant now).0 c.loop-e.new c.loop-e.e-iterator c.in-Some.e c.next.new.self (c.loop-e.invariant now).1 c.in-Some.ensures.steps (ap is_some (found.2 (plain now c.in-Some.e)))

pub returns-in_err-put-in-Err : goal.returns-in_err-put-in-Err
returns-in_err-put-in-Err c now =
    let missing : Missing client_of c.in-Some.e.client c.args.self.now.rows c.in-Err.at = search rules in
    (search rules) ∙ new_ones_none c.args.self.now.own now c.args.self.now.rows c.args.update.now (c.loop-e.invariant now).0 c.loop-e.new c.loop-e.e-iterator c.in-Some.e c.next.new.self (c.loop-e.invariant now).1 c.in-Some.ensures.steps c.put.result c.in_err-put-in-Err.field-0.0 (ap is_some missing.2) (search rules) (search rules)

pub loop-e-preserved : goal.loop-e-preserved
loop-e-preserved c now =
    let missing : Missing client_of c.in-Some.e.client c.args.self.now.rows c.in-Err.at = search rules in
    new_ones_put c.args.self.now.own now c.args.self.now.rows c.args.update.now (c.loop-e.invariant now).0 c.loop-e.new c.loop-e.e-iterator c.in-Some.e c.next.new.self (c.loop-e.invariant now).1 c.in-Some.ensures.steps c.put.result c.in_ok-put-in-Err.field-0 c.put.new.self (ap is_some missing.2) (search rules) (search rules) (search rules)

pub returns-then-len-le-MAX_ENTRIES-2 : goal.returns-then-len-le-MAX_ENTRIES-2
returns-then-len-le-MAX_ENTRIES-2 c now = new_ones_fit c.args.self.now.own now c.args.self.now.rows c.args.update.now c.loop-e.new c.loop-e.e-iterator (c.loop-e.invariant now) c.in-None.ensures.steps.0 (search rules)

pub returns-else-len-le-MAX_ENTRIES-2 : goal.returns-else-len-le-MAX_ENTRIES-2
returns-else-len-le-MAX_ENTRIES-2 c now = new_ones_fail c.args.self.now.own now c.args.self.now.rows c.args.update.now c.loop-e.new c.loop-e.e-iterator (c.loop-e.invariant now) c.in-None.ensures.steps.0 (search rules)
