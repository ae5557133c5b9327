use Rattle.std.proofs.Common.{rules, ◌≡◌, true, false, refl, ◌∙◌, subst}
use Rattle.state_vector.specs.Tables.{ascends}
use Rattle.awareness.specs.Calls.{past_end}
use Rattle.awareness.specs.Following.{so_far, stands}
use Rattle.awareness.specs.Record.{client_of, held_of}
use Rattle.awareness.proofs.Following.{follows_start, follows_own, follows_end, follows_other, follows_done, low_of_writable}
use Rattle.awareness.proofs.awareness.Awareness.judge_own.Goals as goal

pub loop-e-init : goal.loop-e-init
loop-e-init c now =
    follows_start c.args.self.now.own now c.args.self.now.rows c.args.update.now _ _ (c.into_iter-e-iterator.ensures.into_iter_gives ∙ c.iter-e-items.ensures) (subst (λ a. ascends client_of a.rows ≡ true) c.self.view_is c.self.invariant.1) refl
    (subst (λ a. past_end (held_of c.args.self.now.own a.rows) ≡ false) c.self.view_is (low_of_writable c.args.self.now.own c.self.inside.table c.self.invariant.2))

pub returns-in_err-after : goal.returns-in_err-after
returns-in_err-after c now = (search rules) ∙ follows_end c.args.self.now.own now c.args.self.now.rows c.args.update.now (so_far c.loop-e.followed (stands (held_of c.args.self.now.own c.args.self.now.rows))) (c.loop-e.invariant now).0 c.loop-e.e-iterator c.in-Some.e c.next.new.self (c.loop-e.invariant now).1 c.in-Some.ensures.steps c.after.result c.in_err-after.field-0.0 (search rules) (search rules) (search rules)

pub loop-e-preserved-then-client-self : goal.loop-e-preserved-then-client-self
loop-e-preserved-then-client-self c now = follows_own c.args.self.now.own now c.args.self.now.rows c.args.update.now (so_far c.loop-e.followed (stands (held_of c.args.self.now.own c.args.self.now.rows))) (c.loop-e.invariant now).0 c.loop-e.e-iterator c.in-Some.e c.next.new.self (c.loop-e.invariant now).1 c.in-Some.ensures.steps c.after.result c.in_ok-after.field-0 (search rules) (search rules) (search rules)

pub loop-e-preserved : goal.loop-e-preserved
loop-e-preserved c now = follows_other c.args.self.now.own now c.args.self.now.rows c.args.update.now (so_far c.loop-e.followed (stands (held_of c.args.self.now.own c.args.self.now.rows))) (c.loop-e.invariant now).0 c.loop-e.e-iterator c.in-Some.e c.next.new.self (c.loop-e.invariant now).1 c.in-Some.ensures.steps (search rules)

pub returns : goal.returns
returns c now = follows_done c.args.self.now.own now c.args.self.now.rows c.args.update.now (so_far c.loop-e.followed (stands (held_of c.args.self.now.own c.args.self.now.rows))) c.loop-e.e-iterator (c.loop-e.invariant now) c.in-None.ensures.steps.0
