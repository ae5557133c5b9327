use Rattle.std.proofs.Common.{◌≡◌, true, sym, ap, ◌∙◌, subst}
use Rattle.state_vector.specs.Tables.{ascends}
use Rattle.awareness.specs.Changes.{changes, noted}
use Rattle.awareness.specs.Record.{client_of}
use Rattle.awareness.specs.Taking.{taken}
use Rattle.awareness.proofs.Walking.{all_left, first_passes, others_left}
use Rattle.awareness.proofs.awareness.Awareness.take.Goals as goal

pub loop-e-init : goal.loop-e-init
loop-e-init g c =
    let up = subst (λ a. ascends client_of a.rows ≡ true) c.self.view_is c.self.invariant.1 in
    all_left g.O.Observer.after c.args.self.now.own c.args.now c.args.self.now.rows c.args.update.now c.into_iter-e-iterator.result c.args.seen.now (c.into_iter-e-iterator.ensures.into_iter_gives ∙ c.iter-e-items.ensures) up c.requires

pub receive_at-change-requires-clause-room : goal.receive_at-change-requires-clause-room
receive_at-change-requires-clause-room g c = (first_passes g.O.Observer.after _ _ _ _ _ _ _ _ c.in-Some.e c.next.new.self _ c.loop-e.invariant c.in-Some.ensures.steps).room

pub receive_at-change-requires-clause-rises : goal.receive_at-change-requires-clause-rises
receive_at-change-requires-clause-rises g c = (first_passes g.O.Observer.after _ _ _ _ _ _ _ _ c.in-Some.e c.next.new.self _ c.loop-e.invariant c.in-Some.ensures.steps).rises

pub loop-e-preserved : goal.loop-e-preserved
loop-e-preserved g c = others_left g.O.Observer.after _ _ _ _ _ _ _ _ c.in-Some.e c.next.new.self _ _ _ _ _ c.loop-e.invariant c.in-Some.ensures.steps c.receive_at-change.ensures.own c.receive_at-change.ensures.rows c.receive_at-change.ensures.change (c.note.ensures ∙ ap (λ n. g.O.Observer.after c.loop-e.seen n c.receive_at-change.result) c.client-in-loop-e.ensures)

pub returns-clause-rows : goal.returns-clause-rows
returns-clause-rows g c = let l = c.loop-e.invariant in sym (l.rest ∙ ap (taken c.args.self.now.own c.args.now c.loop-e.self.rows) c.in-None.ensures.steps.0)

pub returns-clause-own : goal.returns-clause-own
returns-clause-own g c = c.loop-e.invariant.same

pub returns-clause-seen : goal.returns-clause-seen
returns-clause-seen g c = let l = c.loop-e.invariant in sym (l.told ∙ ap (λ es. noted g.O.Observer.after c.loop-e.seen (changes c.args.self.now.own c.args.now c.loop-e.self.rows es)) c.in-None.ensures.steps.0)
