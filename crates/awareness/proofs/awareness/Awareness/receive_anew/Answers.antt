use Rattle.std.proofs.Common.{◌≤◌, ◌∙◌, refl, sym, subst, length}
use Rattle.awareness.proofs.Coming.{came_in, came_none}
use Rattle.awareness.proofs.awareness.Awareness.receive_anew.Goals as goal

pub store-requires : goal.store-requires
store-requires c =
    let i = came_in c.args.self.now c.args.self.now.own c.args.now c.args.self.now.rows c.args.e.now c.in-Some.record c.meet-change.result.1 refl c.meet-change.ensures.ascends c.meet-change.ensures.record c.in-Some.is c.requires.room in
    subst (λ rows. length rows ≤ 64) (sym i.is) c.requires.room

pub returns-in-Some-clause-rows : goal.returns-in-Some-clause-rows
returns-in-Some-clause-rows c = c.store.ensures.rows ∙ (came_in c.args.self.now c.args.self.now.own c.args.now c.args.self.now.rows c.args.e.now c.in-Some.record c.meet-change.result.1 refl c.meet-change.ensures.ascends c.meet-change.ensures.record c.in-Some.is c.requires.room).is

pub returns-in_default-clause-rows : goal.returns-in_default-clause-rows
returns-in_default-clause-rows c = came_none c.args.self.now c.args.self.now.own c.args.now c.args.self.now.rows c.args.e.now c.meet-change.result.1 refl c.meet-change.ensures.ascends c.meet-change.ensures.record c.in_default.not-Some
