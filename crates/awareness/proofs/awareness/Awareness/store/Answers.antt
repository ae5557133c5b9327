use Rattle.std.proofs.Common.{◌≡◌, ◌≤◌, true, sym, ap, ◌∙◌, subst, is_ok, length}
use Rattle.state_vector.specs.Tables.{always, ascends}
use Rattle.state_vector.proofs.Entering.{ascends_entered}
use Rattle.message.proofs.Sound.{All-entered}
use Rattle.awareness.specs.Record.{client_of, Writable}
use Rattle.awareness.specs.Taking.{stored}
use Rattle.awareness.proofs.Coming.{put_passes}
use Rattle.awareness.proofs.awareness.Awareness.store.Goals as goal

pub unwrap-requires : goal.unwrap-requires
unwrap-requires c = ap is_ok c.put.ensures.answer ∙ (put_passes c.self.inside.table c.args.come (subst (λ a. length (stored a.rows c.args.come) ≤ 64) (sym c.self.view_is) c.requires)).0

pub invariant_of-self : goal.invariant_of-self
invariant_of-self c =
    let is : c.put.new.self ≡ stored c.self.inside.table c.args.come = c.put.ensures.used ∙ (put_passes c.self.inside.table c.args.come (subst (λ a. length (stored a.rows c.args.come) ≤ 64) (sym c.self.view_is) c.requires)).1 in (
      c.self.invariant.0,
      subst (λ rows. ascends client_of rows ≡ true) (sym is) (ascends_entered client_of always c.self.inside.table c.args.come c.self.invariant.1),
      rw is (All-entered client_of Writable c.self.inside.table c.args.come (subst Writable c.come.view_is c.come.invariant) c.self.invariant.2),
    )

pub returns-clause-rows : goal.returns-clause-rows
returns-clause-rows c = c.put.ensures.used ∙ (put_passes c.self.inside.table c.args.come (subst (λ a. length (stored a.rows c.args.come) ≤ 64) (sym c.self.view_is) c.requires)).1 ∙ ap (λ a. stored a.rows c.args.come) c.self.view_is
