use Rattle.std.proofs.Common.{◌≡◌, ◌≤◌, true, sym, ap, ◌∙◌, subst, is_ok, length}
use Rattle.state_vector.specs.Tables.{always, ascends}
use Rattle.state_vector.proofs.Entering.{ascends_entered}
use Rattle.message.proofs.Sound.{All-entered}
use Rattle.awareness.specs.Record.{client_of, Writable}
use Rattle.awareness.specs.Taking.{plain, stored}
use Rattle.awareness.proofs.Coming.{put_passes}
use Rattle.awareness.proofs.awareness.Awareness.renew.Goals as goal

pub unwrap-requires : goal.unwrap-requires
unwrap-requires c =
    let come = plain c.args.e.now.time c.args.e.now.entry.now in
    ap is_ok c.put_made.ensures.answer ∙ (put_passes c.self.inside.table come (subst (λ a. length (stored a.rows come) ≤ 64) (sym c.self.view_is) c.requires.room)).0

pub invariant_of-self : goal.invariant_of-self
invariant_of-self c =
    let come = plain c.args.e.now.time c.args.e.now.entry.now in
    let is : c.put_made.new.self ≡ stored c.self.inside.table come = c.put_made.ensures.used ∙ (put_passes c.self.inside.table come (subst (λ a. length (stored a.rows come) ≤ 64) (sym c.self.view_is) c.requires.room)).1 in (
      c.self.invariant.0,
      subst (λ rows. ascends client_of rows ≡ true) (sym is) (ascends_entered client_of always c.self.inside.table come c.self.invariant.1),
      rw is (All-entered client_of Writable c.self.inside.table come c.state-state.ensures.readable c.self.invariant.2),
    )

pub returns-clause-rows : goal.returns-clause-rows
returns-clause-rows c =
    let come = plain c.args.e.now.time c.args.e.now.entry.now in
    c.put_made.ensures.used ∙ (put_passes c.self.inside.table come (subst (λ a. length (stored a.rows come) ≤ 64) (sym c.self.view_is) c.requires.room)).1 ∙ ap (λ a. stored a.rows come) c.self.view_is
