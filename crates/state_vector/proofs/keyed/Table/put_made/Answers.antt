use Rattle.std.proofs.Common.{length, set, sym, refl, ap, ◌∙◌}
use Rattle.state_vector.specs.Tables.{always, offered}
use Rattle.state_vector.proofs.Offering.{replaces, comes_in, ascends_after, found_at, missing_at}
use Rattle.state_vector.proofs.keyed.Table.put_made.Goals as goal

pub invariant_of-self : goal.invariant_of-self
invariant_of-self g c =
    let e = g.E.Renew.made c.args.from.now in
    let v = c.self.inside.entries in
    let at = c.in-Ok.at in
    ascends_after g.E.Keyed.key always g.row.N v.items e _
    (c.renew_at.ensures ∙ sym (replaces g.E.Keyed.key always g.row.N v.items e (g.E.Keyed.key e) refl at (rw c.self.view_is (found_at g.E.Keyed.key (g.E.Keyed.key e) c.args.self.now c.args.place at c.in-Ok.is c.requires)) e refl).0) c.self.invariant

pub returns-in-Ok-clause-answer : goal.returns-in-Ok-clause-answer
returns-in-Ok-clause-answer g c =
    let e = g.E.Renew.made c.args.from.now in
    sym (replaces g.E.Keyed.key always g.row.N c.args.self.now e (g.E.Keyed.key e) refl c.in-Ok.at (found_at g.E.Keyed.key (g.E.Keyed.key e) c.args.self.now c.args.place c.in-Ok.at c.in-Ok.is c.requires) e refl).1

pub returns-in-Ok-clause-used : goal.returns-in-Ok-clause-used
returns-in-Ok-clause-used g c =
    let e = g.E.Renew.made c.args.from.now in
    let at = c.in-Ok.at in
    c.renew_at.ensures ∙ ap (λ ys. set ys at e) c.self.view_is ∙ sym (replaces g.E.Keyed.key always g.row.N c.args.self.now e (g.E.Keyed.key e) refl at (found_at g.E.Keyed.key (g.E.Keyed.key e) c.args.self.now c.args.place at c.in-Ok.is c.requires) e refl).0

pub returns-in-Err-clause-used : goal.returns-in-Err-clause-used
returns-in-Err-clause-used g c =
    let m = g.E.Renew.made c.args.from.now in
    let e = c.renew.new.self in
    let v = c.self.inside.entries in
    let r = comes_in g.E.Keyed.key always g.row.N v.items e (g.E.Keyed.key m) (sym (ap g.E.Keyed.key c.renew.ensures)) c.in-Err.at (rw c.self.view_is (missing_at g.E.Keyed.key (g.E.Keyed.key m) c.args.self.now c.args.place c.in-Err.at c.in-Err.is c.requires)) (length v.items) refl in
    c.insert_at.ensures.used ∙ sym r.0 ∙ ap (λ ys. offered g.E.Keyed.key always g.row.N ys e) c.self.view_is ∙ ap (offered g.E.Keyed.key always g.row.N c.args.self.now) c.renew.ensures

pub invariant_of-self-in-Err : goal.invariant_of-self-in-Err
invariant_of-self-in-Err g c =
    let m = g.E.Renew.made c.args.from.now in
    let e = c.renew.new.self in
    let v = c.self.inside.entries in
    let r = comes_in g.E.Keyed.key always g.row.N v.items e (g.E.Keyed.key m) (sym (ap g.E.Keyed.key c.renew.ensures)) c.in-Err.at (rw c.self.view_is (missing_at g.E.Keyed.key (g.E.Keyed.key m) c.args.self.now c.args.place c.in-Err.at c.in-Err.is c.requires)) (length v.items) refl in
    ascends_after g.E.Keyed.key always g.row.N v.items e _ (c.insert_at.ensures.used ∙ sym r.0) c.self.invariant
