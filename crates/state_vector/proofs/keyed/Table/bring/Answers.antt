use Rattle.std.proofs.Common.{length, get_or, sym, refl, ap, ◌∙◌}
use Rattle.state_vector.specs.Tables.{always, offered}
use Rattle.state_vector.proofs.Offering.{replaces, keeps, comes_in, ascends_after, put_over}
use Rattle.state_vector.proofs.keyed.Table.bring.Goals as goal

pub returns-then-stands_above-clause-used : goal.returns-then-stands_above-clause-used
returns-then-stands_above-clause-used g c above by =
    let e = c.args.e in
    let x = c.index-deref-at.result in
    let at = c.in-Ok.at in
    let there = ap (λ ys. get_or ys at x) (sym (c.deref.ensures.0 ∙ c.self.view_is)) ∙ sym c.index-deref-at.is in
    put_over c.self.inside.entries c.deref_mut.result.now c.args.self.now at e c.deref_mut.ensures.value c.self.view_is
    ∙ sym (replaces g.E.Keyed.key above g.row.N c.args.self.now e c.client.result c.client.ensures at c.in-Ok.ensures x (ap (above e) there ∙ sym (by _ _ _ c.stands_above.ensures) ∙ c.if-stands_above.true)).0

-- an entry in the place of its client's keeps the order, whatever stands above what
pub invariant_of-self : goal.invariant_of-self
invariant_of-self g c =
    let e = c.args.e in
    let v = c.self.inside.entries in
    let at = c.in-Ok.at in
    ascends_after g.E.Keyed.key always g.row.N v.items e _
    (put_over v c.deref_mut.result.now v.items at e c.deref_mut.ensures.value refl ∙ sym (replaces g.E.Keyed.key always g.row.N v.items e c.client.result c.client.ensures at (rw c.self.view_is c.in-Ok.ensures) e refl).0) c.self.invariant

pub returns-else-stands_above-clause-used : goal.returns-else-stands_above-clause-used
returns-else-stands_above-clause-used g c above by =
    let e = c.args.e in
    let x = c.index-deref-at.result in
    let at = c.in-Ok.at in
    let there = ap (λ ys. get_or ys at x) (sym (c.deref.ensures.0 ∙ c.self.view_is)) ∙ sym c.index-deref-at.is in
    sym (keeps g.E.Keyed.key above g.row.N c.args.self.now e c.client.result c.client.ensures at c.in-Ok.ensures x (ap (above e) there ∙ sym (by _ _ _ c.stands_above.ensures) ∙ c.if-stands_above.false)).0

pub returns-in-Err-clause-used : goal.returns-in-Err-clause-used
returns-in-Err-clause-used g c above by =
    let v = c.self.inside.entries in
    let r = comes_in g.E.Keyed.key above g.row.N v.items c.args.e c.client.result c.client.ensures c.in-Err.at (rw c.self.view_is c.in-Err.ensures) (length v.items) refl in
    c.insert_at.ensures.used ∙ sym r.0 ∙ ap (λ ys. offered g.E.Keyed.key above g.row.N ys c.args.e) c.self.view_is

pub invariant_of-self-in-Err-1 : goal.invariant_of-self-in-Err-1
invariant_of-self-in-Err-1 g c =
    let v = c.self.inside.entries in
    let r = comes_in g.E.Keyed.key always g.row.N v.items c.args.e c.client.result c.client.ensures c.in-Err.at (rw c.self.view_is c.in-Err.ensures) (length v.items) refl in
    ascends_after g.E.Keyed.key always g.row.N v.items c.args.e _ (c.insert_at.ensures.used ∙ sym r.0) c.self.invariant
