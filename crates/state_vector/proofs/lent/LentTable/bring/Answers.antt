use Rattle.std.proofs.Common.{◌≡◌, length, get_or, take, sym, refl, ap, ◌∙◌, arith}
use Rattle.std.proofs.lemmas.List.{get_or-take, length-take-le}
use Rattle.state_vector.specs.Tables.{always}
use Rattle.state_vector.proofs.Offering.{replaces, keeps, comes_in, ascends_after}
use Rattle.state_vector.proofs.lent.LentTable.bring.Goals as goal

pub returns-then-stands_above-clause-used : goal.returns-then-stands_above-clause-used
returns-then-stands_above-clause-used g c above by =
    let ys = c.args.self.now.entries.now in
    let n = c.args.self.now.len in
    let e = c.args.e in
    let at = c.in-Ok.at in
    let x = c.index-self-at.result in
    let some : length (take n ys) ≡ n = length-take-le n ys c.requires.fits in
    let there : get_or (take n ys) at x ≡ get_or ys at x = get_or-take n ys at x (omega (arith, c.in-Ok.ensures.1)) in
    let stands = ap (above e) there ∙ sym (by _ _ _ c.stands_above.ensures) ∙ c.if-stands_above.true in
    c.replace.ensures.used ∙ sym (replaces g.E.Keyed.key above (length ys) (take n ys) e c.client.result c.client.ensures at c.in-Ok.ensures x stands).0

-- an entry in the place of its client's keeps the order, whatever stands above what
pub returns-then-stands_above-clause-ascends : goal.returns-then-stands_above-clause-ascends
returns-then-stands_above-clause-ascends g c =
    let ys = c.args.self.now.entries.now in
    let xs = take c.args.self.now.len ys in
    let e = c.args.e in
    ascends_after g.E.Keyed.key always (length ys) xs e _
    (c.replace.ensures.used ∙ sym (replaces g.E.Keyed.key always (length ys) xs e c.client.result c.client.ensures c.in-Ok.at c.in-Ok.ensures e refl).0) c.requires.ascends

pub returns-in-Ok-clause-used : goal.returns-in-Ok-clause-used
returns-in-Ok-clause-used g c above by =
    let ys = c.args.self.now.entries.now in
    let n = c.args.self.now.len in
    let e = c.args.e in
    let at = c.in-Ok.at in
    let x = c.index-self-at.result in
    let some : length (take n ys) ≡ n = length-take-le n ys c.requires.fits in
    let there : get_or (take n ys) at x ≡ get_or ys at x = get_or-take n ys at x (omega (arith, c.in-Ok.ensures.1)) in
    let stands = ap (above e) there ∙ sym (by _ _ _ c.stands_above.ensures) ∙ c.if-stands_above.false in
    sym (keeps g.E.Keyed.key above (length ys) (take n ys) e c.client.result c.client.ensures at c.in-Ok.ensures x stands).0

pub returns-clause-used : goal.returns-clause-used
returns-clause-used g c above by =
    let ys = c.args.self.now.entries.now in
    let n = c.args.self.now.len in
    c.insert_at.ensures.used ∙ sym (comes_in g.E.Keyed.key above (length ys) (take n ys) c.args.e c.client.result c.client.ensures c.in-Err.at c.in-Err.ensures n (length-take-le n ys c.requires.fits)).0

pub returns-clause-ascends : goal.returns-clause-ascends
returns-clause-ascends g c =
    let ys = c.args.self.now.entries.now in
    let n = c.args.self.now.len in
    ascends_after g.E.Keyed.key always (length ys) (take n ys) c.args.e _
    (c.insert_at.ensures.used ∙ sym (comes_in g.E.Keyed.key always (length ys) (take n ys) c.args.e c.client.result c.client.ensures c.in-Err.at c.in-Err.ensures n (length-take-le n ys c.requires.fits)).0) c.requires.ascends
