use Rattle.std.proofs.Common.{rules, ◌≡◌, true, [], ◌∷◌, Ok, sym, subst}
use Rattle.state_vector.specs.Tables.{ascends}
use Rattle.awareness.specs.Calls.{judged}
use Rattle.awareness.specs.Newest.{Live}
use Rattle.awareness.specs.Record.{client_of, held_of}
use Rattle.awareness.specs.Taking.{taken}
use Rattle.awareness.proofs.Judging.{passes_first}
use Rattle.awareness.proofs.Own.{own_texts_stay}
use Rattle.awareness.proofs.awareness.Awareness.apply_single.Goals as goal

pub receive_at-change-requires-clause-rises : goal.receive_at-change-requires-clause-rises
receive_at-change-requires-clause-rises g c =
    let up = subst (λ a. ascends client_of a.rows ≡ true) c.self.view_is c.self.invariant.1 in
    let fine : judged c.args.self.now.own (taken c.args.self.now.own c.now.result c.args.self.now.rows (c.args.e.now ∷ [])) ≡ Ok tt = search rules in
    (passes_first c.args.self.now.own c.now.result c.args.self.now.rows c.args.e.now [] up fine).rises

pub returns-clause-own_text_stays : goal.returns-clause-own_text_stays
returns-clause-own_text_stays g c live =
    let up = subst (λ a. ascends client_of a.rows ≡ true) c.self.view_is c.self.invariant.1 in
    subst (λ rows. Live (held_of c.args.self.now.own rows)) (sym c.receive_at-change.ensures.rows) (own_texts_stay c.args.self.now.own c.now.result c.args.self.now.rows (c.args.e.now ∷ []) up live)
