use Rattle.std.proofs.Common.{rules, ◌≡◌, true, List, [], ◌++◌, length, ap, subst}
use Rattle.state_vector.specs.Tables.{ascends}
use Rattle.awareness.specs.Newest.{Live}
use Rattle.awareness.specs.Record.{Record, client_of, held_of}
use Rattle.calls.specs.Handling.{Handling}
use Rattle.law.proofs.Texts.{own_texts_stay_live}
use Rattle.hub.specs.Steps.{hub_of}
use Rattle.hub.proofs.Making.{handle_keeps}
use Rattle.hub.proofs.hub.Hub.handle.Goals as goal

pub returns-clause-law : goal.returns-clause-law
returns-clause-law g c = handle_keeps g.H.DocumentHost.kind g.H.DocumentHost.LIMIT g.met.H.DocumentHost.lawful (g.P.Policy.accepts c.args.self.now.policy) _ c.handle_each.ensures.policy g.C.Clock.next g.C.Clock.leads c.args.bytes.now _ _ c.handle_each.result c.handle_each.ensures.handles

pub returns-clause-own_text_stays : goal.returns-clause-own_text_stays
returns-clause-own_text_stays g c =
    let own = c.args.self.now.presence.own in
    let up : ascends client_of c.args.self.now.presence.rows ≡ true = search rules in
    let h = c.handle_each.ensures.handles in
    λ live. subst (λ (rows : List Record). Live (held_of own rows)) (ap (λ (x : Handling g.H.DocumentHost.kind g.H.DocumentHost.LIMIT (g.P.Policy.accepts c.args.self.now.policy)). x.hub.rows) (h.does []))
    ((own_texts_stay_live g.H.DocumentHost.kind g.H.DocumentHost.LIMIT).of_a_handle (g.P.Policy.accepts c.args.self.now.policy) (length c.args.replies.now) (h.readings ++ []) (hub_of g.H.DocumentHost.kind c.args.self.now.presence (g.H.DocumentHost.document c.args.self.now.host)) c.args.bytes.now up live)
