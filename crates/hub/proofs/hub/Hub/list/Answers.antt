use Rattle.std.proofs.Common.{rules, ◌≡◌, length, Ok, ap}
use Rattle.awareness.specs.Calls.{listing}
use Rattle.calls.specs.Refusals.{Put, row_of}
use Rattle.law.specs.Words.{Call}
use Rattle.law.specs.Model.{looked}
use Rattle.hub.specs.Lawful.{written_answer}
use Rattle.hub.specs.Steps.{hub_of}
use Rattle.hub.proofs.Making.{look_keeps, list_is}
use Rattle.hub.proofs.hub.Hub.list.Goals as goal

pub returns-in_err-update_with_clients-clause-law : goal.returns-in_err-update_with_clients-clause-law
returns-in_err-update_with_clients-clause-law g c =
    let long : length c.update_with_clients.new.out ≡ length c.args.out.now = search rules in
    let put : Put c.args.out.now (row_of (listing c.args.self.now.presence.rows c.args.clients.now)) (c.from_residual.result) c.update_with_clients.new.out = search rules in
    look_keeps g.H.DocumentHost.kind g.H.DocumentHost.LIMIT g.met.H.DocumentHost.lawful (g.P.Policy.accepts c.args.self.now.policy) g.C.Clock.next g.C.Clock.leads (hub_of g.H.DocumentHost.kind c.args.self.now.presence (g.H.DocumentHost.document c.args.self.now.host)) c.args.self.now.clock (Call.list c.args.clients.now (length c.args.out.now)) (written_answer (c.from_residual.result) c.update_with_clients.new.out)
    (λ ns. ap (looked g.H.DocumentHost.kind (hub_of g.H.DocumentHost.kind c.args.self.now.presence (g.H.DocumentHost.document c.args.self.now.host)) ns) (list_is g.H.DocumentHost.kind (listing c.args.self.now.presence.rows c.args.clients.now) c.args.out.now c.update_with_clients.new.out (c.from_residual.result) put long))

pub returns-clause-law : goal.returns-clause-law
returns-clause-law g c =
    let long : length c.update_with_clients.new.out ≡ length c.args.out.now = search rules in
    let put : Put c.args.out.now (row_of (listing c.args.self.now.presence.rows c.args.clients.now)) (Ok c.in_ok-update_with_clients.field-0) c.update_with_clients.new.out = search rules in
    look_keeps g.H.DocumentHost.kind g.H.DocumentHost.LIMIT g.met.H.DocumentHost.lawful (g.P.Policy.accepts c.args.self.now.policy) g.C.Clock.next g.C.Clock.leads (hub_of g.H.DocumentHost.kind c.args.self.now.presence (g.H.DocumentHost.document c.args.self.now.host)) c.args.self.now.clock (Call.list c.args.clients.now (length c.args.out.now)) (written_answer (Ok c.in_ok-update_with_clients.field-0) c.update_with_clients.new.out)
    (λ ns. ap (looked g.H.DocumentHost.kind (hub_of g.H.DocumentHost.kind c.args.self.now.presence (g.H.DocumentHost.document c.args.self.now.host)) ns) (list_is g.H.DocumentHost.kind (listing c.args.self.now.presence.rows c.args.clients.now) c.args.out.now c.update_with_clients.new.out (Ok c.in_ok-update_with_clients.field-0) put long))
