use Rattle.std.proofs.Common.{rules, ◌≡◌, length, ap}
use Rattle.law.specs.Words.{Call}
use Rattle.law.specs.Model.{looked}
use Rattle.hub.specs.Lawful.{written_answer}
use Rattle.hub.specs.Steps.{hub_of}
use Rattle.hub.proofs.Making.{look_keeps, start_is}
use Rattle.hub.proofs.hub.Hub.start.Goals as goal

pub returns-clause-law : goal.returns-clause-law
returns-clause-law g c =
    let long : length c.write_start.new.out ≡ length c.args.out.now = search rules in
    look_keeps g.H.DocumentHost.kind g.H.DocumentHost.LIMIT g.met.H.DocumentHost.lawful (g.P.Policy.accepts c.args.self.now.policy) g.C.Clock.next g.C.Clock.leads (hub_of g.H.DocumentHost.kind c.args.self.now.presence (g.H.DocumentHost.document c.args.self.now.host)) c.args.self.now.clock (Call.start (length c.args.out.now)) (written_answer c.write_start.result c.write_start.new.out)
    (λ ns. ap (looked g.H.DocumentHost.kind (hub_of g.H.DocumentHost.kind c.args.self.now.presence (g.H.DocumentHost.document c.args.self.now.host)) ns) (start_is g.H.DocumentHost.kind (hub_of g.H.DocumentHost.kind c.args.self.now.presence (g.H.DocumentHost.document c.args.self.now.host)) c.args.out.now c.write_start.new.out c.write_start.result c.write_start.ensures long))
