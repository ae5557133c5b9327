use Rattle.std.proofs.Common.{rules, ◌≡◌, length, ap}
use Rattle.law.specs.Words.{Call}
use Rattle.law.specs.Model.{looked}
use Rattle.hub.specs.Lawful.{written_answer}
use Rattle.hub.specs.Steps.{hub_of}
use Rattle.hub.proofs.Making.{look_keeps, step1_is}
use Rattle.hub.proofs.hub.Hub.step1.Goals as goal

pub returns-clause-law : goal.returns-clause-law
returns-clause-law g c =
    let long : length c.write.new.out ≡ length c.args.out.now = search rules in
    look_keeps g.H.DocumentHost.kind g.H.DocumentHost.LIMIT g.met.H.DocumentHost.lawful (g.P.Policy.accepts c.args.self.now.policy) g.C.Clock.next g.C.Clock.leads (hub_of g.H.DocumentHost.kind c.args.self.now.presence (g.H.DocumentHost.document c.args.self.now.host)) c.args.self.now.clock (Call.step1 (length c.args.out.now)) (written_answer c.write.result c.write.new.out)
    (λ ns. ap (looked g.H.DocumentHost.kind (hub_of g.H.DocumentHost.kind c.args.self.now.presence (g.H.DocumentHost.document c.args.self.now.host)) ns) (step1_is g.H.DocumentHost.kind (hub_of g.H.DocumentHost.kind c.args.self.now.presence (g.H.DocumentHost.document c.args.self.now.host)) c.args.out.now c.write.new.out c.write.result (search rules) long))
