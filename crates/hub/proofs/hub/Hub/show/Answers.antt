use Rattle.std.proofs.Common.{rules, ◌≡◌, Ok, ap}
use Rattle.std.specs.Option.{option_copied}
use Rattle.std.specs.Result.{result_and, result_map_both}
use Rattle.encoding.specs.Fields.{client_id}
use Rattle.awareness.specs.Record.{held_of}
use Rattle.calls.specs.Refusals.{asked_of}
use Rattle.law.specs.Words.{Call}
use Rattle.law.specs.Model.{looked}
use Rattle.hub.specs.Lawful.{shown_answer}
use Rattle.hub.specs.Steps.{hub_of}
use Rattle.hub.proofs.Making.{look_keeps, shown_is}
use Rattle.hub.proofs.hub.Hub.show.Goals as goal

pub returns-in_err-meta-clause-law : goal.returns-in_err-meta-clause-law
returns-in_err-meta-clause-law g c =
    let is : result_map_both option_copied (λ x. x) c.from_residual.result ≡ asked_of (result_and (client_id c.args.client) (Ok (held_of c.args.client c.args.self.now.presence.rows))) = search rules in
    look_keeps g.H.DocumentHost.kind g.H.DocumentHost.LIMIT g.met.H.DocumentHost.lawful (g.P.Policy.accepts c.args.self.now.policy) g.C.Clock.next g.C.Clock.leads (hub_of g.H.DocumentHost.kind c.args.self.now.presence (g.H.DocumentHost.document c.args.self.now.host)) c.args.self.now.clock (Call.show c.args.client) (shown_answer (result_map_both option_copied (λ x. x) c.from_residual.result))
    (λ ns. ap (looked g.H.DocumentHost.kind (hub_of g.H.DocumentHost.kind c.args.self.now.presence (g.H.DocumentHost.document c.args.self.now.host)) ns) (shown_is (client_id c.args.client) (held_of c.args.client c.args.self.now.presence.rows) (result_map_both option_copied (λ x. x) c.from_residual.result) is))

pub returns-clause-law : goal.returns-clause-law
returns-clause-law g c =
    let is : Ok (option_copied c.in_ok-meta.field-0) ≡ asked_of (result_and (client_id c.args.client) (Ok (held_of c.args.client c.args.self.now.presence.rows))) = search rules in
    look_keeps g.H.DocumentHost.kind g.H.DocumentHost.LIMIT g.met.H.DocumentHost.lawful (g.P.Policy.accepts c.args.self.now.policy) g.C.Clock.next g.C.Clock.leads (hub_of g.H.DocumentHost.kind c.args.self.now.presence (g.H.DocumentHost.document c.args.self.now.host)) c.args.self.now.clock (Call.show c.args.client) (shown_answer (Ok (option_copied c.in_ok-meta.field-0)))
    (λ ns. ap (looked g.H.DocumentHost.kind (hub_of g.H.DocumentHost.kind c.args.self.now.presence (g.H.DocumentHost.document c.args.self.now.host)) ns) (shown_is (client_id c.args.client) (held_of c.args.client c.args.self.now.presence.rows) (Ok (option_copied c.in_ok-meta.field-0)) is))
