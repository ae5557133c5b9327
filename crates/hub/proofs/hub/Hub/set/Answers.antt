use Rattle.std.proofs.Common.{rules, ◌≡◌, true, refl, Ok}
use Rattle.awareness.specs.Calls.{set, ReadIf}
use Rattle.calls.specs.Refusals.{lifted}
use Rattle.std.proofs.Common.{is_ok}
use Rattle.hub.proofs.Making.{set_keeps}
use Rattle.hub.proofs.hub.Hub.set.Goals as goal

pub returns-in_err-set_local_state_raw-clause-law : goal.returns-in_err-set_local_state_raw-clause-law
returns-in_err-set_local_state_raw-clause-law g c =
    let answer : c.from_residual.result ≡ lifted (set c.args.self.now.presence.own (g.C.Clock.next c.args.self.now.clock) c.args.self.now.presence.rows c.args.text.now).answer = search rules in
    let clock : ReadIf g.C.Clock.leads (is_ok c.from_residual.result) c.args.self.now.clock c.set_local_state_raw.new.clock = search rules in
    set_keeps g.H.DocumentHost.kind g.H.DocumentHost.LIMIT g.met.H.DocumentHost.lawful (g.P.Policy.accepts c.args.self.now.policy) g.C.Clock.next g.C.Clock.leads
    c.args.self.now.presence.own c.args.self.now.presence.rows (g.H.DocumentHost.document c.args.self.now.host) _ c.args.self.now.clock c.set_local_state_raw.new.clock c.args.text.now c.from_residual.result
    answer c.set_local_state_raw.ensures.own c.set_local_state_raw.ensures.rows refl clock

pub returns-clause-law : goal.returns-clause-law
returns-clause-law g c =
    let answer : Ok tt ≡ lifted (set c.args.self.now.presence.own (g.C.Clock.next c.args.self.now.clock) c.args.self.now.presence.rows c.args.text.now).answer = search rules in
    let clock : ReadIf g.C.Clock.leads true c.args.self.now.clock c.set_local_state_raw.new.clock = search rules in
    set_keeps g.H.DocumentHost.kind g.H.DocumentHost.LIMIT g.met.H.DocumentHost.lawful (g.P.Policy.accepts c.args.self.now.policy) g.C.Clock.next g.C.Clock.leads
    c.args.self.now.presence.own c.args.self.now.presence.rows (g.H.DocumentHost.document c.args.self.now.host) _ c.args.self.now.clock c.set_local_state_raw.new.clock c.args.text.now (Ok tt)
    answer c.set_local_state_raw.ensures.own c.set_local_state_raw.ensures.rows refl clock
