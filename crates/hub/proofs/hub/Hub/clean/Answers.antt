use Rattle.std.proofs.Common.{rules, ◌≡◌, ◌&&◌, true, refl, Ok, is_ok, is_none}
use Rattle.awareness.specs.Calls.{remove, ReadIf}
use Rattle.awareness.specs.Record.{held_of}
use Rattle.calls.specs.Refusals.{lifted}
use Rattle.law.specs.Words.{Call}
use Rattle.hub.proofs.Making.{remove_keeps}
use Rattle.hub.proofs.hub.Hub.clean.Goals as goal

pub returns-in_err-clean_local_state-clause-law : goal.returns-in_err-clean_local_state-clause-law
returns-in_err-clean_local_state-clause-law g c =
    let answer : c.from_residual.result ≡ lifted (remove c.args.self.now.presence.own (g.C.Clock.next c.args.self.now.clock) c.args.self.now.presence.rows).answer = search rules in
    let clock : ReadIf g.C.Clock.leads (is_ok (c.from_residual.result) && is_none (held_of c.args.self.now.presence.own c.args.self.now.presence.rows)) c.args.self.now.clock c.clean_local_state.new.clock = search rules in
    remove_keeps g.H.DocumentHost.kind g.H.DocumentHost.LIMIT g.met.H.DocumentHost.lawful (g.P.Policy.accepts c.args.self.now.policy) g.C.Clock.next g.C.Clock.leads
    c.args.self.now.presence.own c.args.self.now.presence.rows (g.H.DocumentHost.document c.args.self.now.host) _ c.args.self.now.clock c.clean_local_state.new.clock c.args.self.now.presence.own Call.clean (λ ns. refl) (c.from_residual.result)
    answer c.clean_local_state.ensures.own c.clean_local_state.ensures.rows refl clock

pub returns-clause-law : goal.returns-clause-law
returns-clause-law g c =
    let answer : Ok tt ≡ lifted (remove c.args.self.now.presence.own (g.C.Clock.next c.args.self.now.clock) c.args.self.now.presence.rows).answer = search rules in
    let clock : ReadIf g.C.Clock.leads (true && is_none (held_of c.args.self.now.presence.own c.args.self.now.presence.rows)) c.args.self.now.clock c.clean_local_state.new.clock = search rules in
    remove_keeps g.H.DocumentHost.kind g.H.DocumentHost.LIMIT g.met.H.DocumentHost.lawful (g.P.Policy.accepts c.args.self.now.policy) g.C.Clock.next g.C.Clock.leads
    c.args.self.now.presence.own c.args.self.now.presence.rows (g.H.DocumentHost.document c.args.self.now.host) _ c.args.self.now.clock c.clean_local_state.new.clock c.args.self.now.presence.own Call.clean (λ ns. refl) (Ok tt)
    answer c.clean_local_state.ensures.own c.clean_local_state.ensures.rows refl clock
