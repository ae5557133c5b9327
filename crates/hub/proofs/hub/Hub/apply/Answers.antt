use Rattle.std.proofs.Common.{rules, ◌≡◌, true, refl, Ok, is_ok}
use Rattle.std.specs.Result.{result_and}
use Rattle.message.specs.Presence.{presence}
use Rattle.awareness.specs.Calls.{apply, ReadIf}
use Rattle.awareness.specs.Summaries.{enough, lengths_of}
use Rattle.calls.specs.Refusals.{lifted}
use Rattle.hub.proofs.Making.{apply_keeps}
use Rattle.hub.proofs.hub.Hub.apply.Goals as goal

pub returns-in_err-apply_update_summary-clause-law : goal.returns-in_err-apply_update_summary-clause-law
returns-in_err-apply_update_summary-clause-law g c =
    let answer : c.from_residual.result ≡ lifted (result_and (apply (enough c.args.lists.now) c.args.self.now.presence.own (g.C.Clock.next c.args.self.now.clock) c.args.self.now.presence.rows (presence c.args.update.now)).answer (Ok (lengths_of (apply (enough c.args.lists.now) c.args.self.now.presence.own (g.C.Clock.next c.args.self.now.clock) c.args.self.now.presence.rows (presence c.args.update.now)).changes))) = search rules in
    let clock : ReadIf g.C.Clock.leads (is_ok (c.from_residual.result)) c.args.self.now.clock c.apply_update_summary.new.clock = search rules in
    apply_keeps g.H.DocumentHost.kind g.H.DocumentHost.LIMIT g.met.H.DocumentHost.lawful (g.P.Policy.accepts c.args.self.now.policy) g.C.Clock.next g.C.Clock.leads
    c.args.self.now.presence.own c.args.self.now.presence.rows (g.H.DocumentHost.document c.args.self.now.host) _ c.args.self.now.clock c.apply_update_summary.new.clock c.args.update.now (enough c.args.lists.now) (c.from_residual.result) c.args.lists.now c.apply_update_summary.new.lists
    answer c.apply_update_summary.ensures.lists c.apply_update_summary.ensures.own c.apply_update_summary.ensures.rows refl clock

pub returns-clause-law : goal.returns-clause-law
returns-clause-law g c =
    let answer : Ok c.in_ok-apply_update_summary.field-0 ≡ lifted (result_and (apply (enough c.args.lists.now) c.args.self.now.presence.own (g.C.Clock.next c.args.self.now.clock) c.args.self.now.presence.rows (presence c.args.update.now)).answer (Ok (lengths_of (apply (enough c.args.lists.now) c.args.self.now.presence.own (g.C.Clock.next c.args.self.now.clock) c.args.self.now.presence.rows (presence c.args.update.now)).changes))) = search rules in
    let clock : ReadIf g.C.Clock.leads true c.args.self.now.clock c.apply_update_summary.new.clock = search rules in
    apply_keeps g.H.DocumentHost.kind g.H.DocumentHost.LIMIT g.met.H.DocumentHost.lawful (g.P.Policy.accepts c.args.self.now.policy) g.C.Clock.next g.C.Clock.leads
    c.args.self.now.presence.own c.args.self.now.presence.rows (g.H.DocumentHost.document c.args.self.now.host) _ c.args.self.now.clock c.apply_update_summary.new.clock c.args.update.now (enough c.args.lists.now) (Ok c.in_ok-apply_update_summary.field-0) c.args.lists.now c.apply_update_summary.new.lists
    answer c.apply_update_summary.ensures.lists c.apply_update_summary.ensures.own c.apply_update_summary.ensures.rows refl clock
