use Rattle.std.proofs.Common.{rules, ◌≡◌, length, ap}
use Rattle.message.specs.Presence.{presence}
use Rattle.awareness.specs.Summaries.{enough}
use Rattle.hub.specs.declared.run.Call.{Call}
use Rattle.hub.specs.Running.{asked, clients_lent}
use Rattle.hub.specs.Steps.{hub_of, State}
use Rattle.hub.proofs.Called.{applied_beyond, handle_beyond, handle_told, written_beyond}
use Rattle.hub.proofs.hub.Hub.call.Goals as goal

pub returns-in-Handle-clause-law : goal.returns-in-Handle-clause-law
returns-in-Handle-clause-law g c =
    let long : length c.handle.new.replies ≡ length c.args.out.now = search rules in
    let old : State g.H.DocumentHost.kind _ = record { hub = hub_of g.H.DocumentHost.kind c.args.self.now.presence (g.H.DocumentHost.document c.args.self.now.host); clock = c.args.self.now.clock; buffer = c.args.out.now } in
    let new : State g.H.DocumentHost.kind _ = record { hub = hub_of g.H.DocumentHost.kind c.handle.new.self.presence (g.H.DocumentHost.document c.handle.new.self.host); clock = c.handle.new.self.clock; buffer = c.handle.new.replies } in
    handle_told g.C.Clock.next g.C.Clock.leads g.H.DocumentHost.kind g.H.DocumentHost.LIMIT (g.P.Policy.accepts c.args.self.now.policy) c.in-Handle.bytes.now old new c.handle.result c.handle.ensures.handles long g.met.H.DocumentHost.lawful (g.P.Policy.accepts c.handle.new.self.policy) c.handle.ensures.policy (clients_lent c.args.lists.now) c.args.call
    (ap (λ (x : Call). asked x (record { bytes = c.handle.new.replies; lists = clients_lent c.args.lists.now })) c.in-Handle.is)

pub returns-in-Handle-clause-beyond : goal.returns-in-Handle-clause-beyond
returns-in-Handle-clause-beyond g c =
    let long : length c.handle.new.replies ≡ length c.args.out.now = search rules in
    let old : State g.H.DocumentHost.kind _ = record { hub = hub_of g.H.DocumentHost.kind c.args.self.now.presence (g.H.DocumentHost.document c.args.self.now.host); clock = c.args.self.now.clock; buffer = c.args.out.now } in
    let new : State g.H.DocumentHost.kind _ = record { hub = hub_of g.H.DocumentHost.kind c.handle.new.self.presence (g.H.DocumentHost.document c.handle.new.self.host); clock = c.handle.new.self.clock; buffer = c.handle.new.replies } in
    handle_beyond g.C.Clock.next g.C.Clock.leads g.H.DocumentHost.kind g.H.DocumentHost.LIMIT (g.P.Policy.accepts c.args.self.now.policy) c.in-Handle.bytes.now old new c.handle.result c.handle.ensures.handles long (clients_lent c.args.lists.now)

pub returns-in-Step1-clause-beyond : goal.returns-in-Step1-clause-beyond
returns-in-Step1-clause-beyond g c =
    let long : length c.step1.new.out ≡ length c.args.out.now = search rules in
    written_beyond _ c.step1.result c.args.out.now c.step1.new.out (clients_lent c.args.lists.now) c.written.result c.written.ensures c.step1.ensures.written long

pub returns-in-Start-clause-beyond : goal.returns-in-Start-clause-beyond
returns-in-Start-clause-beyond g c =
    let long : length c.start.new.out ≡ length c.args.out.now = search rules in
    written_beyond _ c.start.result c.args.out.now c.start.new.out (clients_lent c.args.lists.now) c.written-in-Start.result c.written-in-Start.ensures c.start.ensures.written long

pub returns-in-Apply-clause-beyond : goal.returns-in-Apply-clause-beyond
returns-in-Apply-clause-beyond g c =
    applied_beyond c.args.self.now.presence.own (g.C.Clock.next c.args.self.now.clock) c.args.self.now.presence.rows (enough c.args.lists.now) (presence c.in-Apply.update.now) c.apply.result c.args.lists.now c.apply.new.lists c.args.out.now c.applied.result c.applied.ensures c.apply.ensures.answer c.apply.ensures.lists
