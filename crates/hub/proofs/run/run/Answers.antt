use Rattle.std.proofs.Common.{rules, ◌≡◌, length}
use Rattle.hub.specs.Running.{places_lent}
use Rattle.hub.specs.Steps.{hub_of}
use Rattle.hub.proofs.Runs.{turn, all_made}
use Rattle.hub.proofs.run.run.Goals as goal

pub loop-i-preserved : goal.loop-i-preserved
loop-i-preserved g c =
    turn g.C.Clock.next g.C.Clock.leads g.H.DocumentHost.kind g.H.DocumentHost.LIMIT (g.P.Policy.accepts c.args.policy) c.args.own c.args.calls.now c.args.clock c.args.answers.now (places_lent c.args.lent)
    c.loop-i.i c.loop-i.bytes c.loop-i.clients c.loop-i.answers (record { bytes = c.loop-i.out; lists = record { added = c.loop-i.added; updated = c.loop-i.updated; changed = c.loop-i.changed; removed = c.loop-i.removed } }) (hub_of g.H.DocumentHost.kind c.loop-i.hub.presence (g.H.DocumentHost.document c.loop-i.hub.host)) c.loop-i.hub.clock (g.P.Policy.accepts c.loop-i.hub.policy) c.loop-i.invariant.so_far
    _ c.call_into-answer.result (record { bytes = c.call_into-answer.new.out; lists = record { added = c.call_into-answer.new.added; updated = c.call_into-answer.new.updated; changed = c.call_into-answer.new.changed; removed = c.call_into-answer.new.removed } }) (hub_of g.H.DocumentHost.kind c.call_into-answer.new.self.presence (g.H.DocumentHost.document c.call_into-answer.new.self.host)) c.call_into-answer.new.self.clock (g.P.Policy.accepts c.call_into-answer.new.self.policy)
    c.call_into-answer.ensures.law c.call_into-answer.ensures.beyond c.call_into-answer.ensures.policy (search rules) (search rules) _ c.bytes-bytes.ensures _ c.clients-listed.ensures

pub returns-clause-law : goal.returns-clause-law
returns-clause-law g c =
    let all : c.loop-i.i ≡ length c.args.calls.now = search rules in
    all_made g.C.Clock.next g.C.Clock.leads g.H.DocumentHost.kind g.H.DocumentHost.LIMIT (g.P.Policy.accepts c.args.policy) c.args.own c.args.calls.now c.args.clock c.args.answers.now (places_lent c.args.lent)
    c.loop-i.i c.loop-i.bytes c.loop-i.clients c.loop-i.answers (record { bytes = c.loop-i.out; lists = record { added = c.loop-i.added; updated = c.loop-i.updated; changed = c.loop-i.changed; removed = c.loop-i.removed } }) (hub_of g.H.DocumentHost.kind c.loop-i.hub.presence (g.H.DocumentHost.document c.loop-i.hub.host)) c.loop-i.hub.clock (g.P.Policy.accepts c.loop-i.hub.policy) g.met.H.DocumentHost.lawful all c.loop-i.invariant.so_far
