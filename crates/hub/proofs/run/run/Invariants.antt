use Rattle.hub.specs.Steps.{hub_of}
use Rattle.hub.proofs.Runs.{Turned}
use Rattle.hub.proofs.run.run.Given as goal

-- the first i calls are made
abbrev pub invariant-loop-i : goal.invariant-loop-i
invariant-loop-i g l =
    Turned g.C.Clock.next g.C.Clock.leads g.H.DocumentHost.kind g.H.DocumentHost.LIMIT (g.P.Policy.accepts l.fn.policy) l.own l.calls l.fn.clock l.initial.answers (record { bytes = l.initial.out; lists = record { added = l.initial.added; updated = l.initial.updated; changed = l.initial.changed; removed = l.initial.removed } })
    l.i l.bytes l.clients l.answers (record { bytes = l.out; lists = record { added = l.added; updated = l.updated; changed = l.changed; removed = l.removed } }) (hub_of g.H.DocumentHost.kind l.hub.presence (g.H.DocumentHost.document l.hub.host)) l.hub.clock (g.P.Policy.accepts l.hub.policy)
