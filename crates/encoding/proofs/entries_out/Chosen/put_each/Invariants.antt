use Rattle.std.proofs.Common.{take, Ok, filter}
use Rattle.encoding.specs.Writing.{row_out, Sent}
use Rattle.encoding.proofs.entries_out.Chosen.put_each.Given as goal

-- those that were taken so far have gone in
abbrev pub invariant-loop-e : goal.invariant-loop-e
invariant-loop-e g l = Sent g.S.Sink.room g.S.Sink.step l.initial.sink (Ok (row_out g.E.Entry.out (filter (g.C.Choice.takes l.self-inside.choice.now) (take l.e-index l.self-inside.entries.now)))) (Ok tt) l.sink
