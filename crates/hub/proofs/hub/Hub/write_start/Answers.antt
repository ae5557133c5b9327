use Rattle.std.proofs.Common.{rules, map, filter, length, Ok}
use Rattle.encoding.specs.TwoSinks.{room_of_counter, Counts}
use Rattle.encoding.specs.Writing.{Sent}
use Rattle.message.specs.Writing.{step1, awareness, drafted, message_out, Written}
use Rattle.awareness.specs.Record.{entry_of, live}
use Rattle.hub.proofs.Replies.{both_put}
use Rattle.hub.proofs.hub.Hub.write_start.Goals as goal

pub returns : goal.returns
returns g c =
    let v = g.H.DocumentHost.kind.vector (g.H.DocumentHost.document c.args.self.now.host) in
    let es = map entry_of (filter live c.args.self.now.presence.rows) in
    let first : Written c.args.out.now 0 (message_out (step1 v)) (Ok c.in_ok-size.size) c.write_at.new.out = search rules in
    let second : Written c.write_at.new.out c.in_ok-size.size (message_out (awareness es)) (Ok c.in_ok-write_at.field-0) c.write_at-2.new.out = search rules in
    let counted : Sent room_of_counter Counts (record { count = 0; limit = length c.args.out.now }) (drafted (step1 v)) (Ok tt) c.send.new.sink = search rules in
    both_put c.args.out.now c.write_at.new.out c.write_at-2.new.out (message_out (step1 v)) (message_out (awareness es)) c.in_ok-size.size c.in_ok-write_at.field-0 c.send.new.sink first second counted
