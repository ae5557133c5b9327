use Rattle.std.proofs.Common.{◌+◌, ◌≤◌, length, arith}
use Rattle.encoding.specs.Writing.{shortest}
use Rattle.encoding.proofs.Sendings.{buffer_sent}
use Rattle.encoding.proofs.Shortest.{some_shortest}
use Rattle.encoding.proofs.entries_out.Chosen.write_buf.Goals as goal

pub returns : goal.returns
returns g c =
    let n = c.in_ok-len.ensures in
    let k = some_shortest c.in_ok-len.len in
    let l : length (shortest c.in_ok-len.len) + c.in_ok-len.len ≤ g.S.Sink.room c.args.sink.now = omega (arith, c.in_ok-write_var.ensures.0, c.left-room.ensures) in
    buffer_sent g.S.Sink.room g.S.Sink.step _ _ _ c.in_ok-len.len _ tt c.put_counted.result n.0 n.1 l c.in_ok-write_var-2.ensures c.put_counted.ensures
