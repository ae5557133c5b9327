use Rattle.std.proofs.Common.{◌+◌, ◌^◌, ◌<◌, ◌≤◌, length, ap, arith}
use Rattle.encoding.specs.Writing.{shortest}
use Rattle.encoding.proofs.Rows.{buffer_writes}
use Rattle.encoding.proofs.Runs.{put_then}
use Rattle.encoding.proofs.write.write_buf.Goals as goal

pub returns : goal.returns
returns g c =
    let bytes = c.args.bytes.now in
    let fits : length c.args.bytes.now < 2 ^ 32 = omega arith in
    let enough : length (shortest (length c.args.bytes.now)) + length c.args.bytes.now ≤ g.S.Sink.room c.args.sink.now = omega (arith, ap length c.spelling.ensures) in
    buffer_writes g.S.Sink.room g.S.Sink.step c.args.sink.now c.put_all.new.self bytes c.put_all.result fits (put_then g.S.Sink.room g.S.Sink.step c.args.sink.now c.write_var.new.sink c.put_all.new.self (shortest (length bytes)) bytes c.in_ok-write_var.field-0 c.put_all.result enough c.in_ok-write_var.ensures c.put_all.ensures)
